-- At each turn the values before i are in their places, and s is what is left of w from their next group on; past n they are cleared.
use mathlib.Core.Path.{◌∙◌}
use Prim.Native.Nat.{◌+◌}
use native.Mathlib.Omega.{arith}
use Rattle.bits.specs.Blocks.{value_of}
use Rattle.sequence_ranges.specs.Ranges.{range}
use Rattle.sequence_groups.specs.TurnLaws.{turned-first, turned-last}
use Rattle.sequence_values.proofs.decode_packed.Goals as goal
use Rattle.sequence_values.proofs.decode_packed.Goals.{else-loop-i-test, then-loop-i-test+else-i-step-n}

pub loop-i-init : goal.loop-i-init
loop-i-init g c = turned-first (range g.P.Packing.kind c.args.b) (value_of c.args.w) c.args.n c.args.out.now c.requires.0

-- a turn, by the law of the packing
pub loop-i-preserved : goal.loop-i-preserved
loop-i-preserved g c =
    rw c.VALUES-i-step.ensures
    (g.met.P.Packing.turn c.args.b _ _ _ _ _ _ _ c.loop-i-test.true c.requires.1 c.loop-i.invariant c.put.ensures (rw c.size-size.ensures at c.skip-s.ensures))

-- the loop ends before a turn at n or past it, or after a turn that reaches n
pub returns : goal.returns
returns g c =
    elim c.loop-i-test.branch [
      | else-loop-i-test w ↦
          turned-last (range g.P.Packing.kind c.args.b) (value_of c.args.w) c.args.n c.loop-i.i _ c.loop-i.out c.clear.new.out (omega arith) c.loop-i.invariant
          (rw w.out-is at c.clear.ensures)
      | then-loop-i-test+else-i-step-n w ↦
          turned-last (range g.P.Packing.kind c.args.b) (value_of c.args.w) c.args.n (c.loop-i.i + g.P.Packing.VALUES) _ w.put.new.out c.clear.new.out (omega (arith, c.VALUES-i-step.ensures))
          (g.met.P.Packing.turn c.args.b _ _ _ _ _ _ _ w.loop-i-test.true c.requires.1 c.loop-i.invariant w.put.ensures (rw c.size-size.ensures at w.skip-s.ensures))
          (rw w.out-is at c.clear.ensures)
    ]
