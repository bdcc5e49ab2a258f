-- The places from o on hold what stands at the columns passed.
use mathlib.Core.Path.{ap}
use Prim.Native.Nat.{ℕ, ◌+◌}
use native.Mathlib.Omega.{arith}
use lib.ListN.{get_or}
use Rattle.laws.specs.Lists.{put_at-none, put_at-turn, put_at-end}
use Rattle.weights_infill.proofs.spread_row.Goals as goal

pub loop-s-init : goal.loop-s-init
loop-s-init c = put_at-none _ _ _

pub overflow_add-out : goal.overflow_add-out
overflow_add-out c = omega (arith, c.requires.2 c.loop-s.s c.loop-s-test.true)

pub offset_bounds-next-k : goal.offset_bounds-next-k
offset_bounds-next-k c = omega (arith, c.requires.2 c.loop-s.s c.loop-s-test.true)

pub bounds-next-k : goal.bounds-next-k
bounds-next-k c = omega (arith, c.requires.2 c.loop-s.s c.loop-s-test.true)

pub loop-s-preserved : goal.loop-s-preserved
loop-s-preserved c =
    put_at-turn _ _ _ _ _ _ c.loop-s.invariant
    (ap (λ (n : ℕ). get_or c.args.next.now (c.args.k + n) 0) c.from.ensures)

pub returns : goal.returns
returns c = put_at-end _ _ _ _ _ _ c.loop-s.invariant (omega arith) (omega arith)
