-- At each turn the values before i are in their places, and s is what is left of w from their next group on.
use Prim.Native.Nat.{◌-◌}
use Rattle.bits.specs.Blocks.{value_of}
use Rattle.sequence_ranges.specs.Ranges.{range}
use Rattle.sequence_groups.specs.TurnLaws.{Turned}
use Rattle.sequence_values.proofs.decode_packed.Given as goal

abbrev pub invariant-loop-i : goal.invariant-loop-i
invariant-loop-i g l = Turned (range g.P.Packing.kind l.b) (value_of l.initial.s) l.n l.i (value_of l.s) l.out

abbrev pub decreases-loop-i : goal.decreases-loop-i
decreases-loop-i g l = l.n - l.i
