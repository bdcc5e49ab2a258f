-- The places before i hold pairs.
use mathlib.Core.Path.{◌≡◌}
use Rattle.laws.specs.Lists.{put}
use Rattle.weights_infill.specs.Fast.{pair_of}
use Rattle.weights_infill.proofs.neighbours.Given as goal

abbrev pub invariant-loop-i : goal.invariant-loop-i
invariant-loop-i l = l.out ≡ put (pair_of l.planes l.wv) 0 l.i l.initial.out
