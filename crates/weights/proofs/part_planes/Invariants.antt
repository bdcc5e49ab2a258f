-- The first i texels of each plane are told apart.
use mathlib.Core.Path.{◌≡◌}
use Rattle.laws.specs.Lists.{list_of}
use Rattle.weights.specs.Parted.{parted_to}
use Rattle.footprint.specs.Footprints.{most_weights}
use Rattle.weights.proofs.part_planes.Given as goal

abbrev pub invariant-loop-i : goal.invariant-loop-i
invariant-loop-i l = l.out ≡ list_of (parted_to l.wv l.i) 0 most_weights
