-- The texels of the rows before t are filled; past them stand zeros, which a row may put again.
use mathlib.Core.Path.{◌≡◌}
use Prim.Native.Nat.{◌*◌}
use Rattle.laws.specs.Lists.{list_of}
use Rattle.weights_infill.specs.Fast.{rows_of}
use Rattle.weights_infill.specs.FillLaws.{texels_to}
use Rattle.footprint.specs.Footprints.{most_weights}
use Rattle.weights_infill.proofs.fill_rows.Given as goal

abbrev pub invariant-loop-t : goal.invariant-loop-t
invariant-loop-t l = (l.o ≡ l.t * l.g.footprint.width) × (l.out ≡ list_of (texels_to l.g.footprint.width l.o (rows_of l.g l.pairs l.part)) 0 most_weights)
