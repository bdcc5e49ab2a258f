-- As fill_rows: the texels of the rows before t are filled, and past a row's end a lane counts 0 times.
use mathlib.Core.Path.{◌≡◌}
use Prim.Native.Nat.{◌*◌}
use Rattle.laws.specs.Lists.{list_of}
use Rattle.weights_infill.specs.FillLaws.{texels_to}
use Rattle.weights_infill_down.specs.Down.{whole_of}
use Rattle.footprint.specs.Footprints.{most_weights}
use Rattle.weights_infill_down.proofs.fill_down.Given as goal

abbrev pub invariant-loop-t : goal.invariant-loop-t
invariant-loop-t l = (l.o ≡ l.t * l.g.footprint.width) × (l.out ≡ list_of (texels_to l.g.footprint.width l.o (whole_of l.g l.wv)) 0 most_weights)
