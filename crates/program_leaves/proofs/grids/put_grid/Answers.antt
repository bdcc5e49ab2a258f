-- `program_leaves::put_grid` meets its contract: the sequence is one of the grid's values. Assumes nothing.
use mathlib.Core.Path.{refl}
use Rattle.program_leaves.proofs.grids.put_grid.Goals as goal

pub decode_weights-requires : goal.decode_weights-requires
decode_weights-requires c =
    let e = c.values_down-seq.ensures in
    record { fits = c.requires.0; encoded = record { range = c.requires.1.1; below = e.below; past = rw c.requires.1.0 at e.past }; clear = refl }
