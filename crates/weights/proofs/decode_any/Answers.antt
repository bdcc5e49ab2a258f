-- The grid's weights are the standard's, and the infill of them is the definition.
use mathlib.Core.Path.{◌≡◌, ◌∙◌}
use lib.ListN.{replicate}
use Rattle.weights_unquantise.specs.Unquantise.{weight_of}
use Rattle.weights_unquantise.specs.Forms.{each}
use Rattle.weights_grid.specs.Grids.{count_of}
use Rattle.weights.specs.DecodeLaws.{grid-le, grid-zero, infill-is}
use Rattle.footprint.specs.Footprints.{most_weights}
use Rattle.weights.proofs.decode_any.Goals as goal

pub infill-requires : goal.infill-requires
infill-requires c =
    let grid : c.unquantize.new.out ≡ each (weight_of c.args.q) c.args.seq.now (count_of c.args.g) (replicate most_weights 0) = rw (← c.requires.1) c.unquantize.ensures in
    record { fits = (c.requires.0.fits, c.requires.1, c.requires.0.clear); past = grid-zero c.args.g c.args.q c.args.seq.now _ c.requires.0.fits c.requires.0.encoded grid; light = grid-le c.args.g c.args.q c.args.seq.now _ c.requires.0.fits c.requires.0.encoded grid }

pub returns : goal.returns
returns c =
    let grid : c.unquantize.new.out ≡ each (weight_of c.args.q) c.args.seq.now (count_of c.args.g) (replicate most_weights 0) = rw (← c.requires.1) c.unquantize.ensures in
    c.infill.ensures ∙ infill-is c.args.g c.args.q c.args.seq.now _ c.requires.0.fits c.requires.0.encoded grid
