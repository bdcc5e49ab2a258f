-- The grid's weights, told apart, are the texels'.
use mathlib.Core.Path.{◌≡◌, ◌∙◌}
use lib.ListN.{replicate}
use Rattle.weights_unquantise.specs.Unquantise.{weight_of}
use Rattle.weights_unquantise.specs.Forms.{each}
use Rattle.weights_grid.specs.Grids.{count_of}
use Rattle.weights.specs.DecodeLaws.{planes-are}
use Rattle.footprint.specs.Footprints.{most_weights}
use Rattle.weights.proofs.decode_planes.Goals as goal

pub returns : goal.returns
returns c =
    let a = c.args in
    let e : c.unquantize.new.out ≡ each (weight_of a.q) a.seq.now (count_of a.g) (replicate most_weights 0) = rw (← c.requires.1) c.unquantize.ensures in
    rw c.requires.1 at c.part_planes.ensures ∙ planes-are a.g a.q a.seq.now _ c.requires.0.fits c.requires.0.encoded e c.requires.2 c.requires.3 c.requires.4
