-- Where the grid is the footprint its weights are the texels'; else the infill of them is the definition.
use mathlib.Core.Path.{◌≡◌, ◌∙◌}
use lib.ListN.{replicate}
use Rattle.weights_unquantise.specs.Unquantise.{weight_of}
use Rattle.weights_unquantise.specs.Forms.{each}
use Rattle.weights_grid.specs.Grids.{count_of}
use Rattle.weights.specs.DecodeLaws.{infill-is, whole_is}
use Rattle.footprint.specs.Footprints.{most_weights}
use Rattle.weights.proofs.decode_wide.Goals as goal

pub returns-then-g : goal.returns-then-g
returns-then-g c =
    let a = c.args in
    let e : c.unquantize.new.out ≡ each (weight_of a.q) a.seq.now (count_of a.g) (replicate most_weights 0) = rw (← c.requires.1, ← c.requires.0.clear) c.unquantize.ensures in
    whole_is a.g a.q a.seq.now _ c.requires.0.fits c.requires.0.encoded e c.requires.2 c.requires.3 c.if-g.true

pub returns : goal.returns
returns c =
    let a = c.args in
    let e : c.unquantize-2.new.out ≡ each (weight_of a.q) a.seq.now (count_of a.g) (replicate most_weights 0) = rw (← c.requires.1) c.unquantize-2.ensures in
    c.fill_down.ensures ∙ infill-is a.g a.q a.seq.now _ c.requires.0.fits c.requires.0.encoded e
