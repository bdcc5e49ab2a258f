-- `partition_ramps::ramp_of` meets its contract: the slopes are the factors of the hash, doubled where the standard doubles the coordinates. Assumes nothing.
use Rattle.partition_ramps.specs.Ramps.{factor}
use Rattle.std.proofs.Common.{◌+◌, ◌*◌, ap, ◌∙◌, arith}
use Rattle.partition_ramps.specs.RampLaws.{x-bounds, y-bounds, ramp-made}
use Rattle.partition_ramps.proofs.ramp_of.Goals as goal

pub slope-requires : goal.slope-requires
slope-requires c = let a = c.args in let b = x-bounds a.seed a.parts in omega (arith, c.shift_x.ensures)

pub slope-requires-2 : goal.slope-requires-2
slope-requires-2 c =
    let a = c.args in let b = y-bounds a.seed a.parts in omega (arith, c.shift_y.ensures)

pub returns : goal.returns
returns c =
    let a = c.args in
    ramp-made a.seed a.parts a.i a.scale a.r _ _ c.requires.0
    (c.slope.ensures.0 ∙ ap (factor a.r (8 * a.i)) c.shift_x.ensures)
    (c.slope-2.ensures.0 ∙ ap (factor a.r (8 * a.i + 4)) c.shift_y.ensures)
