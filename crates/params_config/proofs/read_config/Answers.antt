-- `params_config::read_config` meets its contract: each part of the record is the one that its function ensures. Assumes nothing.
use native.Mathlib.Omega.{arith}
use Rattle.params_config.specs.Config.{config_of}
use Rattle.params_config.specs.Bounds.{r-least, r-most, h-most, h-bit, d-most, d-bit, weights-most, grid-small}
use Rattle.params_config.proofs.read_config.Goals as goal

pub overflow_sub-weight_range : goal.overflow_sub-weight_range
overflow_sub-weight_range c = omega (arith, r-least c.args.c c.requires)

pub overflow_mul-weight_range : goal.overflow_mul-weight_range
overflow_mul-weight_range c =
    omega (arith, h-bit c.args.c _ c.dh_bit.ensures, h-most c.args.c)

pub overflow_add-weight_range : goal.overflow_add-weight_range
overflow_add-weight_range c =
    omega (arith, h-bit c.args.c _ c.dh_bit.ensures, h-most c.args.c, r-most c.args.c)

pub overflow_add-planes : goal.overflow_add-planes
overflow_add-planes c =
    omega (arith, d-bit c.args.c _ c.dh_bit-planes.ensures, d-most c.args.c)

pub weights_of-weights-requires : goal.weights_of-weights-requires
weights_of-weights-requires c =
    let k = c.args.c in
    let g = grid-small k in
    rw c.grid_of-g.ensures (g.width, (g.height, omega (arith, d-bit k _ c.dh_bit-planes.ensures, d-most k)))

pub range_bits-requires : goal.range_bits-requires
range_bits-requires c =
    let k = c.args.c in
    let h = h-bit k _ c.dh_bit.ensures in
    let d = d-bit k _ c.dh_bit-planes.ensures in
    (omega (arith, h, r-most k, h-most k), rw (c.weights_of-weights.ensures, c.grid_of-g.ensures, d) (weights-most k))

pub returns : goal.returns
unfolding config_of
returns c =
    let k = c.args.c in
    let h = h-bit k _ c.dh_bit.ensures in
    let d = d-bit k _ c.dh_bit-planes.ensures in
    simp (c.range_bits.ensures, c.weights_of-weights.ensures, c.read_partitions-p.ensures, d, h, c.r_of.ensures, c.grid_of-g.ensures)
