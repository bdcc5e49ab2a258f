-- Each way out is what the callee promises.
use mathlib.Core.Path.{refl}
use Prim.Native.Nat.{◌*◌, ◌≤◌}
use native.Mathlib.Omega.{arith}
use native.Mathlib.Nat.{mul-le-mul}
use Rattle.weights_grid.specs.GridLaws.{sides-in}
use Rattle.weights.specs.DecodeLaws.{wide-true, whole-true}
use Rattle.weights.proofs.decode_weights.Goals as goal

pub overflow_mul-n : goal.overflow_mul-n
overflow_mul-n c =
    let l : c.args.g.width * c.args.g.height ≤ 12 * 12 =
    mul-le-mul {n₂ = 12} {m₂ = 12} (omega (arith, c.requires.fits.wide, sides-in c.requires.fits)) (omega (arith, c.requires.fits.high, sides-in c.requires.fits)) in
    omega arith

pub decode_wide-requires : goal.decode_wide-requires
decode_wide-requires c =
    let w = wide-true c.args.g (rw c.is_wide.ensures at c.if-is_wide.true) in
    (c.requires, refl, w.0, w.1)

pub decode_planes-requires : goal.decode_planes-requires
decode_planes-requires c =
    let w = whole-true c.args.g (rw c.is_whole.ensures at c.if-is_whole.true) in
    (c.requires, refl, w.0, w.1, w.2)
