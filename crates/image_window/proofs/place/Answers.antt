-- `image_window::place`: a product of sides of at most 4096 fits, and so does the sum. Assumes nothing.
use Prim.Native.Nat.{◌≤◌}
use native.Mathlib.Nat.{mul-le-mul}
use native.Mathlib.Omega.{arith}
use Rattle.image_window.proofs.place.Goals as goal

pub overflow_mul-result : goal.overflow_mul-result
overflow_mul-result c =
    let y : c.args.y ≤ 4096 = omega (arith, c.args.m.bounds.height.1, c.requires.0) in
    let x : c.args.x ≤ 4096 = omega (arith, c.args.m.bounds.width.1, c.requires.1) in
    omega (arith, mul-le-mul y c.args.m.bounds.width.1, mul-le-mul x c.args.m.bounds.width.1)

pub overflow_add-result : goal.overflow_add-result
overflow_add-result c =
    let y : c.args.y ≤ 4096 = omega (arith, c.args.m.bounds.height.1, c.requires.0) in
    let x : c.args.x ≤ 4096 = omega (arith, c.args.m.bounds.width.1, c.requires.1) in
    omega (arith, mul-le-mul y c.args.m.bounds.width.1, mul-le-mul x c.args.m.bounds.width.1, y, x)
