-- A byte at most counts 16 sixteenths in all.
use Prim.Native.Nat.{◌+◌, ◌*◌, ◌-◌, ◌≤◌}
use native.Mathlib.Omega.{arith}
use native.Mathlib.Nat.{mul-le-mul_right}
use Rattle.weights_infill_down.proofs.down.Goals as goal

most : (c : goal.After-from-2) → c.from.result * (16 - c.args.h) + c.from-2.result * c.args.h ≤ 255 * 16
most c =
    let a : c.from.result ≤ 255 = omega (arith, c.from.ensures, c.ranges.a) in
    let b : c.from-2.result ≤ 255 = omega (arith, c.from-2.ensures, c.ranges.b) in
    omega (arith, mul-le-mul_right (16 - c.args.h) a, mul-le-mul_right c.args.h b)

pub overflow_mul-result : goal.overflow_mul-result
overflow_mul-result c =
    let a : c.from.result ≤ 255 = omega (arith, c.from.ensures, c.ranges.a) in
    omega (arith, mul-le-mul_right (16 - c.args.h) a)

pub overflow_mul-result-2 : goal.overflow_mul-result-2
overflow_mul-result-2 c =
    let b : c.from-2.result ≤ 255 = omega (arith, c.from-2.ensures, c.ranges.b) in
    omega (arith, mul-le-mul_right c.args.h b)

pub overflow_add-result : goal.overflow_add-result
overflow_add-result c = omega (arith, most c)

pub overflow_add-result-2 : goal.overflow_add-result-2
overflow_add-result-2 c = omega (arith, most c)

pub returns : goal.returns
returns c = (rw (c.from.ensures, c.from-2.ensures), omega (arith, most c))
