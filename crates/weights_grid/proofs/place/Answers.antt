-- The product of the step, the column and the grid is at most 342 * 15 * 11.
use mathlib.Core.Path.{refl}
use Prim.Native.Nat.{◌*◌, ◌-◌, ◌≤◌}
use native.Mathlib.Omega.{arith}
use native.Mathlib.Nat.{mul-le-mul}
use Rattle.weights_grid.proofs.place.Goals as goal

bound : (c : goal.Start) → (c.args.d * c.args.s ≤ 5130) × (c.args.d * c.args.s * (c.args.m - 1) ≤ 56430)
bound c =
    let p : c.args.d * c.args.s ≤ 342 * 15 = mul-le-mul {m₂ = 15} c.requires.0 (omega arith) in
    (p, mul-le-mul {m₂ = 11} p (omega arith))

pub overflow_mul-result : goal.overflow_mul-result
overflow_mul-result c = omega (arith, bound c)

pub overflow_mul-result-2 : goal.overflow_mul-result-2
overflow_mul-result-2 c = omega (arith, bound c)

pub overflow_add-result : goal.overflow_add-result
overflow_add-result c = omega (arith, bound c)

pub returns : goal.returns
returns c = (refl, omega (arith, bound c))
