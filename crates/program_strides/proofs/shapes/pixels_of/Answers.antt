-- At most 40 by 32.
use native.Mathlib.Nat.{mul-le-mul}
use native.Mathlib.Omega.{arith}
use Rattle.program_strides.proofs.shapes.pixels_of.Goals as goal

pub overflow_mul-result : goal.overflow_mul-result
overflow_mul-result c = omega (arith, mul-le-mul c.args.start.bounds.width c.args.start.bounds.height)
