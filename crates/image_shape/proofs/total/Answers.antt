-- Two numbers of at most 4107.
use native.Mathlib.Nat.{mul-le-mul}
use native.Mathlib.Omega.{arith}
use Rattle.image_shape.proofs.total.Goals as goal

pub overflow_mul-result : goal.overflow_mul-result
overflow_mul-result c = omega (arith, mul-le-mul c.along.ensures.1 c.along-2.ensures.1)

pub returns : goal.returns
returns c = (rw (c.along.ensures.0, c.along-2.ensures.0), mul-le-mul c.along.ensures.1 c.along-2.ensures.1)
