-- A quotient is at most the number.
use Prim.Native.Nat.{◌+◌, ◌-◌}
use native.Mathlib.Nat.{div-le_self}
use native.Mathlib.Omega.{arith}
use mathlib.Core.Path.{refl}
use Rattle.image_shape.proofs.along.Goals as goal

pub returns : goal.returns
returns c = (refl, omega (arith, div-le_self (c.args.n + (c.args.side - 1)) c.args.side))
