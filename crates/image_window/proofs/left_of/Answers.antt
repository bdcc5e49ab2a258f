-- `image_window::left_of`: the blocks of a row start inside the image, so that the product fits. Assumes nothing.
use Rattle.image_window.specs.Places.{starts-inside}
use Prim.Native.Nat.{◌*◌, ◌<◌}
use mathlib.Core.Path.{refl}
use native.Mathlib.Omega.{arith}
use Rattle.image_window.proofs.left_of.Goals as goal

pub overflow_mul-result : goal.overflow_mul-result
overflow_mul-result c = let l : c.args.x * c.args.m.shape.footprint.width < c.args.m.shape.width = starts-inside c.args.m.shape.width c.args.m.shape.footprint.width c.args.x c.args.m.bounds.sides.column c.requires in omega (arith, l, c.args.m.bounds.width.1)

pub returns : goal.returns
returns c = (refl, starts-inside c.args.m.shape.width c.args.m.shape.footprint.width c.args.x c.args.m.bounds.sides.column c.requires)
