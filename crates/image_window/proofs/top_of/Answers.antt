-- `image_window::top_of`: the blocks of a column start inside the image, so that the product fits. Assumes nothing.
use Rattle.image_window.specs.Places.{starts-inside}
use Prim.Native.Nat.{◌*◌, ◌<◌}
use mathlib.Core.Path.{refl}
use native.Mathlib.Omega.{arith}
use Rattle.image_window.proofs.top_of.Goals as goal

pub overflow_mul-result : goal.overflow_mul-result
overflow_mul-result c = let l : c.args.y * c.args.m.shape.footprint.height < c.args.m.shape.height = starts-inside c.args.m.shape.height c.args.m.shape.footprint.height c.args.y c.args.m.bounds.sides.row c.requires in omega (arith, l, c.args.m.bounds.height.1)

pub returns : goal.returns
returns c = (refl, starts-inside c.args.m.shape.height c.args.m.shape.footprint.height c.args.y c.args.m.bounds.sides.row c.requires)
