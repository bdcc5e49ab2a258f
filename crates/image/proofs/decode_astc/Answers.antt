-- `image::decode_astc` is refused, or paints all blocks. Assumes nothing.
use Rattle.answers.specs.ResultLaws.{refused-some}
use Rattle.image_shape.specs.ShapeLaws.{accepted, total-least}
use Rattle.image.specs.StepLaws.{image-refused, image-painted}
use native.Mathlib.Omega.{arith}
use mathlib.Core.Path.{refl, sym}
use Rattle.image.proofs.decode_astc.Goals as goal

pub returns-in_err-bounded-clause-out_after : goal.returns-in_err-bounded-clause-out_after
returns-in_err-bounded-clause-out_after c =
    image-refused _ _ _ _ c.in_err-bounded.ensures.refusal (refused-some _)

pub paint_blocks-requires : goal.paint_blocks-requires
paint_blocks-requires c =
    let passed = c.in_ok-bounded in
    let sized = accepted _ _ _ (sym passed.ensures.refusal) in
    record {
      sized = rw passed.ensures.shape sized;
      in_order = omega (arith, total-least _ passed.bounded.bounds, c.total-end.ensures.0);
      in_image = omega (arith, c.total-end.ensures.0);
    }

pub returns : goal.returns
returns c =
    let passed = c.in_ok-bounded in
    let shape = passed.ensures.shape in
    record {
      value = passed.ensures.refusal;
      out_after = image-painted _ _ _ _ passed.ensures.refusal _ _ refl (rw shape at c.total-end.ensures.0) (rw shape at c.paint_blocks.ensures.out_after);
    }
