-- `image::Cursor::step` meets its contract: it is refused by its checks, or paints the blocks asked for or left. Assumes nothing.
use Rattle.answers.specs.ResultLaws.{refused-some}
use Rattle.image_shape.specs.ShapeLaws.{step-accepted}
use Rattle.image.specs.StepLaws.{step-refused, step-painted}
use native.Mathlib.Omega.{arith}
use mathlib.Core.Path.{refl}
use Rattle.image.proofs.Cursor.step.Goals as goal

pub overflow_sub-end : goal.overflow_sub-end
overflow_sub-end c =
    let passed = step-accepted _ _ _ _ _ _ c.in-Ok.ensures.refusal refl in
    let shape = c.in-Ok.ensures.shape in
    omega (arith, passed.1, rw shape at c.total-end.ensures.0)

pub paint_blocks-bad-requires : goal.paint_blocks-bad-requires
paint_blocks-bad-requires c =
    let passed = step-accepted _ _ _ _ _ _ c.in-Ok.ensures.refusal refl in
    let shape = c.in-Ok.ensures.shape in
    record { sized = rw shape passed.0; in_order = omega arith; in_image = rw shape (omega (arith, passed.1, rw shape at c.total-end.ensures.0, c.min-n.ensures)) }

pub returns-in-Ok : goal.returns-in-Ok
returns-in-Ok c =
    let shape = c.in-Ok.ensures.shape in
    let both = step-painted _ _ _ _ _ c.in-Ok.ensures.refusal _ _ _ _ _ refl (rw shape at c.total-end.ensures.0) c.min-n.ensures (rw shape at c.paint_blocks-bad.ensures.value) (rw shape at c.paint_blocks-bad.ensures.out_after) c.moved.ensures in record { value = both.0; out_after = both.1 }

pub returns-in-Err : goal.returns-in-Err
returns-in-Err c =
    let both = step-refused _ _ _ _ _ c.in-Err.ensures.refusal _ (refused-some _) c.refused.ensures in record { value = both.0; out_after = both.1 }
