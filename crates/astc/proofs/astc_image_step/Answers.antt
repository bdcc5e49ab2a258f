-- `astc::astc_image_step` meets its contract: it is refused for its places, or tells where the step led. Assumes nothing.
use Rattle.answers.specs.ResultLaws.{refusal-lt, refused-some}
use Rattle.image.specs.StepLaws.{step_small}
use Rattle.astc_checks.specs.CheckLaws.{three-places}
use Rattle.astc.specs.SurfaceLaws.{refused, stepped-on}
use Prim.Native.Nat.{◌<◌}
use mathlib.Core.Path.{refl}
use native.Mathlib.Omega.{arith}
use Rattle.astc.proofs.astc_image_step.Goals as goal

pub overflow_cast-result : goal.overflow_cast-result
overflow_cast-result c = let d = c.from in let l : d.result < 35 = rw d.ensures (refusal-lt _) in omega (arith, l)

pub returns-in-Err : goal.returns-in-Err
returns-in-Err c =
    let a = c.args in
    let both = rw c.shape-shape.ensures at (refused a.data.now (record { shape = c.shape-shape.result; next = a.next }) a.blocks a.out.now a.moved.now _ c.in-Err.ensures (refused-some _)) in
    rw c.from.ensures (record { value = both.0; out_after = both.1.0; moved_after = both.1.1 })

pub put_led-requires : goal.put_led-requires
put_led-requires c = three-places _ _ _ _ _ c.in_default.ensures refl

pub overflow_cast-result-2 : goal.overflow_cast-result-2
overflow_cast-result-2 c =
    let d = c.step-s in let l : d.result.answer < 35 = rw d.ensures.value (step_small _ _ _ _) in omega (arith, l)

pub returns : goal.returns
returns c =
    let a = c.args in
    let both = rw c.shape-shape.ensures at (stepped-on a.data.now (record { shape = c.shape-shape.result; next = a.next }) a.blocks a.out.now a.moved.now _ c.in_default.ensures _ _ _ refl c.step-s.ensures.value c.step-s.ensures.out_after c.put_led.ensures) in record { value = both.0; out_after = both.1.0; moved_after = both.1.1 }
