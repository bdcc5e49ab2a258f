-- `block_refusal::refusal` meets its contract: each way out is a law of RefusalLaws. Assumes nothing.
use Rattle.answers.specs.ResultLaws.{passed-refused, refused-some}
use Rattle.block_refusal.specs.RefusalLaws.{first-accepted, out_first, out-22, out-0}
use Rattle.footprint.specs.Sides.{sides-of}
use native.Mathlib.Omega.{arith}
use mathlib.Core.Path.{sym, ◌∙◌}
use Rattle.block_refusal.proofs.refusal.Goals as goal

pub returns-in_err-first_refusal : goal.returns-in_err-first_refusal
returns-in_err-first_refusal c =
    let e = c.in_err-first_refusal.field-0.0 in
    passed-refused _ e c.from_residual.ensures.1 ∙ out_first _ _ _ _ c.in_err-first_refusal.ensures (refused-some e)

pub overflow_mul-f : goal.overflow_mul-f
overflow_mul-f c = omega (arith, (sides-of _ (first-accepted _ _ (sym c.in_ok-first_refusal.ensures)).1).texels)

pub returns-then-room-f : goal.returns-then-room-f
returns-then-room-f c = out-22 _ _ _ (sym c.in_ok-first_refusal.ensures) c.if-room-f.true

pub returns : goal.returns
returns c = out-0 _ _ _ (sym c.in_ok-first_refusal.ensures) c.if-room-f.false
