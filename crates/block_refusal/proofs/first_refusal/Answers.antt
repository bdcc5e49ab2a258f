-- `block_refusal::first_refusal` meets its contract: each way out is a law of RefusalLaws. Assumes nothing.
use Rattle.block_refusal.specs.RefusalLaws.{first-20, first-21, first-0}
use mathlib.Core.Path.{sym, ◌∙◌}
use native.Mathlib.Omega.{arith}
use Rattle.block_refusal.proofs.first_refusal.Goals as goal

pub returns-then-len-ne16 : goal.returns-then-len-ne16
returns-then-len-ne16 c = first-20 _ _ (λ e. omega (arith, e, c.if-len-ne16.true))

pub returns-then-is_listed : goal.returns-then-is_listed
returns-then-is_listed c = first-0 _ _ c.if-len-ne16.false (sym c.is_listed.ensures ∙ c.if-is_listed.true)

pub returns : goal.returns
returns c = first-21 _ _ c.if-len-ne16.false (sym c.is_listed.ensures ∙ c.if-is_listed.false)
