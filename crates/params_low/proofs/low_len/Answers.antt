-- `params_low::low_len` meets its contract by its test. Assumes nothing.
use borrow.Author.Tests.{eq-eqb, ne_eqb}
use Rattle.params_low.specs.Low.{conf_len}
use Rattle.params_low.proofs.low_len.Goals as goal

pub returns-then-parts-eq1 : goal.returns-then-parts-eq1
unfolding conf_len
returns-then-parts-eq1 c = simp (eq-eqb _ _ c.if-parts-eq1.true)

pub returns-else-parts-eq1 : goal.returns-else-parts-eq1
unfolding conf_len
returns-else-parts-eq1 c = simp (ne_eqb _ _ c.if-parts-eq1.false)
