-- `params_config::extra_mode_bits` meets its contract by its test. Assumes nothing.
use borrow.Author.Tests.{eq-eqb, ne_eqb}
use Rattle.params_config.specs.Config.{extra_mode_bits}
use Rattle.params_config.proofs.extra_mode_bits.Goals as goal

pub returns-then-base-eq0 : goal.returns-then-base-eq0
unfolding extra_mode_bits
returns-then-base-eq0 c = simp (eq-eqb _ _ c.if-base-eq0.true)

pub returns-else-base-eq0 : goal.returns-else-base-eq0
unfolding extra_mode_bits
returns-else-base-eq0 c = simp (ne_eqb _ _ c.if-base-eq0.false)
