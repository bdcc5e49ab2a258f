-- `params_config::lacks_dh` meets its contract by its tests. Assumes nothing.
use native.Mathlib.Nat.{div-one}
use borrow.Author.Tests.{eq-eqb, ne_eqb}
use Rattle.bits.specs.Bits.{bits_at}
use Rattle.params_config.specs.Config.{lacks_dh}
use Rattle.params_config.proofs.lacks_dh.Goals as goal

pub returns-then-c-eq0 : goal.returns-then-c-eq0
unfolding lacks_dh bits_at
returns-then-c-eq0 c = simp (div-one, eq-eqb _ _ c.if-c-eq0.true)

pub returns-else-c-eq0 : goal.returns-else-c-eq0
unfolding lacks_dh bits_at
returns-else-c-eq0 c = simp (div-one, ne_eqb _ _ c.if-c-eq0.false)
