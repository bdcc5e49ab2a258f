-- `params_config::is_reserved` meets its contract by its tests. Assumes nothing.
use native.Mathlib.Nat.{div-one}
use borrow.Author.Tests.{eq-eqb, ne_eqb}
use Rattle.bits.specs.Bits.{bits_at}
use Rattle.params_config.specs.Config.{is_reserved}
use Rattle.params_config.proofs.is_reserved.Goals as goal

pub returns-then-c-eq0 : goal.returns-then-c-eq0
unfolding is_reserved bits_at
returns-then-c-eq0 c = simp (div-one, eq-eqb _ _ c.if-c-eq0.true)

pub returns-then-c-eq0-2 : goal.returns-then-c-eq0-2
unfolding is_reserved bits_at
returns-then-c-eq0-2 c = simp (div-one, ne_eqb _ _ c.if-c-eq0.false, eq-eqb _ _ c.if-c-eq0-2.true)

pub returns-else-c-eq0-2 : goal.returns-else-c-eq0-2
unfolding is_reserved bits_at
returns-else-c-eq0-2 c = simp (div-one, ne_eqb _ _ c.if-c-eq0.false, ne_eqb _ _ c.if-c-eq0-2.false)
