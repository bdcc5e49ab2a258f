-- `params_config::grid_of` meets its contract by its test. Assumes nothing.
use native.Mathlib.Nat.{div-one}
use borrow.Author.Tests.{eq-eqb, ne_eqb}
use Rattle.bits.specs.Bits.{bits_at}
use Rattle.params_config.specs.Config.{grid_of}
use Rattle.params_config.proofs.grid_of.Goals as goal

pub returns-then-c-eq0 : goal.returns-then-c-eq0
unfolding grid_of bits_at
returns-then-c-eq0 c = simp (div-one, eq-eqb _ _ c.if-c-eq0.true) c.grid_low.ensures

pub returns-else-c-eq0 : goal.returns-else-c-eq0
unfolding grid_of bits_at
returns-else-c-eq0 c = simp (div-one, ne_eqb _ _ c.if-c-eq0.false) c.grid_high.ensures
