-- `params_config::grid_high` meets its contract by its arms. Assumes nothing.
use borrow.Author.Tests.{eq-eqb, ne_eqb}
use Rattle.bits.specs.Bits.{bits_at}
use Rattle.params_config.specs.Config.{grid_high}
use Rattle.params_config.proofs.grid_high.Goals as goal

pub returns-in-0 : goal.returns-in-0
unfolding grid_high bits_at
returns-in-0 c = simp c.in-0.is

pub returns-in-1 : goal.returns-in-1
unfolding grid_high bits_at
returns-in-1 c = simp c.in-1.is

pub returns-in-2 : goal.returns-in-2
unfolding grid_high bits_at
returns-in-2 c = simp c.in-2.is

pub returns-in_default : goal.returns-in_default
unfolding grid_high bits_at
returns-in_default c = let r = c.in_default.in_default-own.rest in simp (ne_eqb _ _ r.0.0.1, ne_eqb _ _ r.0.1, ne_eqb _ _ r.1, eq-eqb _ _ c.if-c-eq0.true)

pub returns-in_default-2 : goal.returns-in_default-2
unfolding grid_high bits_at
returns-in_default-2 c = let r = c.in_default.in_default-own.rest in simp (ne_eqb _ _ r.0.0.1, ne_eqb _ _ r.0.1, ne_eqb _ _ r.1, ne_eqb _ _ c.if-c-eq0.false)
