-- `params::upper_of` meets its contract by its test. Assumes nothing.
use native.Mathlib.Omega.{arith}
use borrow.Author.Tests.{eq-eqb, ne_eqb}
use Rattle.params.specs.Params.{upper_of}
use Rattle.params.proofs.upper_of.Goals as goal

pub returns-then-planes-eq2 : goal.returns-then-planes-eq2
unfolding upper_of
returns-then-planes-eq2 c = (simp (eq-eqb _ _ c.if-planes-eq2.true), omega arith)

pub returns-else-planes-eq2 : goal.returns-else-planes-eq2
unfolding upper_of
returns-else-planes-eq2 c = (simp (ne_eqb _ _ c.if-planes-eq2.false), omega arith)
