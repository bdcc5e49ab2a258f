-- `params::channel_of` meets its contract by its test. Assumes nothing.
use borrow.Author.Tests.{eq-eqb, ne_eqb}
use Rattle.params.specs.Params.{channel_of}
use Rattle.params.proofs.channel_of.Goals as goal

pub returns-then-planes-eq2 : goal.returns-then-planes-eq2
unfolding channel_of
returns-then-planes-eq2 c = simp (eq-eqb _ _ c.if-planes-eq2.true)

pub returns-else-planes-eq2 : goal.returns-else-planes-eq2
unfolding channel_of
returns-else-planes-eq2 c = simp (ne_eqb _ _ c.if-planes-eq2.false)
