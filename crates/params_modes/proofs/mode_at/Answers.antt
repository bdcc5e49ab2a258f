-- `params_modes::mode_at` meets its contract by its test. Assumes nothing.
use borrow.Author.Tests.{lt-ltb, le-ltb}
use Rattle.params_modes.proofs.mode_at.Goals as goal

pub returns-then-i-m : goal.returns-then-i-m
returns-then-i-m c = simp (lt-ltb _ _ c.if-i-m.true) c.mode_of.ensures.0

pub returns-else-i-m : goal.returns-else-i-m
returns-else-i-m c = simp (le-ltb _ _ c.if-i-m.false)
