-- The lower runs, shifted up, and the upper ones, shifted down, are the exchanged pairs; those are below 2 ^ 64, so that neither the shift nor
-- the sum loses a bit.
use Rattle.bits_reversal.specs.SwapLaws.{swap-fits, swap-whole}
use borrow.Author.Rules.{rules}
use Rattle.bits_reversal.proofs.swap_runs.Goals as goal

pub overflow_add-result : goal.overflow_add-result
overflow_add-result c = search (rules, swap-fits)

pub returns : goal.returns
returns c = swap-whole _ _ _ c.requires
