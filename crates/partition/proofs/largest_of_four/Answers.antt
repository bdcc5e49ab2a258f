-- `partition::largest_of_four` meets its contract: a law for each way out. Assumes nothing.
use Rattle.partition.specs.PartitionLaws.{four-last, four-third, pair-by}
use native.Mathlib.Omega.{arith}
use Rattle.partition.proofs.largest_of_four.Goals as goal

pub returns-then-c-d : goal.returns-then-c-d
returns-then-c-d c = search four-last

pub returns-else-c-d : goal.returns-else-c-d
returns-else-c-d c = search four-third

pub returns-else-max : goal.returns-else-max
returns-else-max c =
    pair-by _ _ _ _ _ c.from.ensures (omega (arith, c.max.ensures, c.max-2.ensures, c.if-max.false)) (omega (arith, c.max.ensures, c.max-2.ensures, c.if-max.false))
