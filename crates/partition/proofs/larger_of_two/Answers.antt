-- `partition::larger_of_two` meets its contract: the comparison as a number is the place of the larger. Assumes nothing.
use Rattle.partition.specs.PartitionLaws.{pair-by}
use native.Mathlib.Omega.{arith}
use Rattle.partition.proofs.larger_of_two.Goals as goal

pub returns : goal.returns
returns c = pair-by _ _ 0 0 _ c.from.ensures (omega arith) (omega arith)
