-- One partition leaves the zeros; more are selected.
use Rattle.block_ordinary.specs.Parts.{partitions-one, partitions-more}
use Rattle.block_ordinary.proofs.partition_of.Goals as goal

pub returns-then-k-eq1 : goal.returns-then-k-eq1
returns-then-k-eq1 c =
    partitions-one _ _ _ c.requires.0 c.if-k-eq1.true

pub returns : goal.returns
returns c =
    partitions-more _ _ _ _ c.requires.0 c.if-k-eq1.false c.select_partition.ensures
