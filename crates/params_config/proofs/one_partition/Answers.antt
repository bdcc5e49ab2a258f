-- `params_config::one_partition` meets its contract: the definition at one partition. Assumes nothing.
use Rattle.params_config.specs.Bounds.{one-is}
use Rattle.params_config.proofs.one_partition.Goals as goal

pub returns : goal.returns
returns c = one-is _ c.requires
