-- `params_config::several_partitions` meets its contract: the definition at several partitions. Assumes nothing.
use Rattle.params_config.specs.Bounds.{several-is}
use Rattle.params_config.proofs.several_partitions.Goals as goal

pub returns : goal.returns
returns c = several-is _ _ _ _ c.requires.0 c.requires.1.0 c.values_of.ensures c.extra_mode_bits.ensures
