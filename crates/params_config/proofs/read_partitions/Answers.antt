-- `params_config::read_partitions` meets its contract by its test. Assumes nothing.
use native.Mathlib.Omega.{arith}
use mathlib.Core.Path.{sym, ◌∙◌}
use Rattle.params_config.specs.Bounds.{parts_is}
use Rattle.params_config.proofs.read_partitions.Goals as goal

pub one_partition-requires : goal.one_partition-requires
one_partition-requires c = sym (parts_is _) ∙ c.in-1.is

pub several_partitions-requires : goal.several_partitions-requires
several_partitions-requires c = (parts_is _, (omega arith, omega arith))
