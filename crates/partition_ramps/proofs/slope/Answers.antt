-- `partition_ramps::slope` meets its contract: a square of four bits, shifted by four or more, is at most 14. Assumes nothing.
use Rattle.std.proofs.Common.{refl}
use Rattle.partition_ramps.specs.Ramps.{factor}
use Rattle.partition_ramps.specs.RampLaws.{factor-le}
use Rattle.partition_ramps.proofs.slope.Goals as goal

pub returns : goal.returns
unfolding factor
returns c = (refl, factor-le c.args.r c.args.at c.args.shift c.requires.1.0)
