-- `endpoints_unquantise::put_all` fills the first places with the bytes of the values, one a turn. Assumes nothing.
use Rattle.std.proofs.Common.{zero-le}
use Rattle.laws.specs.Lists.{put-none, put-turn}
use Rattle.endpoints_unquantise.proofs.put_all.Goals as goal

pub loop-i-init : goal.loop-i-init
loop-i-init g c = put-none _ 0 _

pub loop-i-preserved : goal.loop-i-preserved
loop-i-preserved g c = put-turn _ _ _ _ _ _ c.loop-i.invariant zero-le c.byte.ensures
