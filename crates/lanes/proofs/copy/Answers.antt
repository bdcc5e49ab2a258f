-- `lanes::copy` meets its contract by its loop: before turn i the output has the words of the first i texels. Assumes nothing.
use Rattle.laws.specs.Lists.{put_at-none, put_at-turn}
use Rattle.lanes.proofs.copy.Goals as goal

pub loop-i-init : goal.loop-i-init
loop-i-init c = put_at-none _ c.args.to _

pub loop-i-preserved : goal.loop-i-preserved
loop-i-preserved c = put_at-turn _ _ c.loop-i.i _ _ c.loop-i.out c.loop-i.invariant c.word.ensures
