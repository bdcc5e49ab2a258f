-- `partition::fill_row` meets its contract: each turn fills one place more. Assumes nothing.
use Rattle.laws.specs.Lists.{put_at-none, put_at-turn}
use Rattle.partition.proofs.fill_row.Goals as goal

pub loop-s-init : goal.loop-s-init
loop-s-init g c = put_at-none _ _ _

pub loop-s-preserved : goal.loop-s-preserved
loop-s-preserved g c = put_at-turn _ _ c.loop-s.s _ _ c.loop-s.out c.loop-s.invariant c.in_row.ensures
