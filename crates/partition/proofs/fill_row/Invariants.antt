-- `partition::fill_row` meets its contract: each turn fills one place more. Assumes nothing.
use Rattle.std.proofs.Common.{◌≡◌}
use Rattle.laws.specs.Lists.{put_at}
use Rattle.partition.proofs.fill_row.Given as goal

abbrev pub invariant-loop-s : goal.invariant-loop-s
invariant-loop-s g l = l.out ≡ put_at (g.R.Ramps.in_row l.ramps) l.o l.s l.initial.out
