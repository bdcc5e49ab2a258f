-- The places from o on hold the weights of the columns passed.
use mathlib.Core.Path.{◌≡◌}
use Rattle.laws.specs.Lists.{put_at}
use Rattle.weights_infill.specs.Fast.{row_at}
use Rattle.weights_infill.proofs.fill_row.Given as goal

abbrev pub invariant-loop-s : goal.invariant-loop-s
invariant-loop-s l = l.out ≡ put_at (row_at l.pairs l.part l.j l.h) l.o l.s l.initial.out
