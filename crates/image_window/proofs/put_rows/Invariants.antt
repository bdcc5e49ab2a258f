-- The rows before r are in place, and of row r the columns before i. Assumes nothing.
use Rattle.laws.specs.Lists.{put_at}
use Rattle.image_window.specs.Windows.{rows_put}
use mathlib.Core.Path.{◌≡◌}
use Rattle.image_window.proofs.put_rows.Given as goal

abbrev pub invariant-loop-r : goal.invariant-loop-r
invariant-loop-r g l = l.out ≡ rows_put g.word_of l.w.at l.width l.n l.r l.initial.out

abbrev pub invariant-loop-i : goal.invariant-loop-i
invariant-loop-i g l = l.out ≡ put_at (g.word_of l.r) l.start l.i l.initial.out
