-- `texels_numbers::put_marks` meets its contract by its loop: before turn i the first i places have their marks. Assumes nothing.
use Rattle.texels_numbers.specs.Numbers.{marks_from}
use Rattle.laws.specs.Lists.{put}
use mathlib.Core.Path.{◌≡◌}
use Rattle.texels_numbers.proofs.put_marks.Given as goal

abbrev pub invariant-loop-i : goal.invariant-loop-i
invariant-loop-i l = l.floats ≡ put (marks_from l.lanes) 0 l.i l.initial.floats
