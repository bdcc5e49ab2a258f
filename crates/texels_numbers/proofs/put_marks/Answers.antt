-- `texels_numbers::put_marks` meets its contract by its loop: before turn i the first i places have their marks. Assumes nothing.
use Rattle.channels.specs.Channels.{marks_of}
use Rattle.laws.specs.Lists.{put-none, put-turn, put-end}
use Prim.Native.Nat.{zero-le}
use mathlib.Core.Path.{ap, ◌∙◌}
use native.Mathlib.Omega.{arith}
use Rattle.texels_numbers.proofs.put_marks.Goals as goal

pub loop-i-init : goal.loop-i-init
loop-i-init c = put-none _ 0 _

pub loop-i-preserved : goal.loop-i-preserved
loop-i-preserved c = put-turn _ _ c.loop-i.i _ _ c.loop-i.floats c.loop-i.invariant zero-le (c.marks_of.ensures ∙ ap marks_of c.samples_at.ensures)

pub returns : goal.returns
returns c = put-end _ _ _ _ _ _ c.loop-i.invariant (omega arith) (omega arith)
