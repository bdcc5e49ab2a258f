-- `image_window::put_rows` meets its contract by its loops: a row is put place by place, and the rows one after the other. Assumes nothing.
use Rattle.laws.specs.Lists.{put_at-none, put_at-turn, put_at-end}
use Rattle.image_window.specs.MarkLaws.{rows-first, rows-turn, rows_last}
use native.Mathlib.Omega.{arith}
use Rattle.image_window.proofs.put_rows.Goals as goal

pub loop-r-init : goal.loop-r-init
loop-r-init g c = rows-first _ _ _ _ _

pub loop-i-init : goal.loop-i-init
loop-i-init g c = put_at-none _ _ _

pub loop-i-preserved : goal.loop-i-preserved
loop-i-preserved g c =
    put_at-turn _ _ c.loop-i.i _ _ c.loop-i.out c.loop-i.invariant ((c.requires.1.1 c.loop-r.r c.loop-i.i c.loop-r-test.true c.loop-i-test.true).1 _ c.word.ensures)

pub loop-r-preserved : goal.loop-r-preserved
loop-r-preserved g c =
    rows-turn _ _ _ _ c.loop-r.r _ _ _ c.loop-r.invariant (put_at-end _ _ c.loop-i.i _ _ _ c.loop-i.invariant (omega arith) (omega arith))

pub returns : goal.returns
returns g c = rows_last _ _ _ _ c.loop-r.r _ _ _ c.loop-r.invariant (omega arith) (omega arith)
