-- The parts of the line, one after the other, are its definition: with the colour where the answer is below 20, without it elsewhere.
use Rattle.program_text.specs.TextLaws.{placed-next}
use Rattle.program_line.specs.LineLaws.{line-painted, line_refused}
use native.Mathlib.Omega.{arith}
use Rattle.program_line.proofs.lay_out.Goals as goal

pub returns-then-answer : goal.returns-then-answer
returns-then-answer c =
    let s = c.args in
    let placed =
    placed-next
    (placed-next (placed-next c.put_number-start.ensures.placed c.put_field-after.ensures.placed (omega arith)) c.put_colour-end.ensures.placed (omega arith))
    c.put_text.ensures (omega arith)
    in
    record { placed = rw (line-painted s.number s.answer s.word (omega arith)) at placed; upper_bound = omega arith }

pub returns : goal.returns
returns c =
    let s = c.args in
    let placed =
    placed-next (placed-next c.put_number-start.ensures.placed c.put_field-after.ensures.placed (omega arith)) c.put_text-2.ensures (omega arith)
    in
    record { placed = rw (line_refused s.number s.answer s.word (omega arith)) at placed; upper_bound = omega arith }
