-- A label, a count and a newline, one after the other.
use Rattle.program_text.specs.TextLaws.{placed-next}
use native.Mathlib.Omega.{arith}
use Rattle.program_text.proofs.lay_out_count.Goals as goal

pub returns : goal.returns
returns c =
    let label = c.put_text-start.ensures in
    let count = c.put_number-after.ensures.placed in
    record { placed = placed-next (placed-next label count (omega arith)) c.put_text.ensures (omega arith); upper_bound = omega arith }
