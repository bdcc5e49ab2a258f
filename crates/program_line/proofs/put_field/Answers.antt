-- A space, and the number after it.
use Rattle.program_text.specs.TextLaws.{placed-next}
use native.Mathlib.Omega.{arith}
use Rattle.program_line.proofs.put_field.Goals as goal

pub returns : goal.returns
returns c = record { placed = placed-next c.put_text-after.ensures c.put_number.ensures.placed (omega arith); upper_bound = omega arith }
