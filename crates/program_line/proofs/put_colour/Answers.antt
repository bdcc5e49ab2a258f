-- Four fields, one after the other.
use Rattle.program_text.specs.TextLaws.{placed-next}
use mathlib.Core.Path.{◌≡◌}
use Prim.Native.Nat.{◌/◌, ◌%◌}
use native.Mathlib.Omega.{arith}
use Rattle.program_line.proofs.put_colour.Goals as goal

pub returns : goal.returns
returns c =
    let red = c.put_field-after_red.ensures.placed in
    let green = c.put_field-after_green.ensures.placed in
    let blue = c.put_field-after_blue.ensures.placed in
    let alpha = c.put_field.ensures.placed in
    let placed = placed-next (placed-next (placed-next red green (omega arith)) blue (omega arith)) alpha (omega arith) in
    let top : c.args.word / 16777216 % 256 ≡ c.args.word / 16777216 = omega arith in
    record { placed = rw top at (rw (c.from.ensures, c.from-2.ensures, c.from-3.ensures, c.from-4.ensures, c.to_le_bytes.ensures) at placed); upper_bound = omega arith }
