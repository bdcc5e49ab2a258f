-- The gathered bits are the group's place in the table, whose entry has its digits.
use mathlib.Core.Path.{ap, ◌∙◌}
use Prim.Native.Nat.{ℕ}
use lib.ListN.{get_or}
use Rattle.sequence_ranges.specs.Digits.{quint_table}
use Rattle.sequence_groups.specs.DigitLaws.{quint-entry}
use Rattle.sequence_groups.specs.GroupLaws.{quint-place}
use Rattle.sequence_groups.proofs.quint_digits.Goals as goal

pub returns : goal.returns
returns c = c.from.ensures ∙ rw c.quints.ensures (ap (λ (x : ℕ). get_or quint_table x 0) (quint-place c.args.b c.args.d) ∙ quint-entry c.args.b c.args.d)
