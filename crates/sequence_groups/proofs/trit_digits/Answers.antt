-- The gathered bits are the group's place in the table, whose entry has its digits.
use mathlib.Core.Path.{ap, ◌∙◌}
use Prim.Native.Nat.{ℕ}
use lib.ListN.{get_or}
use Rattle.sequence_ranges.specs.Digits.{trit_table}
use Rattle.sequence_groups.specs.DigitLaws.{trit-entry}
use Rattle.sequence_groups.specs.GroupLaws.{trit-place}
use Rattle.sequence_groups.proofs.trit_digits.Goals as goal

pub returns : goal.returns
returns c = c.from.ensures ∙ rw c.trits.ensures (ap (λ (x : ℕ). get_or trit_table x 0) (trit-place c.args.b c.args.d) ∙ trit-entry c.args.b c.args.d)
