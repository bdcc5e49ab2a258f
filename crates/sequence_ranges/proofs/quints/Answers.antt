-- One test over all 128 entries: each has the digits that the standard's rule unpacks.
use mathlib.Core.Path.{refl}
use Prim.Native.Nat.{ℕ}
use Rattle.laws.specs.Lists.{tested}
use Rattle.bits.specs.Bits.{bits_at}
use Rattle.sequence_ranges.specs.Digits.{low_quints, quints, packed, quint_table}
use Rattle.sequence_ranges.proofs.quints.Goals as goal

pub returns : goal.returns
unfolding bits_at low_quints quints packed quint_table
returns c = tested (λ (x : ℕ). packed (quints x)) 128 _ refl tt
