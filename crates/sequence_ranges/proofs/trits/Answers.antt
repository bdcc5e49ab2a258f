-- One test over all 256 entries: each has the digits that the standard's rule unpacks.
use mathlib.Core.Path.{refl}
use Prim.Native.Nat.{ℕ}
use Rattle.laws.specs.Lists.{tested}
use Rattle.bits.specs.Bits.{bits_at}
use Rattle.sequence_ranges.specs.Digits.{pair, low_trits, trits, packed, trit_table}
use Rattle.sequence_ranges.proofs.trits.Goals as goal

pub returns : goal.returns
unfolding bits_at pair low_trits trits packed trit_table
returns c = tested (λ (x : ℕ). packed (trits x)) 256 _ refl tt
