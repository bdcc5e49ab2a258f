-- The laws of decoded sequences.
-- Assumes nothing.
use Rattle.std.specs.Prelude.{◌≡◌, ℕ, ◌*◌, ◌^◌, ◌≤◌, ◌<◌, ltb, length, get_or, List}
use Rattle.std.proofs.Math.Path.{ap}
use Rattle.std.proofs.Common.{◌∙◌, zero-add, arith, pow_pos, lit<, lt-ltb, le-ltb}
use Rattle.std.proofs.Math.Bool.{cond}
use Rattle.std.proofs.Math.Nat.{mul-pos}
use Rattle.std.proofs.Math.Decide.{dec_lt}
use Rattle.std.proofs.Math.Arith.{digits_lt}
use Rattle.std.proofs.Math.ListN.{get_or-eq_default}
use Rattle.laws.specs.Lists.{length-list_of, get_or-list_of}
use Rattle.bits.specs.BitLaws.{bits-lt}
use Rattle.sequence_ranges.specs.Ranges.{base, levels, range}
use Rattle.sequence_groups.specs.Sequence.{value_in, value_at, values_of}
use Rattle.sequence_groups.specs.DigitLaws.{digit_lt}
use Rattle.sequence_ranges.specs.declared.Kind.{Kind}
use Rattle.sequence_ranges.specs.declared.Kind.TheVariants.{Plain, Trits, Quints}
use Rattle.sequence_ranges.specs.declared.Range.{Range}
use Rattle.laws.specs.Numbers.{NoneBelow, last_arm}

-- ---- a decoded sequence

-- an arm of its own, and the last
module _ (k : Kind) (b m w n : ℕ) (out : List ℕ) where
  pub values-arm : out ≡ values_of (range k m) w n → b ≡ m → out ≡ values_of (range k b) w n
  values-arm h e = rw e h

  pub values-last : out ≡ values_of (range k m) w n → b ≤ m → NoneBelow m b → out ≡ values_of (range k b) w n
  values-last h l r = values-arm h (last_arm m b l r)

base-pos : (k : Kind) → 0 < base k
base-pos Plain = lit< tt
base-pos Trits = lit< tt
base-pos Quints = lit< tt

value-lt : (r : Range) (w i : ℕ) → value_at r w i < base r.kind * 2 ^ r.bits
unfolding value_at value_in
value-lt r w i = digits_lt (digit_lt r.kind r.bits _ _) (bits-lt _ _ r.bits)

module _ (r : Range) (w n : ℕ) where
  pub length-values : length (values_of r w n) ≡ 72
  unfolding values_of
  length-values = length-list_of (λ (i : ℕ). cond (ltb i n) (value_at r w i) 0) 0 72

  values-at : (i : ℕ) → i < 72 → get_or (values_of r w n) i 0 ≡ cond (ltb i n) (value_at r w i) 0
  unfolding values_of
  values-at i h =
      get_or-list_of (λ (i : ℕ). cond (ltb i n) (value_at r w i) 0) 0 72 i h
      ∙ ap (λ (i : ℕ). cond (ltb i n) (value_at r w i) 0) (zero-add i)

  pub values-before : (i : ℕ) → i < 72 → i < n → get_or (values_of r w n) i 0 ≡ value_at r w i
  values-before i h l = values-at i h ∙ rw (lt-ltb i n l)

  pub values-past : (i : ℕ) → n ≤ i → get_or (values_of r w n) i 0 ≡ 0
  values-past i l = past (dec_lt i 72)
    where
      past : Dec (i < 72) → get_or (values_of r w n) i 0 ≡ 0
      past (yes h) = values-at i h ∙ rw (le-ltb i n l)
      past (no h) = get_or-eq_default (values_of r w n) 0 (rw length-values (omega arith))

  -- every entry is a value of the range
  pub values-lt : (i : ℕ) → get_or (values_of r w n) i 0 < levels r
  unfolding levels
  values-lt i = entry (dec_lt i n) (dec_lt i 72)
    where
      some : 0 < base r.kind * 2 ^ r.bits
      some = mul-pos (base-pos r.kind) (pow_pos r.bits)

      entry : Dec (i < n) → Dec (i < 72) → get_or (values_of r w n) i 0 < base r.kind * 2 ^ r.bits
      entry (yes l) (yes h) = rw (values-before i h l) (value-lt r w i)
      entry (yes l) (no h) = rw (get_or-eq_default (values_of r w n) 0 {n = i} (rw length-values (omega arith))) some
      entry (no l) h = rw (values-past i (omega arith)) some
