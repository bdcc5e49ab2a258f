-- The laws of digits: in three bits each, in the two tables, and how large they are.
-- Assumes nothing.
use Rattle.std.specs.Prelude.{◌≡◌, Bool, true, List, [], ◌∷◌, ℕ, zero, suc, ◌+◌, ◌*◌, ◌/◌, ◌%◌, ◌^◌, ◌≤◌, ◌<◌, T, ltb}
use Rattle.std.proofs.Common.{ap, ◌∙◌, le_trans, lt_of_lt_of_le, mul-le-mul_left, mul-le-mul_right, zero-add, div-one, arith, ltb→lt, lit<, lit≤, pow_mono}
use Rattle.std.proofs.Math.ListN.{get_or}
use Rattle.std.proofs.Math.Pow.{low}
use Rattle.laws.specs.Table.{all-at, both, both_left, both_right}
use Rattle.laws.specs.Lists.{get_or-list_of}
use Rattle.bits.specs.Bits.{bits_at}
use Rattle.bits.specs.BitLaws.{bits-lt, bits-zero, bits-past, above}
use Rattle.sequence_ranges.specs.Ranges.{base, most}
use Rattle.sequence_ranges.specs.Digits.{pair, low_trits, trits, low_quints, quints, packed, trit_table, quint_table}
use Rattle.sequence_groups.specs.Sequence.{trit_bits, quint_bits, digits_of}
use Rattle.sequence_ranges.specs.declared.Kind.{Kind}
use Rattle.sequence_ranges.specs.declared.Kind.TheVariants.{Plain, Trits, Quints}

-- each digit is below m
unfoldable pub under : ℕ → List ℕ → Bool
under m [] = true
under m (x ∷ xs) = both (ltb x m) (under m xs)

pub get_or-under : (m : ℕ) (xs : List ℕ) → 0 < m → T (under m xs) → (j : ℕ) → get_or xs j 0 < m
unfolding under
get_or-under m [] h t j = h
get_or-under m (x ∷ xs) h t zero = ltb→lt x m (both_left (ltb x m) (under m xs) t)
get_or-under m (x ∷ xs) h t (suc j) = get_or-under m xs h (both_right (ltb x m) (under m xs) t) j

-- digit j of a packed list
packed-at : (xs : List ℕ) → ((i : ℕ) → get_or xs i 0 < 8) → (j : ℕ) → bits_at (packed xs) (3 * j) 3 ≡ get_or xs j 0
unfolding packed
packed-at [] h j = bits-past 0 (3 * j) 3 0 (lit< tt) (omega arith)
packed-at (x ∷ xs) h zero = bits-zero (packed xs * 8 + x) 3 ∙ low (packed xs) 3 {lo = x} (h 0)
packed-at (x ∷ xs) h (suc j) =
    let e : 3 * suc j ≡ 3 + 3 * j = omega arith in
    rw e (above (packed xs) x 3 (3 * j) 3 (h 0) ∙ packed-at xs (λ i. h (suc i)) j)

-- each trit is below 3 and each quint below 5: a test of all 256 and all 128
trit_test : ℕ → Bool
unfolding bits_at trits low_trits pair under
trit_test t = under 3 (trits t)

quint_test : ℕ → Bool
unfolding bits_at quints low_quints under
quint_test q = under 5 (quints q)

trits-under : (t : ℕ) → t < 256 → T (under 3 (trits t))
unfolding trit_test
trits-under t h = all-at trit_test 256 tt t h

quints-under : (q : ℕ) → q < 128 → T (under 5 (quints q))
unfolding quint_test
quints-under q h = all-at quint_test 128 tt q h

trit_bits-lt : (b d : ℕ) → trit_bits b d < 256
unfolding trit_bits
trit_bits-lt b d = omega (arith, bits-lt d b 2, bits-lt d (2 * b + 2) 2, bits-lt d (3 * b + 4) 1, bits-lt d (4 * b + 5) 2, bits-lt d (5 * b + 7) 1)

quint_bits-lt : (b d : ℕ) → quint_bits b d < 128
unfolding quint_bits
quint_bits-lt b d = omega (arith, bits-lt d b 3, bits-lt d (2 * b + 3) 2, bits-lt d (3 * b + 5) 2)

-- a group's place in the tables has its digits
pub trit-entry : (b d : ℕ) → get_or trit_table (trit_bits b d) 0 ≡ packed (digits_of Trits b d)
unfolding trit_table digits_of
trit-entry b d =
    get_or-list_of (λ (t : ℕ). packed (trits t)) 0 256 (trit_bits b d) (trit_bits-lt b d)
    ∙ ap (λ (t : ℕ). packed (trits t)) (zero-add (trit_bits b d))

pub quint-entry : (b d : ℕ) → get_or quint_table (quint_bits b d) 0 ≡ packed (digits_of Quints b d)
unfolding quint_table digits_of
quint-entry b d =
    get_or-list_of (λ (q : ℕ). packed (quints q)) 0 128 (quint_bits b d) (quint_bits-lt b d)
    ∙ ap (λ (q : ℕ). packed (quints q)) (zero-add (quint_bits b d))

pub digit_lt : (k : Kind) (b d j : ℕ) → get_or (digits_of k b d) j 0 < base k
unfolding digits_of
digit_lt Plain b d j = lit< tt
digit_lt Trits b d j = get_or-under 3 (trits (trit_bits b d)) (lit< tt) (trits-under (trit_bits b d) (trit_bits-lt b d)) j
digit_lt Quints b d j = get_or-under 5 (quints (quint_bits b d)) (lit< tt) (quints-under (quint_bits b d) (quint_bits-lt b d)) j

base-le : (k : Kind) → base k ≤ 8
base-le Plain = lit≤ tt
base-le Trits = lit≤ tt
base-le Quints = lit≤ tt

-- the digit j of a group, where its digits stand in one number
pub digit_at : (k : Kind) (b d j : ℕ) → bits_at (packed (digits_of k b d)) (3 * j) 3 ≡ get_or (digits_of k b d) j 0
digit_at k b d j = packed-at (digits_of k b d) (λ i. lt_of_lt_of_le (digit_lt k b d i) (base-le k)) j

-- a value fits a byte
pub levels-fit : (k : Kind) (b : ℕ) → b ≤ most k → base k * 2 ^ b ≤ 256
levels-fit Plain b h = le_trans (mul-le-mul_left 1 (pow_mono h)) (lit≤ tt)
levels-fit Trits b h = le_trans (mul-le-mul_left 3 (pow_mono h)) (lit≤ tt)
levels-fit Quints b h = le_trans (mul-le-mul_left 5 (pow_mono h)) (lit≤ tt)

-- so does one of each digit of e, which has the digits of a group: the first, and one further up
module _ (k : Kind) (b d e : ℕ) (h : b ≤ most k) (p : e ≡ packed (digits_of k b d)) where
  pub fits_next : (j : ℕ) → (e / 2 ^ (3 * j) % 8 + 1) * 2 ^ b ≤ 256
  unfolding bits_at
  fits_next j =
      let l : get_or (digits_of k b d) j 0 + 1 ≤ base k = omega (arith, digit_lt k b d j) in
      rw (p, digit_at k b d j) (le_trans (mul-le-mul_right (2 ^ b) l) (levels-fit k b h))

  pub fits-first : (e % 8 + 1) * 2 ^ b ≤ 256
  fits-first = rw (div-one e) at (fits_next 0)
