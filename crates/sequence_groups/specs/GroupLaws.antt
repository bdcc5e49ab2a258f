-- The laws of groups: what the code's shifts and stores make of them, and that a group depends on its own bits alone.
-- Assumes nothing.
use Rattle.std.specs.Prelude.{◌≡◌, refl, ℕ, zero, suc, ◌+◌, ◌*◌, ◌/◌, ◌%◌, ◌^◌, ◌≤◌, ◌<◌, T, ltb}
use Rattle.std.proofs.Math.Path.{sym, ap}
use Rattle.std.proofs.Common.{◌∙◌, mul-le-mul_right, zero-add, one-mul, suc-mul, div-one, arith, lit<, lt_of_lt_of_le, lt_of_le_of_lt, le_trans, le_of_lt, mod-lt, ltb→lt, lit≤, Fits}
use Rattle.std.proofs.Math.Nat.{zero-mul, sub_self, add-sub_cancel_left}
use Rattle.std.proofs.Math.Pow.{shr-shr}
use Rattle.std.proofs.Math.ListN.{get_or}
use Rattle.bits.specs.Bits.{bits_at}
use Rattle.bits.specs.BitLaws.{bits-zero, locality}
use Rattle.sequence_ranges.specs.Ranges.{per, shared}
use Rattle.sequence_ranges.specs.Digits.{packed}
use Rattle.sequence_groups.specs.Sequence.{size_of, gaps, trit_bits, quint_bits, digits_of, value_in, group_from}
use Rattle.sequence_groups.specs.DigitLaws.{under, get_or-under, digit_at}
use Rattle.sequence_ranges.specs.declared.Kind.{Kind}
use Rattle.sequence_ranges.specs.declared.Kind.TheVariants.{Plain, Trits, Quints}
use Rattle.sequence_ranges.specs.declared.Range.{Range}
use Rattle.std.specs.Int.{w64}

-- ---- what the code's shifts make

-- d without its low b bits, j times over
abbrev pub down : ℕ → ℕ → ℕ → ℕ
down b d zero = d
down b d (suc j) = down b d j / 2 ^ b

down_is : (b d j : ℕ) → down b d j ≡ d / 2 ^ (j * b)
down_is b d zero = rw (zero-mul b) (sym (div-one d))
down_is b d (suc j) = rw (down_is b d j, shr-shr d (j * b) b, suc-mul j b)

pub down-low : (b d j n : ℕ) → down b d j % 2 ^ n ≡ bits_at d (j * b) n
unfolding bits_at
down-low b d j n = rw (down_is b d j)

pub down-field : (b d j g n : ℕ) → down b d j / 2 ^ g % 2 ^ n ≡ bits_at d (j * b + g) n
unfolding bits_at
down-field b d j g n = rw (down_is b d j, shr-shr d (j * b) g)

-- the places in the tables
pub trit-place : (b d : ℕ)
    → down b d 1 % 4 + down b d 2 / 4 % 4 * 4 + down b d 3 / 16 % 2 * 16 + down b d 4 / 32 % 4 * 32 + down b d 5 / 128 % 2 * 128 ≡ trit_bits b d
unfolding trit_bits
trit-place b d =
    let e : down b d 1 % 4 ≡ bits_at d b 2 = down-low b d 1 2 ∙ ap (λ (s : ℕ). bits_at d s 2) (one-mul b) in
    omega (arith, e, down-field b d 2 2 2, down-field b d 3 4 1, down-field b d 4 5 2, down-field b d 5 7 1)

pub quint-place : (b d : ℕ) → down b d 1 % 8 + down b d 2 / 8 % 4 * 8 + down b d 3 / 32 % 4 * 32 ≡ quint_bits b d
unfolding quint_bits
quint-place b d =
    let e : down b d 1 % 8 ≡ bits_at d b 3 = down-low b d 1 3 ∙ ap (λ (s : ℕ). bits_at d s 3) (one-mul b) in
    omega (arith, e, down-field b d 2 3 2, down-field b d 3 5 2)

-- a digit of e, which has the digits of a group d, above plain bits is the value: the first, and one further up
first-gap : (k : Kind) → get_or (gaps k) 0 0 ≡ 0
first-gap Plain = refl
first-gap Trits = refl
first-gap Quints = refl

module _ (r : Range) (d i e : ℕ) (p : e ≡ packed (digits_of r.kind r.bits d)) where
  pub value-first : e % 8 * 2 ^ r.bits + d % 2 ^ r.bits ≡ group_from r d i i
  unfolding value_in
  value-first =
      let digit : e % 8 ≡ get_or (digits_of r.kind r.bits d) 0 0 = sym (bits-zero e 3) ∙ ap (λ (x : ℕ). bits_at x 0 3) p ∙ digit_at r.kind r.bits d 0 in
      rw (sub_self i, zero-mul r.bits, first-gap r.kind, digit, ← (bits-zero d r.bits))

  pub value-next : (j : ℕ) → e / 2 ^ (3 * j) % 8 * 2 ^ r.bits + down r.bits d j / 2 ^ get_or (gaps r.kind) j 0 % 2 ^ r.bits ≡ group_from r d i (i + j)
  unfolding value_in bits_at
  value-next j =
      rw (add-sub_cancel_left i j, down_is r.bits d j, shr-shr d (j * r.bits) (get_or (gaps r.kind) j 0), p, digit_at r.kind r.bits d j)

-- ---- a group depends on its own bits alone

pub near : (i j : ℕ) → i ≤ 64 → T (ltb j 8) → i + j < 72
near i j h t = omega (arith, ltb→lt j 8 t)

pub near_fits : (i j : ℕ) → i ≤ 64 → T (ltb j 8) → Fits w64 (i + j)
near_fits i j h t = record { fits = lt_of_lt_of_le (near i j h t) (lit≤ tt) }

-- the bits that are gathered into a place of the tables: a part, and the sums of the parts
pub part-fits : (x n k : ℕ) → 0 < n → n * k ≤ 256 → Fits w64 (x % n * k)
part-fits x n k h l = record { fits = lt_of_le_of_lt (le_trans (mul-le-mul_right k (le_of_lt (mod-lt x h))) l) (lit< tt) }

pub small-fits : (n : ℕ) → n < 256 → Fits w64 n
small-fits n h = record { fits = lt_of_lt_of_le h (lit≤ tt) }

-- two bytes of each entry
pub twice-fits : (n : ℕ) → n < 256 → Fits w64 (n * 2)
twice-fits n h = record { fits = lt_of_le_of_lt (mul-le-mul_right 2 (le_of_lt h)) (lit< tt) }

pub trits-2 : (a b : ℕ) → a % 4 + b % 4 * 4 < 256
trits-2 a b = omega arith

pub trits-3 : (a b c : ℕ) → a % 4 + b % 4 * 4 + c % 2 * 16 < 256
trits-3 a b c = omega arith

pub trits-4 : (a b c d : ℕ) → a % 4 + b % 4 * 4 + c % 2 * 16 + d % 4 * 32 < 256
trits-4 a b c d = omega arith

pub trits-5 : (a b c d e : ℕ) → a % 4 + b % 4 * 4 + c % 2 * 16 + d % 4 * 32 + e % 2 * 128 < 256
trits-5 a b c d e = omega arith

pub quints-2 : (a b : ℕ) → a % 8 + b % 4 * 8 < 256
quints-2 a b = omega arith

pub quints-3 : (a b c : ℕ) → a % 8 + b % 4 * 8 + c % 4 * 32 < 128
quints-3 a b c = omega arith

pub field-same : (d d' n s k : ℕ) → d % 2 ^ n ≡ d' % 2 ^ n → s + k ≤ n → bits_at d s k ≡ bits_at d' s k
field-same d d' n s k e h = part d ∙ ap (λ (x : ℕ). bits_at x s k) e ∙ sym (part d')
  where
    part : (x : ℕ) → bits_at x s k ≡ bits_at (x % 2 ^ n) s k
    part x =
        ap (λ (t : ℕ). bits_at x t k) (sym (zero-add s))
        ∙ locality x 0 n s k h
        ∙ ap (λ (y : ℕ). bits_at y s k) (bits-zero x n)

digits_same : (k : Kind) (b d d' : ℕ) → d % 2 ^ (shared k + per k * b) ≡ d' % 2 ^ (shared k + per k * b) → digits_of k b d ≡ digits_of k b d'
unfolding digits_of trit_bits quint_bits
digits_same Plain b d d' e = refl
digits_same Trits b d d' e =
    let f : (s n : ℕ) → s + n ≤ 8 + 5 * b → bits_at d s n ≡ bits_at d' s n = λ s n h. field-same d d' (8 + 5 * b) s n e h in
    rw (f b 2 (omega arith), f (2 * b + 2) 2 (omega arith), f (3 * b + 4) 1 (omega arith), f (4 * b + 5) 2 (omega arith), f (5 * b + 7) 1 (omega arith))
digits_same Quints b d d' e =
    let f : (s n : ℕ) → s + n ≤ 7 + 3 * b → bits_at d s n ≡ bits_at d' s n = λ s n h. field-same d d' (7 + 3 * b) s n e h in
    rw (f b 3 (omega arith), f (2 * b + 3) 2 (omega arith), f (3 * b + 5) 2 (omega arith))

gap-le : (k : Kind) (j : ℕ) → get_or (gaps k) j 0 ≤ shared k
unfolding under
gap-le Plain j = omega (arith, get_or-under 1 (gaps Plain) (lit< tt) tt j)
gap-le Trits j = omega (arith, get_or-under 8 (gaps Trits) (lit< tt) tt j)
gap-le Quints j = omega (arith, get_or-under 6 (gaps Quints) (lit< tt) tt j)

pub value_same : (r : Range) (d d' j : ℕ) → j < per r.kind → d % 2 ^ size_of r ≡ d' % 2 ^ size_of r → value_in r d j ≡ value_in r d' j
unfolding value_in size_of
value_same r d d' j h e =
    let k = r.kind in
    let b = r.bits in
    let g = get_or (gaps r.kind) j 0 in
    let m : j * r.bits + r.bits ≤ per r.kind * r.bits = rw (suc-mul j r.bits) at (mul-le-mul_right r.bits h) in
    let l : j * r.bits + get_or (gaps r.kind) j 0 + r.bits ≤ shared r.kind + per r.kind * r.bits = omega (arith, gap-le r.kind j) in
    rw (digits_same k b d d' e, field-same d d' (shared k + per k * b) (j * b + g) b e l)
