-- The byte of a float by its bit pattern: the exponent's field x and the digits t stand for (2 ^ 23 + t) * 2 ^ (x - 1) / 2 ^ 149. Assumes nothing.
use mathlib.Core.Path.{◌≡◌, refl, sym, ap, ◌∙◌}
use mathlib.Core.Bool.{Bool, true, false, cond, not}
use Prim.Native.Nat.{ℕ, zero, suc, ◌+◌, ◌-◌, ◌*◌, ◌/◌, ◌%◌, ◌^◌, ◌≤◌, ◌<◌, min}
use native.Mathlib.Nat.{mul_assoc, mul_right_comm, mul_comm, mul-le-mul, le-div_iff_mul-le, div-eq_of_lt, div-lt_iff_lt-mul, lt_of_lt_of_le, lt_of_le_of_lt}
use native.Mathlib.Omega.{arith}
use native.Mathlib.Decide.{ℕ_discrete}
use lib.Dec.{T, leb, eqb}
use lib.Pow.{pow-add, pow_pos, pow_mono, shl_lt}
use lib.Ieee.{Float as Ieee, nan, inf, fin, binary32, fits, is_nan, nan_bits, of_fields, of_bits, to_bits}
use lib.Ieee.Bits.{of_bits-to_bits, nan_bits_is}
use lib.Ieee.Exact.{HasValue, odd_sign}
use lib.Ieee.Nearest.{div_same}
use borrow.Author.Tests.{eq-eqb, ne_eqb, le-leb, lt-leb}
use Rattle.channels.specs.Channels.{byte_of}
use Rattle.channels.specs.ChannelLaws.{byte-val}

-- ---- the fields of a pattern
abbrev field : ℕ → ℕ
field b = b % 2147483648 / 8388608

abbrev digits : ℕ → ℕ
digits b = b % 8388608

abbrev sig : ℕ → ℕ → ℕ
sig x t = cond (eqb x 0) t (8388608 + t)

bits_are : (b : ℕ) → of_bits binary32 b ≡ of_fields binary32 (leb 2147483648 b) (field b) (digits b)
unfolding of_bits
bits_are b = refl

fields-val : (s : Bool) (x t : ℕ) → (x ≡ 255 → ⊥) → HasValue (of_fields binary32 s x t) s (sig x t * 2 ^ (x - 1)) (2 ^ 149)
unfolding of_fields
fields-val s zero t n = odd_sign 24 s t 0 149
fields-val s (suc x) t n =
    let e : suc x - 1 ≡ x = omega arith in
    rw (ne_eqb (suc x) 255 n, ne_eqb (suc x) 0 (λ z. omega arith), e) (odd_sign 24 s (8388608 + t) x 149)

infinite : (s : Bool) (x t : ℕ) → x ≡ 255 → t ≡ 0 → byte_of 0 (of_fields binary32 s x t) ≡ 255
unfolding of_fields byte_of
infinite s x t e z = rw (e, z)

-- ---- the byte, by the sign and the fields
abbrev scaled : ℕ → ℕ
scaled b = sig (field b) (digits b) * 2 ^ (field b - 1) * 255 / 2 ^ 149

byte-is : (b : ℕ) → (field b ≡ 255 → ⊥) → byte_of 0 (of_bits binary32 b) ≡ cond (leb 2147483648 b) 0 (min (scaled b) 255)
byte-is b n = rw (bits_are b) (byte-val 0 _ (leb 2147483648 b) (sig (field b) (digits b) * 2 ^ (field b - 1)) (2 ^ 149) (pow_pos 149) (fields-val (leb 2147483648 b) (field b) (digits b) n))

-- a pattern that is neither an infinity's nor a NaN's
pub finite-field : (b : ℕ) → T (not (nan_bits binary32 b)) → (b % 2147483648 ≡ 0x7f80_0000 → ⊥) → field b ≡ 255 → ⊥
unfolding nan_bits
finite-field b h n e = absurd (rw (eq-eqb (field b) 255 e, ne_eqb (digits b) 0 (λ z. n (omega arith))) at h)

-- ---- the ways out
top : (q : ℕ) → 255 ≤ q → min q 255 ≡ 255
top q h = omega arith

under : (q : ℕ) → q < 256 → min q 255 ≡ q
under q h = omega arith

raised : (q : ℕ) → q * 255 ≤ q * 2 ^ 8
raised q = omega arith

pub ret-infinite : (b : ℕ) → b % 2147483648 ≡ 0x7f80_0000 → ◌≡◌ {A = ℕ} 255 (byte_of 0 (of_bits binary32 b))
ret-infinite b e = sym (rw (bits_are b) (infinite (leb 2147483648 b) (field b) (digits b) (omega arith) (omega arith)))

-- 32 bits that are shifted down by 24 or more are a byte
pub shift-lt : (y s : ℕ) → y < 256 * 2 ^ 24 → 24 ≤ s → y / 2 ^ s < 256
shift-lt y s q l =
    let one : 256 ≤ 256 = omega arith in
    let p : 256 * 2 ^ 24 ≤ 256 * 2 ^ s = mul-le-mul one (pow_mono {i = 24} l) in
    (div-lt_iff_lt-mul (pow_pos s)).1 (lt_of_lt_of_le q p)

module _ (b : ℕ) (n : field b ≡ 255 → ⊥) where
  pub ret-minus : 2147483648 ≤ b → ◌≡◌ {A = ℕ} 0 (byte_of 0 (of_bits binary32 b))
  ret-minus h = sym (byte-is b n ∙ rw (le-leb 2147483648 b h))

  plus : b < 2147483648 → byte_of 0 (of_bits binary32 b) ≡ min (scaled b) 255
  plus h = byte-is b n ∙ rw (lt-leb 2147483648 b h)

  pub ret-one : b < 2147483648 → 0x3f80_0000 ≤ b → ◌≡◌ {A = ℕ} 255 (byte_of 0 (of_bits binary32 b))
  ret-one h l =
      let z : eqb (field b) 0 ≡ false = ne_eqb (field b) 0 (λ e. omega arith) in
      let low : 8388608 * 255 ≤ (8388608 + digits b) * 255 = omega arith in
      let p : 8388608 * 255 * 2 ^ 126 ≤ (8388608 + digits b) * 255 * 2 ^ (field b - 1) = mul-le-mul low (pow_mono {i = 126} (omega arith)) in
      let q : 255 * 2 ^ 149 ≤ sig (field b) (digits b) * 2 ^ (field b - 1) * 255 = rw (z, mul_right_comm (8388608 + digits b) (2 ^ (field b - 1)) 255) p in
      let big : 255 ≤ scaled b = (le-div_iff_mul-le (pow_pos 149)).1 q in
      sym (plus h ∙ top (scaled b) big)

  pub ret-none : b < 0x3b80_0000 → ◌≡◌ {A = ℕ} 0 (byte_of 0 (of_bits binary32 b))
  ret-none h =
      let s : sig (field b) (digits b) < 2 ^ 24 = sig-lt (eqb (field b) 0) in
      let p : sig (field b) (digits b) * 2 ^ (field b - 1) < 2 ^ 141 = lt_of_lt_of_le (shl_lt 24 (field b - 1) s) (pow_mono {j = 141} (omega arith)) in
      let z : scaled b ≡ 0 = div-eq_of_lt (times (sig (field b) (digits b) * 2 ^ (field b - 1)) p) in
      sym (plus (omega arith) ∙ ap (λ (q : ℕ). min q 255) z)
    where
      sig-lt : (t : Bool) → cond t (digits b) (8388608 + digits b) < 2 ^ 24
      sig-lt true = omega arith
      sig-lt false = omega arith

      times : (q : ℕ) → q < 2 ^ 141 → q * 255 < 2 ^ 149
      times q h = lt_of_le_of_lt (raised q) (shl_lt 141 8 h)

  module _ (h : b < 0x3f80_0000) (l : 0x3b80_0000 ≤ b) where
    abbrev shifted : ℕ
    shifted = 255 * (8388608 + b % 8388608) / 2 ^ (150 - b / 8388608)

    same : field b ≡ b / 8388608
    same = omega arith

    shifted-lt : shifted < 256
    shifted-lt = shift-lt _ (150 - b / 8388608) (omega arith) (omega arith)

    pub ret-shifted : shifted ≡ byte_of 0 (of_bits binary32 b)
    ret-shifted =
        let z : eqb (field b) 0 ≡ false = ne_eqb (field b) 0 (λ e. omega arith) in
        let w : 2 ^ (field b - 1) * 2 ^ (150 - b / 8388608) ≡ 2 ^ 149 = sym (pow-add 2 (field b - 1) (150 - b / 8388608)) ∙ ap (λ (k : ℕ). 2 ^ k) {y = 149} (omega arith) in
        let g = 8388608 + b % 8388608 in
        let e : g * 2 ^ (field b - 1) * 255 * 2 ^ (150 - b / 8388608) ≡ 255 * g * 2 ^ 149 =
        ap (λ (k : ℕ). k * 2 ^ (150 - b / 8388608)) (mul_right_comm g (2 ^ (field b - 1)) 255)
        ∙ mul_assoc (g * 255) (2 ^ (field b - 1)) (2 ^ (150 - b / 8388608))
        ∙ ap (λ (k : ℕ). g * 255 * k) w
        ∙ ap (λ (k : ℕ). k * 2 ^ 149) (mul_comm g 255) in
        let d : scaled b ≡ shifted = rw z (div_same (g * 2 ^ (field b - 1) * 255) (2 ^ 149) (255 * g) (2 ^ (150 - b / 8388608)) (pow_pos 149) (pow_pos (150 - b / 8388608)) e) in
        sym (plus (omega arith) ∙ ap (λ (q : ℕ). min q 255) d ∙ under shifted shifted-lt)

-- an infinity with no sign, or a number of 1 or more
pub ret-large : (b : ℕ) → T (not (nan_bits binary32 b)) → 0x3f80_0000 ≤ b → b < 2147483648 → ◌≡◌ {A = ℕ} 255 (byte_of 0 (of_bits binary32 b))
ret-large b t l h = go (ℕ_discrete b 0x7f80_0000)
  where
    go : Dec (b ≡ 0x7f80_0000) → ◌≡◌ {A = ℕ} 255 (byte_of 0 (of_bits binary32 b))
    go (yes e) = ret-infinite b (omega arith)
    go (no n) = ret-one b (finite-field b t (λ e. n (omega arith))) h l

-- ---- a float that is tested for a NaN
pub ret-nan : (x : Ieee) (n : ℕ) → is_nan x ≡ true → n ≡ byte_of n x
unfolding byte_of is_nan
ret-nan nan n h = refl
ret-nan (inf s) n h = cc
ret-nan (fin s m e) n h = cc

pub no_nan : (x : Ieee) → is_nan x ≡ false → T (not (is_nan x))
no_nan x h = rw h tt

pub pattern-no-nan : (x : Ieee) → T (fits binary32 x) → T (not (is_nan x)) → T (not (nan_bits binary32 (to_bits binary32 x)))
pattern-no-nan x f h = rw (nan_bits_is binary32 (to_bits binary32 x), of_bits-to_bits binary32 x f) h

-- a NaN's byte matters to a NaN alone
pub ret-number : (x : Ieee) (n r : ℕ) → T (fits binary32 x) → T (not (is_nan x)) → r ≡ byte_of 0 (of_bits binary32 (to_bits binary32 x)) → r ≡ byte_of n x
unfolding byte_of is_nan
ret-number x n r f h e = e ∙ ap (byte_of 0) (of_bits-to_bits binary32 x f) ∙ go x h
  where
    go : (y : Ieee) → T (not (is_nan y)) → byte_of 0 y ≡ byte_of n y
    go nan h = absurd h
    go (inf s) h = refl
    go (fin s m e) h = refl
