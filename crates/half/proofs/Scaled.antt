-- The bytes of halves with no sign, by whole numbers: a half outside 2 ^ -13 to 1 has the byte of the nearer end, and inside 2 ^ 23 times the product is a whole number,
-- which an `f64` and an `i32` hold. Assumes nothing.
use mathlib.Core.Path.{◌≡◌, refl, sym, ap, ◌∙◌, subst}
use Prim.Native.Nat.{ℕ, ◌+◌, ◌-◌, ◌*◌, ◌/◌, ◌^◌, ◌≤◌, ◌<◌, min, max}
use native.Mathlib.Nat.{mul_assoc, mul-le-mul, lt_of_lt_of_le, le_of_lt, le-div_iff_mul-le}
use native.Mathlib.Omega.{arith}
use native.Mathlib.Decide.{dec_lt}
use mathlib.Core.Logic.{inl, inr}
use mathlib.Core.Bool.{Bool, true, false, not, cond, ◌&&◌}
use borrow.Author.Tests.{ne_eqb, lt-leb}
use lib.Dec.{T, leb, eqb, lit<, lit≤, leb→le, le→leb}
use lib.IntN.{ℤ, pos, nat_abs}
use lib.Signed.{non_neg}
use lib.Pow.{pow-add, pow_pos, pow_mono, shl_lt}
use lib.Ieee.{Float, fin, binary32, binary64, mul, fits, is_nan, in_float, in_signed, to_signed, of_int}
use lib.Ieee.Fits.{fits_widens, and_i}
use lib.Ieee.Exact.{HasValue}
use lib.Ieee.Back.{positive_back}
use lib.Ieee.Nearest.{div_same}
use lib.Ieee.Scale.{round_same}
use mir.Syntax.{w8, w32}
use mir.Val.{Fits, to_z, of_z}
use mir.ValLaws.{to_z_pos}
use Rattle.half.specs.Half.{sign, field, digits, sig, product, whole, hdr_byte}
use Rattle.half.specs.Fractions.{mul_val}
use Rattle.half.specs.HalfLaws.{sig-lt}
use Rattle.half.proofs.Halves.{times-lt, eq-or-not, product-val, no_nan}

-- ---- a product is numer / 2 ^ 24, and 2 ^ 23 times it, from the field 2 on, is scaled
abbrev numer : ℕ → ℕ → ℕ
numer x t = sig x t * 255 * 2 ^ (x - 1)

abbrev scaled : ℕ → ℕ → ℕ
scaled x t = sig x t * 255 * 2 ^ (x - 2)

scaled-is : (x t : ℕ) → 2 ≤ x → numer x t * 2 ^ 23 ≡ scaled x t * 2 ^ 24
scaled-is x t h =
    let q = sig x t * 255 in
    let P = 2 ^ (x - 2) in
    let e : 2 ^ (x - 1) ≡ P * 2 = ap (λ (z : ℕ). 2 ^ z) {y = x - 2 + 1} (omega arith) ∙ pow-add 2 (x - 2) 1 in
    ap (λ (z : ℕ). q * z * 2 ^ 23) e ∙ ap (λ (z : ℕ). z * 2 ^ 23) (sym (mul_assoc q P 2)) ∙ mul_assoc (q * P) 2 (2 ^ 23)

scaled-whole : (x t : ℕ) → 2 ≤ x → scaled x t / 2 ^ 23 ≡ whole x t
scaled-whole x t h = div_same (scaled x t) (2 ^ 23) (numer x t) (2 ^ 24) (pow_pos 23) (pow_pos 24) (sym (scaled-is x t h))

-- as the code has it: 8388608.0 is `fin false 1 (pos 23)`
abbrev times : Float → Float
times p = mul binary64 p (fin false 1 (pos 23))

scaled-float : (p : Float) (x t : ℕ) → 2 ≤ x → HasValue p false (numer x t) (2 ^ 24) → times p ≡ of_int binary64 (pos (scaled x t))
unfolding of_int
scaled-float p x t h v =
    mul_val binary64 p (fin false 1 (pos 23)) false false (numer x t) (2 ^ 24) (2 ^ 23) 1 (pow_pos 24) (lit< tt) v (refl, refl)
    ∙ round_same binary64 false (numer x t * 2 ^ 23) (2 ^ 24) (scaled x t) 1 (pow_pos 24) (lit< tt) (omega (arith, scaled-is x t h))

-- ---- the halves from 2 ^ -13 to 1
abbrev inside : ℕ → ℕ
inside h = max 0x800 (min h 0x3c00)

abbrev scaled_of : ℕ → ℕ
scaled_of k = scaled (field k) (digits k)

scaled-lt : (k : ℕ) → 0x800 ≤ k → k ≤ 0x3c00 → scaled_of k < 2 ^ 31
scaled-lt k h l = elim (eq-or-not k 0x3c00) [
  | inl e ↦ subst (λ (z : ℕ). scaled_of z < 2 ^ 31) (sym e) (lit< tt)
  | inr n ↦ lt_of_lt_of_le (shl_lt 19 (field k - 2) (times-lt (sig (field k) (digits k)) (sig-lt (field k) (digits k) (omega arith)))) (pow_mono {j = 31} (omega (arith, n)))
]

-- ---- the byte of a half is that of the half inside
-- below 2 ^ -13 it is 0
hdr-low : (x t : ℕ) → x < 2 → t < 1024 → hdr_byte false x t ≡ 0
unfolding hdr_byte
hdr-low x t h l =
    let q : sig x t < 2 ^ 11 = sig-lt x t l in
    let e : x - 1 ≡ 0 = omega arith in
    let z : sig x t * 255 * 1 / 2 ^ 24 ≡ 0 = omega arith in
    rw (ne_eqb x 31 (λ n. omega arith)) (ap (λ (j : ℕ). min (sig x t * 255 * 2 ^ j / 2 ^ 24) 255) e ∙ ap (λ (w : ℕ). min w 255) z)

-- from 1 on it is 255
hdr-high : (x t : ℕ) → 15 ≤ x → hdr_byte false x t ≡ 255
unfolding hdr_byte
hdr-high x t h = go (eqb x 31)
  where
    n : eqb x 0 ≡ false
    n = ne_eqb x 0 (λ e. omega arith)

    low-sig : 1024 * 255 ≤ (1024 + t) * 255
    low-sig = omega arith

    big : 255 ≤ whole x t
    big = (le-div_iff_mul-le (pow_pos 24)).1 (rw n (mul-le-mul low-sig (pow_mono {i = 14} (omega arith))))

    go : (b : Bool) → cond b 255 (min (whole x t) 255) ≡ 255
    go true = refl
    go false = omega (arith, big)

-- between them it is the whole part
hdr-inside : (x t : ℕ) → 2 ≤ x → x < 15 → scaled x t < 2 ^ 31 → scaled x t / 2 ^ 23 ≡ hdr_byte false x t
unfolding hdr_byte
hdr-inside x t h l b = rw (ne_eqb x 31 (λ e. omega arith)) (scaled_small ∙ ap (λ (w : ℕ). min w 255) (scaled-whole x t h))
  where
    scaled_small : scaled x t / 2 ^ 23 ≡ min (scaled x t / 2 ^ 23) 255
    scaled_small = omega (arith, b)

inside-byte : (h : ℕ) → h < 32768 → scaled_of (inside h) / 2 ^ 23 ≡ hdr_byte (sign h) (field h) (digits h)
inside-byte h l = rw (lt-leb 32768 h l) (at (dec_lt h 0x800) (dec_lt h 0x3c00))
  where
    at : Dec (h < 0x800) → Dec (h < 0x3c00) → scaled_of (inside h) / 2 ^ 23 ≡ hdr_byte false (field h) (digits h)
    at (yes p) q =
        let e : inside h ≡ 0x800 = omega arith in
        rw e (sym (hdr-low (field h) (digits h) (omega arith) (omega arith)))
    at (no p) (yes q) =
        let e : inside h ≡ h = omega arith in
        rw e (hdr-inside (field h) (digits h) (omega arith) (omega arith) (scaled-lt h (omega arith) (omega arith)))
    at (no p) (no q) =
        let e : inside h ≡ 0x3c00 = omega arith in
        rw e (sym (hdr-high (field h) (digits h) (omega arith)))

-- ---- what the function computes: k is the half brought inside, p is its product
-- an `f64` as an `i32`, and that as a `u32`
abbrev signed : Float → ℤ
signed f = to_z w32 (of_z w32 (to_signed 31 f))

abbrev unsigned : Float → ℕ
unsigned f = nat_abs (signed f)

-- k is what `clamp` gives, and lies inside
pub from : (h k low high : ℕ) → k ≡ max low (min h high) → T (leb 0x800 low) → 0x800 ≤ k
from h k low high e l = omega (arith, leb→le 0x800 low l)

pub to : (h k low high : ℕ) → k ≡ max low (min h high) → T (leb low 0x3c00) → T (leb high 0x3c00) → k ≤ 0x3c00
to h k low high e l m = omega (arith, leb→le low 0x3c00 l, leb→le high 0x3c00 m)

module _ (k : ℕ) (p : Float) (a : 0x800 ≤ k) (b : k ≤ 0x3c00) (g : p ≡ product (sign k) (field k) (digits k)) where
  small : scaled_of k < 2 ^ 31
  small = scaled-lt k a b

  val : HasValue p false (numer (field k) (digits k)) (2 ^ 24)
  val = rw g (rw (lt-leb 32768 k (omega arith)) (product-val false (field k) (digits k) (λ z. omega arith)))

  pub widens : T (fits binary32 p) → T (fits binary64 p && not (is_nan p))
  widens f = and_i (fits binary64 p) (not (is_nan p)) (fits_widens p f) (no_nan p false (numer (field k) (digits k)) (2 ^ 24) val)

  back : T (in_signed binary64 31 (times p)) × (to_signed 31 (times p) ≡ pos (scaled_of k))
  unfolding in_float
  back =
      subst (λ (f : Float). T (in_signed binary64 31 f) × (to_signed 31 f ≡ pos (scaled_of k))) (sym (scaled-float p (field k) (digits k) (omega arith) val))
      (positive_back binary64 31 (scaled_of k) (le→leb (scaled_of k) (2 ^ 53) (le_of_lt (lt_of_lt_of_le small (lit≤ tt)))) small)

  pub whole_in : T (in_signed binary64 31 (times p))
  whole_in = back.0

  signed_is : signed (times p) ≡ pos (scaled_of k)
  signed_is = ap (λ (z : ℤ). to_z w32 (of_z w32 z)) back.1 ∙ to_z_pos w32 (scaled_of k) small

  pub no_sign : T (non_neg (signed (times p)))
  no_sign = subst (λ (z : ℤ). T (non_neg z)) (sym signed_is) tt

  unsigned_is : unsigned (times p) ≡ scaled_of k
  unsigned_is = ap nat_abs signed_is

  pub fits-32 : Fits w32 (unsigned (times p))
  fits-32 = record { fits = subst (λ (n : ℕ). n < 2 ^ 32) (sym unsigned_is) (lt_of_lt_of_le small (lit≤ tt)) }

  pub fits_8 : Fits w8 (unsigned (times p) / 8388608)
  fits_8 = record { fits = subst (λ (n : ℕ). n / 8388608 < 2 ^ 8) (sym unsigned_is) (omega (arith, small)) }

pub ret-hdr : (h k : ℕ) (p : Float) → h < 32768 → k ≡ inside h → p ≡ product (sign k) (field k) (digits k) → unsigned (times p) / 8388608 ≡ hdr_byte (sign h) (field h) (digits h)
ret-hdr h k p l e g =
    ap (λ (n : ℕ). n / 8388608) (unsigned_is k p (omega arith) (omega arith) g) ∙ ap (λ (j : ℕ). scaled_of j / 2 ^ 23) e ∙ inside-byte h l
