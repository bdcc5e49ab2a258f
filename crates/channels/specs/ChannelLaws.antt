-- The laws of channels: a float's byte by the fraction that it equals, so that a half's byte is that of docs/SCOPE.md by both rules, and the bits of a float.
-- Assumes nothing.
use Rattle.std.specs.Prelude.{◌≡◌, refl, Bool, true, false, cond, not, ℕ, ◌+◌, ◌-◌, ◌*◌, ◌/◌, ◌%◌, ◌^◌, ◌≤◌, ◌<◌, min, T, eqb, Float as Ieee}
use Rattle.std.proofs.Common.{ap, ◌∙◌, mul_right_comm, arith, pow_pos, eq-eqb, ne_eqb, lt-ltb, le-ltb}
use Rattle.std.proofs.Math.Decide.{dec_lt, ℕ_discrete}
use Rattle.std.specs.Float.{nan, inf, fin, binary32}
use Rattle.std.specs.Float.Ieee.{up, down, is_nan, to_bits, of_bits}
use Rattle.std.specs.Float.Ieee.Fits.{down_pos}
use Rattle.std.specs.Float.Ieee.Bits.{of_bits-to_bits}
use Rattle.std.specs.Float.Ieee.Exact.{HasValue}
use Rattle.std.specs.Float.Ieee.Nearest.{div_same}
use Rattle.half.specs.Half.{sign, field, digits, sig, whole, value, half, hdr_byte, hdr_byte_of, void_byte, void_byte_of}
use Rattle.half.specs.HalfLaws.{value-val, value-fits}
use Rattle.channels.specs.Channels.{finite, float_bits, byte_of}

-- ---- the byte of a float, by its sign and the fraction a / c
pub byte-val : (n : ℕ) (x : Ieee) (s : Bool) (a c : ℕ) → 0 < c → HasValue x s a c → byte_of n x ≡ cond s 0 (min (a * 255 / c) 255)
unfolding byte_of
byte-val n nan s a c C v = absurd v
byte-val n (inf t) s a c C v = absurd v
byte-val n (fin t m e) s a c C v =
    ap (λ (b : Bool). cond b 0 (min (m * up e * 255 / down e) 255)) v.0
    ∙ ap (λ (q : ℕ). cond s 0 (min q 255)) (div_same (m * up e * 255) (down e) (a * 255) c (down_pos e) C (mul_right_comm (m * up e) 255 c ∙ ap (λ (z : ℕ). z * 255) v.1 ∙ mul_right_comm a (down e) 255))

-- ---- the byte of a half
-- an infinity, or a NaN
special-byte : (n : ℕ) (s : Bool) (t : ℕ) → byte_of n (value s 31 t) ≡ cond (eqb t 0) 255 n
unfolding byte_of value
special-byte n s t = go (eqb t 0)
  where
    go : (b : Bool) → byte_of n (cond b (inf s) nan) ≡ cond b 255 n
    go true = refl
    go false = refl

half-byte : (n : ℕ) (s : Bool) (x t : ℕ) → byte_of n (value s x t) ≡ cond (eqb x 31) (cond (eqb t 0) 255 n) (cond s 0 (min (whole x t) 255))
half-byte n s x t = go (ℕ_discrete x 31)
  where
    go : Dec (x ≡ 31) → byte_of n (value s x t) ≡ cond (eqb x 31) (cond (eqb t 0) 255 n) (cond s 0 (min (whole x t) 255))
    go (yes e) = rw e (special-byte n s t)
    go (no h) =
        rw (ne_eqb x 31 h)
        (byte-val n (value s x t) s (sig x t * 2 ^ (x - 1)) (2 ^ 24) (pow_pos 24) (value-val s x t h)
        ∙ ap (λ (z : ℕ). cond s 0 (min (z / 2 ^ 24) 255)) (mul_right_comm (sig x t) (2 ^ (x - 1)) 255))

same : (b : Bool) (n : ℕ) → cond b n n ≡ n
same true n = refl
same false n = refl

-- a half's byte is that of the float which it equals: by the rule of HDR channels, and by that of void blocks
pub hdr-reduced : (h : ℕ) → byte_of 255 (half h) ≡ hdr_byte_of h
unfolding hdr_byte
hdr-reduced h = half-byte 255 (sign h) (field h) (digits h) ∙ rw (same (eqb (digits h) 0) 255)

pub void-reduced : (h : ℕ) → byte_of 0 (half h) ≡ void_byte_of h
unfolding void_byte
void-reduced h = half-byte 0 (sign h) (field h) (digits h)

-- the largest finite half has the byte of infinity and of every NaN
pub finite-byte : (h : ℕ) → h < 32768 → hdr_byte_of (finite h) ≡ hdr_byte_of h
unfolding hdr_byte
finite-byte h l = go (dec_lt h 0x7c00)
  where
    largest : hdr_byte_of 0x7bff ≡ 255
    largest = refl

    go : Dec (h < 0x7c00) → hdr_byte_of (finite h) ≡ hdr_byte_of h
    go (yes p) = let e : finite h ≡ h = omega arith in rw e
    go (no p) =
        let e : finite h ≡ 0x7bff = omega arith in
        let x : field h ≡ 31 = omega arith in
        rw (e, eq-eqb (field h) 31 x) largest

-- ---- the bits of a float
pub half-is-nan : (h : ℕ) → 0x7c00 < h % 32768 → half h ≡ nan
unfolding value
half-is-nan h l =
    let x : field h ≡ 31 = omega arith in
    rw (eq-eqb (field h) 31 x, ne_eqb (digits h) 0 (λ z. omega arith))

pub half-no-nan : (h : ℕ) → h % 32768 ≤ 0x7c00 → T (not (is_nan (half h)))
unfolding value is_nan
half-no-nan h l = go (ℕ_discrete (field h) 31)
  where
    number : (v : Ieee) (s : Bool) (a c : ℕ) → HasValue v s a c → T (not (is_nan v))
    number nan s a c h = absurd h
    number (inf t) s a c h = tt
    number (fin t m e) s a c h = tt

    go : Dec (field h ≡ 31) → T (not (is_nan (half h)))
    go (yes e) = rw (eq-eqb (field h) 31 e, eq-eqb (digits h) 0 (omega arith)) tt
    go (no n) = number (half h) (sign h) _ _ (value-val (sign h) (field h) (digits h) n)

-- The float of the bits that C reads is the one that is answered. Every NaN's bits are one NaN's.
pub bits-float : (h : ℕ) → h < 65536 → of_bits binary32 (float_bits h) ≡ half h
unfolding float_bits of_bits
bits-float h l = go (dec_lt 0x7c00 (h % 32768)) (ℕ_discrete (h / 32768) 0)
  where
    go : Dec (0x7c00 < h % 32768) → Dec (h / 32768 ≡ 0) → of_bits binary32 (float_bits h) ≡ half h
    go (yes p) (yes q) = rw (lt-ltb 0x7c00 (h % 32768) p, q, half-is-nan h p)
    go (yes p) (no q) = let e : h / 32768 ≡ 1 = omega arith in rw (lt-ltb 0x7c00 (h % 32768) p, e, half-is-nan h p)
    go (no p) q = rw (le-ltb 0x7c00 (h % 32768) (omega arith)) (of_bits-to_bits binary32 (half h) (value-fits (sign h) (field h) (digits h) (omega arith) (omega arith)))

-- ---- as the code has them
pub ret-nan-bits : (h : ℕ) → 0x7c00 < h % 32768 → h / 32768 * 0x8000_0000 + 0x7fc0_0000 ≡ float_bits h
unfolding float_bits
ret-nan-bits h l = rw (lt-ltb 0x7c00 (h % 32768) l)

pub ret-float-bits : (h : ℕ) (x : Ieee) → h % 32768 ≤ 0x7c00 → x ≡ half h → to_bits binary32 x ≡ float_bits h
unfolding float_bits
ret-float-bits h x l e = rw (le-ltb 0x7c00 (h % 32768) l, e)
