-- The bytes of a void extent's halves, by what the HDR rule gives. Assumes nothing.
use mathlib.Core.Path.{◌≡◌, ◌∙◌}
use Prim.Native.Nat.{ℕ, ◌≤◌, ◌<◌}
use native.Mathlib.Decide.{ℕ_discrete}
use native.Mathlib.Omega.{arith}
use borrow.Author.Tests.{eq-eqb, ne_eqb, le-leb}
use Rattle.half.specs.Half.{field, digits, hdr_byte, hdr_byte_of, void_byte, void_byte_of}

-- up to plus infinity the two rules agree
pub void-plus : (h r : ℕ) → h ≤ 0x7c00 → r ≡ hdr_byte_of h → r ≡ void_byte_of h
unfolding hdr_byte void_byte
void-plus h r l e = e ∙ go (ℕ_discrete (field h) 31)
  where
    go : Dec (field h ≡ 31) → hdr_byte_of h ≡ void_byte_of h
    go (yes x) =
        let d : digits h ≡ 0 = omega arith in
        rw (eq-eqb (field h) 31 x, eq-eqb (digits h) 0 d)
    go (no x) = rw (ne_eqb (field h) 31 x)

pub void-minus-infinity : (h : ℕ) → h ≡ 0xfc00 → 255 ≡ void_byte_of h
unfolding void_byte
void-minus-infinity h e = rw e

-- a NaN, or a negative number
pub void-none : (h : ℕ) → h < 65536 → 0x7c00 < h → (h ≡ 0xfc00 → ⊥) → 0 ≡ void_byte_of h
unfolding void_byte
void-none h w l n = go (ℕ_discrete (field h) 31)
  where
    go : Dec (field h ≡ 31) → 0 ≡ void_byte_of h
    go (yes x) =
        let d : digits h ≡ 0 → ⊥ = λ z. n (omega arith) in
        rw (eq-eqb (field h) 31 x, ne_eqb (digits h) 0 d)
    go (no x) =
        let s : 32768 ≤ h = omega arith in
        rw (ne_eqb (field h) 31 x, le-leb 32768 h s)
