-- The laws of halves as values: each is sig * 2 ^ (x - 1) / 2 ^ 24, and an `f32` holds it. Assumes nothing.
use Rattle.std.specs.Prelude.{◌≡◌, ℕ, ◌+◌, ◌-◌, ◌*◌, ◌^◌, ◌≤◌, ◌<◌, Bool, true, false, not, cond, T, eqb, Float}
use Rattle.std.proofs.Common.{sym, subst, lt_of_lt_of_le, le_of_lt, arith, eqb→eq, lit≤, pow_pos, pow_mono, shl_lt}
use Rattle.std.proofs.Math.Dec.{not_T}
use Rattle.std.specs.Float.{nan, inf, binary32}
use Rattle.std.specs.Float.Ieee.{odd, fits}
use Rattle.std.specs.Float.Ieee.Fits.{odd-fits, inf-fits, nan-fits, cond-fits}
use Rattle.std.specs.Float.Ieee.Bits.{cond_no}
use Rattle.std.specs.Float.Ieee.Exact.{HasValue, odd_sign}
use Rattle.half.specs.Half.{sig, value}
use Rattle.half.specs.Fractions.{value-unique, odd_shift}

pub not_eqb : (a b : ℕ) → (a ≡ b → ⊥) → T (not (eqb a b))
not_eqb a b h = not_T (eqb a b) (λ (u : T (eqb a b)). h (eqb→eq a b u))

pub value-is : (s : Bool) (x t : ℕ) → (x ≡ 31 → ⊥) → value s x t ≡ odd 11 s (sig x t) (x - 1) 24
unfolding value
value-is s x t h = cond_no (eqb x 31) (cond (eqb t 0) (inf s) nan) (odd 11 s (sig x t) (x - 1) 24) (not_eqb x 31 h)

pub value-val : (s : Bool) (x t : ℕ) → (x ≡ 31 → ⊥) → HasValue (value s x t) s (sig x t * 2 ^ (x - 1)) (2 ^ 24)
value-val s x t h = subst (λ (v : Float). HasValue v s (sig x t * 2 ^ (x - 1)) (2 ^ 24)) (sym (value-is s x t h)) (odd_sign 11 s (sig x t) (x - 1) 24)

pub sig-lt : (x t : ℕ) → t < 1024 → sig x t < 2 ^ 11
sig-lt x t h = go (eqb x 0)
  where
    go : (b : Bool) → cond b t (1024 + t) < 2 ^ 11
    go true = omega arith
    go false = omega arith

-- q * 2 ^ j units, far below the largest
pub room : (q d k j : ℕ) → q < 2 ^ d → d + (k + j) ≤ 277 → q * 2 ^ (k + j) < 2 ^ 277
room q d k j h l = lt_of_lt_of_le (shl_lt d (k + j) h) (pow_mono l)

pub value-fits : (s : Bool) (x t : ℕ) → x < 32 → t < 1024 → T (fits binary32 (value s x t))
unfolding value
value-fits s x t h k =
    cond-fits binary32 (eqb x 31) (cond (eqb t 0) (inf s) nan) (odd 11 s (sig x t) (x - 1) 24)
    (cond-fits binary32 (eqb t 0) (inf s) nan (inf-fits binary32 s) (nan-fits binary32))
    (subst (λ (v : Float). T (fits binary32 v)) (sym (odd_shift 11 s (sig x t) (x - 1) 24 125))
    (odd-fits binary32 11 s (sig x t) (x - 1 + 125) (sig-lt x t k) (le_of_lt (lt_of_lt_of_le (sig-lt x t k) (lit≤ tt))) (room (sig x t) 11 (x - 1) 125 (sig-lt x t k) (omega arith))))

-- what has a half's fraction, and fits, is the half
pub value_of : (v : Float) (s : Bool) (x t : ℕ) → x < 32 → t < 1024 → (x ≡ 31 → ⊥) → T (fits binary32 v) → HasValue v s (sig x t * 2 ^ (x - 1)) (2 ^ 24) → v ≡ value s x t
value_of v s x t h k n p w = value-unique binary32 v (value s x t) s (sig x t * 2 ^ (x - 1)) (2 ^ 24) (pow_pos 24) p (value-fits s x t h k) w (value-val s x t n)
