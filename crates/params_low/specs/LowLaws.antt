-- The low configuration has the first bits of its block, and is told by its own bits alone.
-- Assumes nothing.
use Rattle.std.specs.Prelude.{◌≡◌, Bool, true, false, cond, ℕ, ◌+◌, ◌≤◌, ◌<◌, eqb}
use Rattle.std.proofs.Common.{sym, ap, ◌∙◌, arith}
use Rattle.laws.specs.Numbers.{choice-le}
use Rattle.bits.specs.Bits.{bits_at}
use Rattle.bits.specs.BitLaws.{locality, same_bits}
use Rattle.params_low.specs.Low.{is_void, conf_len, low_of, extent_of}

-- ---- how long it is
pub conf-most : (p : ℕ) → conf_len p ≤ 29
unfolding conf_len
conf-most p = choice-le (eqb p 1) 17 29 (omega arith) (omega arith)

pub conf-least : (p : ℕ) → 17 ≤ conf_len p
unfolding conf_len
conf-least p = go (eqb p 1)
  where
    go : (b : Bool) → 17 ≤ cond b 17 29
    go true = omega arith
    go false = omega arith

-- ---- the first bits of a block are those of its low configuration
pub low-bits-are : (v s n : ℕ) → s + n ≤ 17 → bits_at (low_of v) s n ≡ bits_at v s n
unfolding low_of
low-bits-are v s n h =
    let p = bits_at v 11 2 + 1 in
    sym (locality v 0 (conf_len p) s n (omega (arith, conf-least p))) ∙ ap (λ (k : ℕ). bits_at v k n) (omega arith)

pub void-low : (v : ℕ) → is_void (low_of v) ≡ is_void v
unfolding is_void
void-low v = rw (low-bits-are v 0 9 (omega arith))

-- ---- locality
-- two blocks have the same bits from s to s + n
abbrev pub SameBits : ℕ → ℕ → ℕ → ℕ → Type 0
SameBits v w s n = (k : ℕ) → s ≤ k → k < s + n → bits_at v k 1 ≡ bits_at w k 1

pub low_same : (v w : ℕ) → SameBits v w 0 (conf_len (bits_at (low_of v) 11 2 + 1)) → low_of v ≡ low_of w
unfolding low_of
low_same v w s =
    let p = bits_at v 11 2 + 1 in
    let s' : SameBits v w 0 (conf_len p) = rw (low-bits-are v 11 2 (omega arith)) at s in
    let e : bits_at v 11 2 ≡ bits_at w 11 2 = same_bits v w 11 2 (λ k a b. s' k (omega arith) (omega (arith, conf-least p))) in
    same_bits v w 0 (conf_len p) s' ∙ ap (λ (x : ℕ). bits_at w 0 (conf_len (x + 1))) e

-- a block that is not void has no extent
pub extent-none : (v : ℕ) → is_void v ≡ false → extent_of v ≡ 0
unfolding extent_of
extent-none v e = rw e
