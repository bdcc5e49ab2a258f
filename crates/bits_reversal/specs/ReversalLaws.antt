-- The laws of reversal.
-- Assumes nothing.
use Rattle.std.specs.Prelude.{◌≡◌, refl, ℕ, zero, suc, ◌+◌, ◌*◌, ◌-◌, ◌/◌, ◌%◌, ◌^◌, ◌≤◌, ◌<◌}
use Rattle.std.proofs.Common.{sym, ap, ◌∙◌, zero-add, suc-add, add_assoc, mod-lt, mod-eq_of_lt, div-one, mul_assoc, add-mul, zero-mul, add-one, one-add, arith, pow-add, shr-shr, lit<}
use Rattle.std.proofs.Math.Nat.{pow-succ'}
use Rattle.std.proofs.Math.Pow.{field, mod-mod-pow, high, low}
use Rattle.std.proofs.Math.Arith.{digits_lt}
use Rattle.bits.specs.Bits.{bits_at, reversed}
use Rattle.bits.specs.BitLaws.{bits-lt}

-- reversal: of a number in two parts
pub reversed-split : (n m v : ℕ) → reversed (n + m) v ≡ reversed n v * 2 ^ m + reversed m (v / 2 ^ n)
unfolding reversed
reversed-split zero m v = rw (zero-add m, div-one v, zero-mul (2 ^ m), zero-add (reversed m v))
reversed-split (suc n) m v =
    rw (suc-add n m, reversed-split n m (v / 2), pow-add 2 n m, shr-shr v 1 n, one-add n, add-mul (v % 2 * 2 ^ n) (reversed n (v / 2)) (2 ^ m), mul_assoc (v % 2) (2 ^ n) (2 ^ m))
    (sym (add_assoc _ _ _))

pub reversed-lt : (n v : ℕ) → reversed n v < 2 ^ n
unfolding reversed
reversed-lt zero v = lit< tt
reversed-lt (suc n) v = rw (pow-succ' 2 n) (digits_lt (mod-lt v (lit< tt)) (reversed-lt n (v / 2)))

-- it takes the low n bits alone
pub reversed-low : (n v : ℕ) → reversed n (v % 2 ^ n) ≡ reversed n v
unfolding reversed
reversed-low zero v = refl
reversed-low (suc n) v =
    let e : 2 ^ suc n ≡ 2 ^ (n + 1) = ap (λ (m : ℕ). 2 ^ m) (sym (add-one n)) in
    rw (e, mod-mod-pow v n 1, field v n 1, reversed-low n (v / 2))

-- of two halves: they change places, each reversed
pub reversed-halves : (n v : ℕ) → reversed (n + n) v ≡ reversed n (v % 2 ^ n) * 2 ^ n + reversed n (v / 2 ^ n)
reversed-halves n v = rw (reversed-low n v) (reversed-split n n v)

-- a field of the reversed number is the reversed field from the other end
pub reversed-field : (a n s v : ℕ) → bits_at (reversed (a + (n + s)) v) s n ≡ reversed n (bits_at v a n)
unfolding bits_at
reversed-field a n s v =
    let e : reversed a v * 2 ^ (n + s) + (reversed n (v / 2 ^ a) * 2 ^ s + reversed s (v / 2 ^ a / 2 ^ n))
    ≡ (reversed a v * 2 ^ n + reversed n (v / 2 ^ a)) * 2 ^ s + reversed s (v / 2 ^ a / 2 ^ n) =
    rw (pow-add 2 n s, add-mul (reversed a v * 2 ^ n) (reversed n (v / 2 ^ a)) (2 ^ s), mul_assoc (reversed a v) (2 ^ n) (2 ^ s)) (sym (add_assoc _ _ _)) in
    rw (reversed-split a (n + s) v, reversed-split n s (v / 2 ^ a), e, high (reversed a v * 2 ^ n + reversed n (v / 2 ^ a)) s {lo = reversed s (v / 2 ^ a / 2 ^ n)} (reversed-lt s _), low (reversed a v) n {lo = reversed n (v / 2 ^ a)} (reversed-lt n _), reversed-low n (v / 2 ^ a))

pub reversed-one : (v : ℕ) → reversed 1 v ≡ v % 2
unfolding reversed
reversed-one v = omega arith

-- bit k of the reversed number is bit n - 1 - k
pub reversed-bit : (n v k : ℕ) → k < n → bits_at (reversed n v) k 1 ≡ bits_at v (n - 1 - k) 1
reversed-bit n v k h =
    let e : (n - 1 - k) + (1 + k) ≡ n = omega arith in
    rw e at (reversed-field (n - 1 - k) 1 k v) ∙ reversed-one (bits_at v (n - 1 - k) 1) ∙ mod-eq_of_lt (bits-lt v (n - 1 - k) 1)

-- the two words of a block change places
pub reversed-words : (hi lo : ℕ) → lo < 2 ^ 64 → reversed 128 (hi * 2 ^ 64 + lo) ≡ reversed 64 lo * 2 ^ 64 + reversed 64 hi
reversed-words hi lo h =
    reversed-halves 64 (hi * 2 ^ 64 + lo) ∙ rw (high hi 64 {lo = lo} h, low hi 64 {lo = lo} h)

-- the field from the top of the reversed number
pub reversed-top : (m n v : ℕ) → n ≤ m → bits_at (reversed m v) 0 n ≡ reversed n (bits_at v (m - n) n)
reversed-top m n v h =
    let e : (m - n) + (n + 0) ≡ m = omega arith in
    rw e at (reversed-field (m - n) n 0 v)
