-- The laws of fields.
-- Assumes nothing.
use Rattle.std.specs.Prelude.{◌≡◌, ℕ, zero, suc, ◌+◌, ◌*◌, ◌-◌, ◌/◌, ◌%◌, ◌^◌, ◌≤◌, ◌<◌}
use Rattle.std.proofs.Common.{sym, ap, subst, ◌∙◌, add-zero, zero-add, suc-add, add_comm, mod-lt, mod-eq_of_lt, div-one, mul-div_cancel, mul_assoc, one-mul, lt_of_le_of_lt, lt_of_lt_of_le, arith, pow_pos, pow-add, shr-shr, pow_mono, shr_lt}
use Rattle.std.proofs.Math.Nat.{mod-one, mul-add-div_right, mul-mod_left, div-eq_of_lt}
use Rattle.std.proofs.Math.Pow.{field, mod-mod-pow, high, low, split, pow-lt}
use Rattle.std.proofs.lemmas.Nat.{mod-pow-add, shr_le}
use Rattle.std.proofs.Math.Arith.{digits_lt}
use Rattle.bits.specs.Bits.{bits_at}

pub bits-lt : (v s n : ℕ) → bits_at v s n < 2 ^ n
unfolding bits_at
bits-lt v s n = mod-lt (v / 2 ^ s) (pow_pos n)

-- from bit 0: a remainder
pub bits-zero : (v n : ℕ) → bits_at v 0 n ≡ v % 2 ^ n
unfolding bits_at
bits-zero v n = rw (div-one v)

-- a number of n bits is its own field
pub bits-whole : (v n : ℕ) → v < 2 ^ n → bits_at v 0 n ≡ v
bits-whole v n h = bits-zero v n ∙ mod-eq_of_lt h

-- past the end there is nothing
pub bits-past : (v s n m : ℕ) → v < 2 ^ m → m ≤ s → bits_at v s n ≡ 0
unfolding bits_at
bits-past v s n m h l = rw (div-eq_of_lt {n = v} {m = 2 ^ s} (lt_of_lt_of_le h (pow_mono l)), mod-eq_of_lt {n = 0} {m = 2 ^ n} (pow_pos n))

-- no bits
pub bits_none : (v s : ℕ) → bits_at v s 0 ≡ 0
unfolding bits_at
bits_none v s = mod-one (v / 2 ^ s)

-- the law of locality, with the field's length given by what follows the part
inner : (v s p i k : ℕ) → bits_at v (s + i) k ≡ bits_at (bits_at v s (p + k + i)) i k
unfolding bits_at
inner v s p i k = rw (field (v / 2 ^ s) (p + k) i, mod-mod-pow (v / 2 ^ s / 2 ^ i) p k, shr-shr v s i)

-- a part of a field depends on that field alone
pub locality : (v s n i k : ℕ) → i + k ≤ n → bits_at v (s + i) k ≡ bits_at (bits_at v s n) i k
locality v s n i k h = let e : (n - (i + k)) + k + i ≡ n = omega arith in rw e at (inner v s (n - (i + k)) i k)

-- the low bits of a field
pub low_bits : (v s n k : ℕ) → k ≤ n → bits_at v s n % 2 ^ k ≡ bits_at v s k
low_bits v s n k h =
    sym (bits-zero (bits_at v s n) k) ∙ sym (locality v s n 0 k (omega arith)) ∙ ap (λ (t : ℕ). bits_at v t k) (add-zero s)

-- a field in two parts
pub join : (v s n m : ℕ) → bits_at v s (m + n) ≡ bits_at v (s + n) m * 2 ^ n + bits_at v s n
unfolding bits_at
join v s n m = rw (mod-pow-add (v / 2 ^ s) m n, shr-shr v s n)

-- two numbers with the same bits from s to s + n have the same field there
pub same_bits : (v w s n : ℕ) → ((k : ℕ) → s ≤ k → k < s + n → bits_at v k 1 ≡ bits_at w k 1) → bits_at v s n ≡ bits_at w s n
same_bits v w s zero h = bits_none v s ∙ sym (bits_none w s)
same_bits v w s (suc n) h =
    subst (λ (m : ℕ). bits_at v s m ≡ bits_at w s m) (suc-add 0 n ∙ ap suc (zero-add n))
    (rw (join v s n 1, join w s n 1, h (s + n) (omega arith) (omega arith), same_bits v w s n (λ k a b. h k a (omega arith))))

-- the same, at two places
pub same-shift : (v w s t n : ℕ) → ((k : ℕ) → k < n → bits_at v (s + k) 1 ≡ bits_at w (t + k) 1) → bits_at v s n ≡ bits_at w t n
same-shift v w s t zero h = bits_none v s ∙ sym (bits_none w t)
same-shift v w s t (suc n) h =
    subst (λ (m : ℕ). bits_at v s m ≡ bits_at w t m) (suc-add 0 n ∙ ap suc (zero-add n))
    (rw (join v s n 1, join w t n 1, h n (omega arith), same-shift v w s t n (λ k b. h k (omega arith))))

-- what stands above the low k bits
pub above : (hi lo k s n : ℕ) → lo < 2 ^ k → bits_at (hi * 2 ^ k + lo) (k + s) n ≡ bits_at hi s n
unfolding bits_at
above hi lo k s n h = rw (← (shr-shr (hi * 2 ^ k + lo) k s), high hi k {lo = lo} h)

-- the two words of a number: the high one
pub high_word : (hi lo s n : ℕ) → lo < 2 ^ 64 → bits_at (hi * 2 ^ 64 + lo) (64 + s) n ≡ bits_at hi s n
high_word hi lo s n h = above hi lo 64 s n h

-- a field that lies in both words
across : (hi lo s t : ℕ) → lo < 2 ^ (t + s) → bits_at (hi * 2 ^ (t + s) + lo) s (s + t) ≡ lo / 2 ^ s + hi * 2 ^ t % 2 ^ (s + t)
unfolding bits_at
across hi lo s t h =
    let q : lo / 2 ^ s < 2 ^ t = shr_lt t s h in
    let e : (hi * 2 ^ (t + s) + lo) / 2 ^ s ≡ hi * 2 ^ t + lo / 2 ^ s =
    rw (pow-add 2 t s, ← (mul_assoc hi (2 ^ t) (2 ^ s))) (mul-add-div_right (pow_pos s) (hi * 2 ^ t) lo) in
    let l : (hi * 2 ^ t + lo / 2 ^ s) % 2 ^ (s + t) ≡ hi % 2 ^ s * 2 ^ t + lo / 2 ^ s =
    rw (mod-pow-add (hi * 2 ^ t + lo / 2 ^ s) s t, high hi t {lo = lo / 2 ^ s} q, low hi t {lo = lo / 2 ^ s} q) in
    let r : hi * 2 ^ t % 2 ^ (s + t) ≡ hi % 2 ^ s * 2 ^ t =
    rw (mod-pow-add (hi * 2 ^ t) s t, mul-div_cancel hi (pow_pos t), mul-mod_left hi (2 ^ t)) (add-zero _) in
    rw (e, l, r) (add_comm _ _)

pub both_words : (hi lo s t : ℕ) → s + t ≡ 64 → lo < 2 ^ 64 → bits_at (hi * 2 ^ 64 + lo) s 64 ≡ lo / 2 ^ s + hi * 2 ^ t % 2 ^ 64
both_words hi lo s t e h =
    let f : t + s ≡ 64 = omega arith in
    rw f at (rw e at (across hi lo s t (rw f h)))

-- what a machine's shift gives
pub one_shl : (n : ℕ) → n < 64 → 1 * 2 ^ n % 2 ^ 64 ≡ 2 ^ n
one_shl n h = rw (one-mul (2 ^ n)) (mod-eq_of_lt (pow-lt h))

pub bits-shr : (v s n : ℕ) → v < 2 ^ n → bits_at v s n ≡ v / 2 ^ s
unfolding bits_at
bits-shr v s n h = mod-eq_of_lt (lt_of_le_of_lt (shr_le v s) h)

pub high-only : (hi lo s : ℕ) → 64 ≤ s → lo < 2 ^ 64 → hi < 2 ^ 64 → bits_at (hi * 2 ^ 64 + lo) s 64 ≡ hi / 2 ^ (s - 64)
high-only hi lo s h l k =
    let e : 64 + (s - 64) ≡ s = omega arith in
    rw e at (high_word hi lo (s - 64) 64 l) ∙ bits-shr hi (s - 64) 64 k

pub low-only : (hi lo : ℕ) → lo < 2 ^ 64 → bits_at (hi * 2 ^ 64 + lo) 0 64 ≡ lo
low-only hi lo h = bits-zero (hi * 2 ^ 64 + lo) 64 ∙ low hi 64 {lo = lo} h

pub words-lt : (hi lo : ℕ) → hi < 2 ^ 64 → lo < 2 ^ 64 → hi * 2 ^ 64 + lo < 2 ^ 128
words-lt hi lo h l = digits_lt {q = hi} {m = 2 ^ 64} {r = lo} {c = 2 ^ 64} h l

-- past a number's end a longer field is no other
pub bits-longer : (v s m n : ℕ) → v < 2 ^ m → m ≤ n → bits_at v s n ≡ bits_at v s m
bits-longer v s m n h l = bits-shr v s n (lt_of_lt_of_le h (pow_mono l)) ∙ sym (bits-shr v s m h)

-- two words shifted together fit in one, whichever they are
pub both-fit : (hi lo s t : ℕ) → s + t ≡ 64 → lo < 2 ^ 64 → lo / 2 ^ s + hi * 2 ^ t % 2 ^ 64 < 2 ^ 64
both-fit hi lo s t e h = rw (← (both_words hi lo s t e h)) (bits-lt (hi * 2 ^ 64 + lo) s 64)

-- a number without its low bits, word by word
pub skipped : (hi lo n t : ℕ) → n + t ≡ 64 → lo < 2 ^ 64 → hi / 2 ^ n * 2 ^ 64 + (lo / 2 ^ n + hi * 2 ^ t % 2 ^ 64) ≡ (hi * 2 ^ 64 + lo) / 2 ^ n
unfolding bits_at
skipped hi lo n t e h =
    let v : ℕ = hi * 2 ^ 64 + lo in
    let up : v / 2 ^ n / 2 ^ 64 ≡ hi / 2 ^ n =
    rw (shr-shr v n 64, add_comm n 64, ← (shr-shr v 64 n), high hi 64 {lo = lo} h) in
    rw (← (both_words hi lo n t e h), ← up) (split (v / 2 ^ n) 64)
