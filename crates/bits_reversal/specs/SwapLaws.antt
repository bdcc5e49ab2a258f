-- Six exchanges reverse a word: where runs of n bits have each their bits in the other order, exchanging them two by two leaves runs of twice
-- the length in the other order.
-- Assumes nothing.
use Rattle.std.specs.Prelude.{◌≡◌, refl, ℕ, zero, suc, ◌+◌, ◌*◌, ◌-◌, ◌/◌, ◌%◌, ◌^◌, ◌<◌}
use Rattle.std.proofs.Common.{sym, ap, ◌∙◌, zero-add, add_comm, add-mul, mul_right_comm, mul-suc, mul-zero, suc-add, add-suc, mod-lt, mod-eq_of_lt, zero-mul, add-one, arith, pow-add, pow_pos, pow_mono, shr-shr, lit<}
use Rattle.std.proofs.Math.Nat.{mod-one}
use Rattle.std.proofs.Math.Pow.{split, high, low, mod-mod-pow}
use Rattle.std.proofs.lemmas.Nat.{mod-pow-add, and_block, and_mask}
use Rattle.std.proofs.Math.Arith.{digits_lt}
use Rattle.std.specs.Int.Bits.{bit_and, and_zero_r}
use Rattle.bits.specs.Bits.{reversed}
use Rattle.bits_reversal.specs.Swaps.{runs_swapped, lower_runs, SwapGiven}
use Rattle.bits_reversal.specs.ReversalLaws.{reversed-one, reversed-split, reversed-lt}

-- ---- masks and shifts exchange runs

-- a mask's ones at one pair more
masked : (n m v : ℕ) → bit_and v (lower_runs n (suc m)) ≡ bit_and (v / 2 ^ (n + n)) (lower_runs n m) * 2 ^ (n + n) + v % 2 ^ n
unfolding lower_runs
masked n m v =
    let short : 2 ^ n - 1 < 2 ^ (n + n) = omega (arith, pow_pos n, pow_mono {i = n} {j = n + n} (omega arith)) in
    ap (λ (x : ℕ). bit_and x (lower_runs n m * 2 ^ (n + n) + (2 ^ n - 1))) (sym (split v (n + n)))
    ∙ and_block (n + n) (v / 2 ^ (n + n)) (lower_runs n m) (v % 2 ^ (n + n)) (2 ^ n - 1) (mod-lt v (pow_pos (n + n))) short
    ∙ rw (and_mask (v % 2 ^ (n + n)) n, mod-mod-pow v n n)

-- one pair more beside the pairs above it
beside : (a b p k l u : ℕ) → (a * p + l) * k + (b * p + u) ≡ (a * k + b) * p + (l * k + u)
beside a b p k l u = omega (arith, add-mul (a * p) l k, add-mul (a * k) b p, mul_right_comm a p k)

swap_is : (n m v : ℕ) → bit_and v (lower_runs n m) * 2 ^ n + bit_and (v / 2 ^ n) (lower_runs n m) ≡ runs_swapped n m v
unfolding runs_swapped lower_runs
swap_is n zero v = rw (and_zero_r v, and_zero_r (v / 2 ^ n), zero-mul (2 ^ n))
swap_is n (suc m) v =
    let e : v / 2 ^ n / 2 ^ (n + n) ≡ v / 2 ^ (n + n) / 2 ^ n = rw (shr-shr v n (n + n), shr-shr v (n + n) n, add_comm n (n + n)) in
    rw (masked n m v, masked n m (v / 2 ^ n), e, ← (swap_is n m (v / 2 ^ (n + n))))
    (beside _ _ (2 ^ (n + n)) (2 ^ n) (v % 2 ^ n) (v / 2 ^ n % 2 ^ n))

runs-swapped-lt : (n m v : ℕ) → runs_swapped n m v < 2 ^ ((n + n) * m)
unfolding runs_swapped
runs-swapped-lt n zero v = rw (mul-zero (n + n)) (lit< tt)
runs-swapped-lt n (suc m) v =
    rw (mul-suc (n + n) m, pow-add 2 ((n + n) * m) (n + n))
    (digits_lt (runs-swapped-lt n m (v / 2 ^ (n + n))) (rw (pow-add 2 n n) (digits_lt (mod-lt v (pow_pos n)) (mod-lt (v / 2 ^ n) (pow_pos n)))))

-- as a machine with words of 64 bits does it: the shift loses nothing
pub swap-whole : (v n mask : ℕ) → SwapGiven n mask → bit_and v mask * 2 ^ n % 2 ^ 64 + bit_and (v / 2 ^ n) mask ≡ runs_swapped n (32 / n) v
swap-whole v n mask g =
    let m : ℕ = 32 / n in
    let e : bit_and v mask * 2 ^ n + bit_and (v / 2 ^ n) mask ≡ runs_swapped n m v = rw g.lower (swap_is n m v) in
    let l : runs_swapped n m v < 2 ^ 64 = rw g.fills at (runs-swapped-lt n m v) in
    ap (λ (x : ℕ). x + bit_and (v / 2 ^ n) mask) (mod-eq_of_lt (omega (arith, e, l))) ∙ e

-- nor does the sum
pub swap-fits : (v n mask : ℕ) → SwapGiven n mask → bit_and v mask * 2 ^ n % 2 ^ 64 + bit_and (v / 2 ^ n) mask < 2 ^ 64
swap-fits v n mask g = rw (swap-whole v n mask g) (rw g.fills at (runs-swapped-lt n (32 / n) v))

-- ---- exchanged runs are runs of twice the length

-- m runs of n bits, each in its place with its bits in the other order
unfoldable runs : ℕ → ℕ → ℕ → ℕ
runs n zero v = 0
runs n (suc m) v = runs n m (v / 2 ^ n) * 2 ^ n + reversed n v

doubled : (n m v : ℕ) → runs_swapped n m (runs n (m + m) v) ≡ runs (n + n) m v
unfolding runs_swapped runs
doubled n zero v = refl
doubled n (suc m) v =
    let a : ℕ = runs n (m + m) (v / 2 ^ n / 2 ^ n) in
    let u : ℕ = reversed n (v / 2 ^ n) in
    let l : ℕ = reversed n v in
    let up : ((a * 2 ^ n + u) * 2 ^ n + l) / 2 ^ n ≡ a * 2 ^ n + u = high (a * 2 ^ n + u) n {lo = l} (reversed-lt n v) in
    let top : ((a * 2 ^ n + u) * 2 ^ n + l) / 2 ^ (n + n) ≡ a =
    sym (shr-shr ((a * 2 ^ n + u) * 2 ^ n + l) n n) ∙ ap (λ (x : ℕ). x / 2 ^ n) up ∙ high a n {lo = u} (reversed-lt n (v / 2 ^ n)) in
    rw (suc-add m (suc m), add-suc m m, top, up, low (a * 2 ^ n + u) n {lo = l} (reversed-lt n v), low a n {lo = u} (reversed-lt n (v / 2 ^ n)), shr-shr v n n, doubled n m (v / 2 ^ (n + n)), reversed-split n n v)

-- runs of one bit are the number itself
single : (m v : ℕ) → runs 1 m v ≡ v % 2 ^ m
unfolding runs
single zero v = sym (mod-one v)
single (suc m) v = rw (← (add-one m), mod-pow-add v m 1, single m (v / 2), reversed-one v)

-- and one run of n bits is those bits in the other order
whole : (n v : ℕ) → runs n 1 v ≡ reversed n v
unfolding runs
whole n v = rw (zero-mul (2 ^ n)) (zero-add (reversed n v))

-- six exchanges, one after the other
pub six-swaps : {a b c d e r : ℕ} (v : ℕ)
    → v < 2 ^ 64
    → a ≡ runs_swapped 1 32 v
    → b ≡ runs_swapped 2 16 a
    → c ≡ runs_swapped 4 8 b
    → d ≡ runs_swapped 8 4 c
    → e ≡ runs_swapped 16 2 d
    → r ≡ runs_swapped 32 1 e
    → r ≡ reversed 64 v
six-swaps v h one two four eight sixteen thirty_two =
    let start : v ≡ runs 1 64 v = sym (single 64 v ∙ mod-eq_of_lt h) in
    let in_pairs = one ∙ ap (runs_swapped 1 32) start ∙ doubled 1 32 v in
    let in-nibbles = two ∙ ap (runs_swapped 2 16) in_pairs ∙ doubled 2 16 v in
    let in_bytes = four ∙ ap (runs_swapped 4 8) in-nibbles ∙ doubled 4 8 v in
    let in-quarters = eight ∙ ap (runs_swapped 8 4) in_bytes ∙ doubled 8 4 v in
    let in_halves = sixteen ∙ ap (runs_swapped 16 2) in-quarters ∙ doubled 16 2 v in
    thirty_two ∙ ap (runs_swapped 32 1) in_halves ∙ doubled 32 1 v ∙ whole 64 v
