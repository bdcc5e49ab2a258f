-- The laws of ramps: the hash in steps, their slopes' bounds, and a ramp's sums in any order.
-- Assumes nothing.
use Rattle.std.specs.Prelude.{◌≡◌, ℕ, ◌+◌, ◌-◌, ◌*◌, ◌/◌, ◌%◌, ◌^◌, ◌<◌, ◌≤◌, Bool, true, false, cond, ◌==◌, nat_le}
use Rattle.std.proofs.Common.{ap, ◌∙◌, mul_comm, mul_assoc, mul-le-mul, mul-le-mul_left, div-lt_iff_lt-mul, pow_mono, pow_pos, arith, leb→le}
use Rattle.laws.specs.Table.{all-at}
use Rattle.partition_ramps.specs.Ramps.{xor_down, xor_up, add_up, sub_up, hash52, by_bit, by_count, shift_x, shift_y, factor, ramp}
use Rattle.partition_ramps.specs.Held.{ramp_of, IsRamp}
use Rattle.partition_ramps.specs.declared.Ramp.{Ramp}

-- ---- the hash
pub hash-steps : (p b c d f : ℕ) → b ≡ sub_up 17 (xor_down 15 p) → c ≡ add_up 7 b → d ≡ add_up 4 c → f ≡ add_up 16 (xor_down 5 d)
    → xor_down 17 (xor_up 6 (xor_down 3 (xor_down 7 f))) ≡ hash52 p
unfolding hash52
hash-steps p b c d f hb hc hd hf = rw (hf, hd, hc, hb)

-- a machine's difference is the one over whole numbers
pub wrapped-sub : (r a b : ℕ) → r < 2 ^ 32 → b < 2 ^ 32 → (r + b) % 2 ^ 32 ≡ a → r ≡ (a + (2 ^ 32 - b)) % 2 ^ 32
wrapped-sub r a b h l e = omega arith

-- a machine's sum with an operand that was shifted up
pub wrapped-add : (a b : ℕ) → (a + b % 2 ^ 32) % 2 ^ 32 ≡ (a + b) % 2 ^ 32
wrapped-add a b = omega arith

-- ---- the factors
small-square : ℕ → Bool
small-square v = nat_le (v * v) 225

pub square_le : (v : ℕ) → v < 16 → v * v ≤ 225
unfolding small-square
square_le v h = leb→le (v * v) 225 (all-at small-square 16 tt v h)

-- ---- a ramp
-- the slopes and the start may be cut to six bits and added in any order
pub ramp-sum : (r fx fy scale s t : ℕ) → ((r % 64 + scale * fy * t) % 64 + scale * fx * s) % 64 ≡ (fx * (scale * s) + fy * (scale * t) + r) % 64
ramp-sum r fx fy scale s t =
    let x : scale * fx * s ≡ fx * (scale * s) = ap (λ (n : ℕ). n * s) (mul_comm scale fx) ∙ mul_assoc fx scale s in
    let y : scale * fy * t ≡ fy * (scale * t) = ap (λ (n : ℕ). n * t) (mul_comm scale fy) ∙ mul_assoc fy scale t in
    omega arith

-- ---- the shifts
chosen : (t : Bool) (a b l m : ℕ) → l ≤ a → a ≤ m → l ≤ b → b ≤ m → (l ≤ cond t a b) × (cond t a b ≤ m)
chosen true a b l m p q r s = (p, q)
chosen false a b l m p q r s = (r, s)

bit-bounds : (seed : ℕ) → (4 ≤ by_bit seed) × (by_bit seed ≤ 6)
bit-bounds seed = chosen (seed / 2 % 2 == 1) 4 5 4 6 (omega arith) (omega arith) (omega arith) (omega arith)

count-bounds : (parts : ℕ) → (4 ≤ by_count parts) × (by_count parts ≤ 6)
count-bounds parts = chosen (parts == 3) 6 5 4 6 (omega arith) (omega arith) (omega arith) (omega arith)

pub x-bounds : (seed parts : ℕ) → (4 ≤ shift_x seed parts) × (shift_x seed parts ≤ 6)
unfolding shift_x
x-bounds seed parts =
    let p = bit-bounds seed in
    let q = count-bounds parts in
    chosen (seed % 2 == 1) (by_bit seed) (by_count parts) 4 6 p.0 p.1 q.0 q.1

pub y-bounds : (seed parts : ℕ) → (4 ≤ shift_y seed parts) × (shift_y seed parts ≤ 6)
unfolding shift_y
y-bounds seed parts =
    let p = bit-bounds seed in
    let q = count-bounds parts in
    chosen (seed % 2 == 1) (by_count parts) (by_bit seed) 4 6 q.0 q.1 p.0 p.1

pub factor-le : (r at shift : ℕ) → 4 ≤ shift → factor r at shift ≤ 14
unfolding factor
factor-le r at shift h =
    let v = r / 2 ^ at % 16 in
    let s : v * v ≤ 225 = square_le v (omega arith) in
    let m : 15 * 2 ^ 4 ≤ 15 * 2 ^ shift = mul-le-mul_left 15 (pow_mono h) in
    let l : v * v / 2 ^ shift < 15 = (div-lt_iff_lt-mul (pow_pos shift)).1 (omega arith) in
    omega arith

-- ---- as the code makes and holds it
pub ramp-made : (seed parts i scale r fx fy : ℕ) → r ≡ hash52 seed → fx ≡ factor r (8 * i) (shift_x seed parts) → fy ≡ factor r (8 * i + 4) (shift_y seed parts)
    → record { start = r / 2 ^ (14 - 4 * i) % 64; along = scale * fx; down = scale * fy } ≡ ramp_of seed parts i scale
unfolding ramp_of
ramp-made seed parts i scale r fx fy e ex ey = rw (ex, ey, e)

pub ramp-held : (seed parts i scale : ℕ) (k : Ramp) → k ≡ ramp_of seed parts i scale → scale ≤ 2 → IsRamp seed parts i scale k
unfolding ramp ramp_of
ramp-held seed parts i scale k e h = rw e (record {
  gentle = record { start = omega arith; along = mul-le-mul h (factor-le r (8 * i) (shift_x seed parts) (x-bounds seed parts).0); down = mul-le-mul h (factor-le r (8 * i + 4) (shift_y seed parts) (y-bounds seed parts).0) };
  value = λ s t. ramp-sum (r / 2 ^ (14 - 4 * i)) (factor r (8 * i) (shift_x seed parts)) (factor r (8 * i + 4) (shift_y seed parts)) scale s t;
})
  where
    r : ℕ
    r = hash52 seed
