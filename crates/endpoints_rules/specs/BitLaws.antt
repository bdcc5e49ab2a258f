-- Laws of bits at their places: the low bits of a byte one by one.
-- Assumes nothing.
use Rattle.std.specs.Prelude.{◌≡◌, ℕ, ◌+◌, ◌*◌, ◌/◌, ◌%◌, ◌<◌, ◌≤◌}
use Rattle.std.proofs.Common.{arith, one-mul, mul-le-mul, mul-le-mul_right, Fits}
use Rattle.std.proofs.lemmas.Nat.{mod-pow-add}
use Rattle.std.specs.Int.{w16}

pub fits : {x : ℕ} (n : ℕ) → x ≤ n → n ≤ 65535 → Fits w16 x
fits n h l = omega arith

pub bit_le : (x k : ℕ) → x % 2 * k ≤ k
bit_le x k =
    let b : x % 2 ≤ 1 = omega arith in
    let e : 1 * k ≡ k = one-mul k in
    omega (arith, mul-le-mul_right k b)

-- the low five, six and seven bits
pub low-5 : (x : ℕ) → x % 32 ≤ 31
low-5 x = omega arith

pub low-6 : (x : ℕ) → x % 64 ≤ 63
low-6 x = omega arith

pub low-7 : (x : ℕ) → x % 128 ≤ 127
low-7 x = omega arith

-- low bits of a byte, with the bits above them one by one
pub bits-6 : (v : ℕ) → v % 64 ≡ v % 32 + v / 32 % 2 * 32
bits-6 v = omega (arith, mod-pow-add v 1 5)

pub bits-7 : (v : ℕ) → v % 128 ≡ v % 32 + v / 32 % 2 * 32 + v / 64 % 2 * 64
bits-7 v = omega (arith, mod-pow-add v 1 6, bits-6 v)

pub bits-8 : (v : ℕ) → v < 256 → v ≡ v % 32 + v / 32 % 2 * 32 + v / 64 % 2 * 64 + v / 128 % 2 * 128
bits-8 v h = omega (arith, bits-7 v)

-- the top bit of a byte
pub top-le : {s : ℕ} (k : ℕ) → s < 256 → s / 128 * k ≤ k
top-le {s} k h =
    let b : s / 128 ≤ 1 = omega arith in
    let e : 1 * k ≡ k = one-mul k in
    omega (arith, mul-le-mul_right k b)

pub under : {x : ℕ} → x < 256 → x ≤ 255
under h = omega arith

pub sum-le : {x y m n : ℕ} → x ≤ m → y ≤ n → x + y ≤ m + n
sum-le h l = omega arith

pub scaled-lt : {x m : ℕ} (k : ℕ) → x ≤ m → m * k < 4096 → x * k < 4096
scaled-lt k h l = omega (arith, mul-le-mul_right k h)

-- the product of a number and a scale
pub product_lt : {x y n : ℕ} (m : ℕ) → y ≤ 8 → x ≤ m → m * 8 < n → x * y < n
product_lt m h l k = omega (arith, mul-le-mul l h)

pub product-fits : {x y : ℕ} (m : ℕ) → y ≤ 8 → x ≤ m → m * 8 ≤ 65535 → Fits w16 (x * y)
product-fits m h l k = omega (arith, mul-le-mul l h)

pub less-fits : {x : ℕ} → x < 4096 → Fits w16 x
less-fits h = omega arith

pub times-fits : {x : ℕ} (m k : ℕ) → x ≤ m → m * k ≤ 65535 → Fits w16 (x * k)
times-fits m k h l = omega (arith, mul-le-mul_right k h)
