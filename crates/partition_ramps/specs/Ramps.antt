-- The ramps of a partition number: the standard's hash of a seed, and a ramp over the texels for each partition.
-- Written from the ASTC chapter's section "Partition Pattern Generation".
-- Assumes nothing.
use Rattle.std.specs.Prelude.{ℕ, ◌+◌, ◌-◌, ◌*◌, ◌/◌, ◌%◌, ◌^◌, cond, ◌==◌, bit_xor}

-- ---- the hash, over whole numbers below 2 ^ 32: sums and differences are taken modulo 2 ^ 32
abbrev pub xor_down : ℕ → ℕ → ℕ
xor_down k p = bit_xor p (p / 2 ^ k)

abbrev pub xor_up : ℕ → ℕ → ℕ
xor_up k p = bit_xor p (p * 2 ^ k % 2 ^ 32)

abbrev pub add_up : ℕ → ℕ → ℕ
add_up k p = (p + p * 2 ^ k) % 2 ^ 32

-- 2 ^ 32 is added first, so that nothing is taken from less
abbrev pub sub_up : ℕ → ℕ → ℕ
sub_up k p = (p + (2 ^ 32 - p * 2 ^ k % 2 ^ 32)) % 2 ^ 32

unfoldable pub hash52 : ℕ → ℕ
hash52 p = xor_down 17 (xor_up 6 (xor_down 3 (xor_down 7 (add_up 16 (xor_down 5 (add_up 4 (add_up 7 (sub_up 17 (xor_down 15 p)))))))))

-- ---- the ramps
-- the shifts of the factors of x, and of those of y
abbrev pub by_bit : ℕ → ℕ
by_bit seed = cond (seed / 2 % 2 == 1) 4 5

abbrev pub by_count : ℕ → ℕ
by_count parts = cond (parts == 3) 6 5

unfoldable pub shift_x : ℕ → ℕ → ℕ
shift_x seed parts = cond (seed % 2 == 1) (by_bit seed) (by_count parts)

unfoldable pub shift_y : ℕ → ℕ → ℕ
shift_y seed parts = cond (seed % 2 == 1) (by_count parts) (by_bit seed)

-- four bits of the hash r, squared and shifted
unfoldable pub factor : ℕ → ℕ → ℕ → ℕ
factor r at shift = (r / 2 ^ at % 16) * (r / 2 ^ at % 16) / 2 ^ shift

-- ramp i, of a, b, c, d, at (x, y)
unfoldable pub ramp : ℕ → ℕ → ℕ → ℕ → ℕ → ℕ
ramp seed parts i x y =
    let r = hash52 seed in
    (factor r (8 * i) (shift_x seed parts) * x + factor r (8 * i + 4) (shift_y seed parts) * y + r / 2 ^ (14 - 4 * i)) % 64
