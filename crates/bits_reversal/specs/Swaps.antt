-- Runs of bits that change places, two by two.
-- Assumes nothing.
use Rattle.std.specs.Prelude.{◌≡◌, ℕ, zero, suc, ◌+◌, ◌*◌, ◌-◌, ◌/◌, ◌%◌, ◌^◌, ◌<◌}

-- m pairs of runs of n bits: in each pair the lower run comes to stand above the upper one
unfoldable pub runs_swapped : ℕ → ℕ → ℕ → ℕ
runs_swapped n zero v = 0
runs_swapped n (suc m) v = runs_swapped n m (v / 2 ^ (n + n)) * 2 ^ (n + n) + (v % 2 ^ n * 2 ^ n + v / 2 ^ n % 2 ^ n)

-- ones at the lower run of each of m pairs
unfoldable pub lower_runs : ℕ → ℕ → ℕ
lower_runs n zero = 0
lower_runs n (suc m) = lower_runs n m * 2 ^ (n + n) + (2 ^ n - 1)

-- what runs of n bits and a mask are to be: the pairs fill a word, and the mask has their lower runs
pub record SwapGiven (n mask : ℕ) : Type 0 where
  pub short : n < 64
  pub fills : (n + n) * (32 / n) ≡ 64
  pub lower : mask ≡ lower_runs n (32 / n)
