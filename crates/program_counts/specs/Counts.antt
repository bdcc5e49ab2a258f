-- A count of 64 bits.
-- Assumes nothing.
use Rattle.std.specs.Prelude.{ℕ, ◌+◌, min}

-- the count with n more, or the largest
abbrev pub more : ℕ → ℕ → ℕ
more count n = min (count + n) 18446744073709551615
