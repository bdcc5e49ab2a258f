-- How the standard writes what a value of a range stands for: plain bits that are repeated, and, beside a digit, patterns of letters and a factor.
-- Assumes nothing.
use Rattle.std.specs.Prelude.{List, [], ◌∷◌, ℕ, zero, suc, ◌+◌, ◌*◌, ◌-◌, ◌/◌, ◌%◌, ◌^◌, length}

-- ---- plain bits
-- k copies of the w bits of v, side by side
unfoldable pub copies : ℕ → ℕ → ℕ → ℕ
copies zero w v = 0
copies (suc k) w v = copies k w v * 2 ^ w + v

-- the w bits of v, repeated from the top to n bits: the top n of n copies
unfoldable pub repeated : ℕ → ℕ → ℕ → ℕ
repeated n w v = copies n w v / 2 ^ (n * w - n)

-- ---- a digit with bits
-- a letter of a pattern: o is a 0, and b to f are bits 1 to 5 of the value's plain bits (bit 0 is the tables' a)
pub data Letter : Type 0 where
  o : Letter
  b : Letter
  c : Letter
  d : Letter
  e : Letter
  f : Letter

abbrev pub bit_of : Letter → ℕ → ℕ
bit_of o m = 0
bit_of b m = m / 2 % 2
bit_of c m = m / 4 % 2
bit_of d m = m / 8 % 2
bit_of e m = m / 16 % 2
bit_of f m = m / 32 % 2

-- the number that letters spell of the plain bits m, the highest first
unfoldable pub spelt : List Letter → ℕ → ℕ
spelt [] m = 0
spelt (x ∷ xs) m = bit_of x m * 2 ^ length xs + spelt xs m

-- a row of a table of the standard: the pattern of B, and C
pub record Row : Type 0 where
  pub pattern : List Letter
  pub factor : ℕ

abbrev pub row : List Letter → ℕ → Row
row p n = record { pattern = p; factor = n }
