-- The endpoint modes of a block's partitions. They stand in the block as a base and a number of mode bits, here `code`.
-- With base 0 the code is the mode, of 4 bits, of every partition. With base 1, 2 or 3 and p partitions the code has 3p bits:
-- a bit for each partition, which adds to its class, and then two for each, which are the rest of its mode.
-- Written from the ASTC chapter's section "Color Endpoint Mode".
-- Assumes nothing.
use Rattle.std.specs.Prelude.{cond, List, [], ◌∷◌, ℕ, zero, suc, ◌+◌, ◌-◌, ◌*◌, ◌/◌, eqb, ltb}
use Rattle.bits.specs.Bits.{bits_at}

-- the class of partition i's mode: a quarter of it, rounded down
unfoldable pub class_in : ℕ → ℕ → ℕ → ℕ
class_in base code i = cond (eqb base 0) (code / 4) (base - 1 + bits_at code i 1)

-- the mode of partition i
unfoldable pub mode_in : ℕ → ℕ → ℕ → ℕ → ℕ
mode_in parts base code i = cond (eqb base 0) code (4 * class_in base code i + bits_at code (parts + 2 * i) 2)

-- 0 if there is no partition i
abbrev pub mode_at : ℕ → ℕ → ℕ → ℕ → ℕ
mode_at parts base code i = cond (ltb i parts) (mode_in parts base code i) 0

abbrev pub modes_of : ℕ → ℕ → ℕ → List ℕ
modes_of parts base code = mode_at parts base code 0 ∷ mode_at parts base code 1 ∷ mode_at parts base code 2 ∷ mode_at parts base code 3 ∷ []

-- a mode m takes 2 * (m / 4 + 1) values: those of partitions 0 .. p - 1
unfoldable pub values_to : ℕ → ℕ → ℕ → ℕ
values_to base code zero = 0
values_to base code (suc p) = values_to base code p + 2 * (class_in base code p + 1)
