-- A field of a number: the n bits of v from bit s on, as a number. Bits past the number's end are 0.
-- The number of a list of bytes, the first the lowest. The n lowest bits of a number in the other order.
-- Assumes nothing.
use Rattle.std.specs.Prelude.{List, ℕ, zero, suc, ◌+◌, ◌*◌, ◌/◌, ◌%◌, ◌^◌, get_or}

unfoldable pub bits_at : ℕ → ℕ → ℕ → ℕ
bits_at v s n = v / 2 ^ s % 2 ^ n

-- the sum of byte i times 256 ^ i, for i below n
unfoldable pub bytes : ℕ → List ℕ → ℕ
bytes zero s = 0
bytes (suc n) s = bytes n s + get_or s n 0 * 256 ^ n

-- bit k of `reversed n v` is bit n - 1 - k of v
unfoldable pub reversed : ℕ → ℕ → ℕ
reversed zero v = 0
reversed (suc n) v = v % 2 * 2 ^ n + reversed n (v / 2)
