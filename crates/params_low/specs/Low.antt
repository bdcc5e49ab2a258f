-- What the first bits of a block tell. v is the block's number of 128 bits.
-- Written from the ASTC chapter's sections "Block Mode" and "Void-Extent Blocks".
-- Assumes nothing.
use Rattle.std.specs.Prelude.{Bool, cond, ℕ, ◌+◌, eqb}
use Rattle.bits.specs.Bits.{bits_at}

-- a void block has one colour, which stands in it: bits 0..8 say so
unfoldable pub is_void : ℕ → Bool
is_void v = eqb (bits_at v 0 9) 0x1fc

-- the bits of the low configuration, by the number of partitions
unfoldable pub conf_len : ℕ → ℕ
conf_len parts = cond (eqb parts 1) 17 29

-- the low configuration. Bits 11 and 12 have the number of partitions less 1
unfoldable pub low_of : ℕ → ℕ
low_of v = bits_at v 0 (conf_len (bits_at v 11 2 + 1))

-- the extent of a void block with the two bits below it: bits 10..63. Any other block has none
unfoldable pub extent_of : ℕ → ℕ
extent_of v = cond (is_void v) (bits_at v 10 54) 0
