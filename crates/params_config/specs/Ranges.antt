-- The bits that values of a range take.
-- Written from the ASTC chapter's section "Integer Sequence Encoding".
-- Assumes nothing.
use Rattle.std.specs.Prelude.{ℕ}
use Rattle.sequence_ranges.specs.Ranges.{range_of}
use Rattle.sequence_ranges.specs.Ranges.{total_of}

-- the bits of n values of the range of number q
unfoldable pub cost : ℕ → ℕ → ℕ
cost q n = total_of (range_of q) n
