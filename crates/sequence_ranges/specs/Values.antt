-- Values of docs/SCOPE.md that concern sequences: the bits of n values, as its rules 13 and 16 count them.
-- Assumes nothing.
use Rattle.std.specs.Prelude.{◌≡◌, refl}
use Rattle.sequence_ranges.specs.Ranges.{ranges, range_of, total_of}

-- 4x6 one-bit weights take 24 bits, 4x5 take 20
pub one-bit-24 : total_of (range_of 0) 24 ≡ 24
unfolding total_of range_of ranges
one-bit-24 = refl

pub one-bit-20 : total_of (range_of 0) 20 ≡ 20
unfolding total_of range_of ranges
one-bit-20 = refl

-- 48 two-bit weights take 96
pub two-bits-48 : total_of (range_of 2) 48 ≡ 96
unfolding total_of range_of ranges
two-bits-48 = refl

-- 8x8 of 0..2 takes 103
pub trits-64 : total_of (range_of 1) 64 ≡ 103
unfolding total_of range_of ranges
trits-64 = refl

-- 18 endpoint values of 0..5, the narrowest range, need room 47
pub narrowest-18 : total_of (range_of 4) 18 ≡ 47
unfolding total_of range_of ranges
narrowest-18 = refl
