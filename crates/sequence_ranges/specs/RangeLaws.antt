-- The laws of ranges, by tests of all 21.
-- Assumes nothing.
use Rattle.std.specs.Prelude.{◌≡◌, Bool, ℕ, ◌+◌, ◌*◌, ◌≤◌, ◌<◌, eqb, leb}
use Rattle.std.proofs.Common.{le_trans, mul-le-mul, eqb→eq, leb→le, lit≤}
use Rattle.laws.specs.Table.{all-at}
use Rattle.sequence_ranges.specs.Ranges.{ranges, range_of, levels, most, tops, top_of}
use Rattle.sequence_ranges.specs.declared.Kind.{Kind}
use Rattle.sequence_ranges.specs.declared.Kind.TheVariants.{Plain, Trits, Quints}
use Rattle.sequence_ranges.specs.declared.Range.{Range}

top_test : ℕ → Bool
unfolding levels range_of ranges top_of tops
top_test q = eqb (levels (range_of q)) (top_of q + 1)

-- a range's values are 0 to its largest
pub levels-top : (q : ℕ) → q < 21 → levels (range_of q) ≡ top_of q + 1
unfolding top_test
levels-top q h = eqb→eq (levels (range_of q)) (top_of q + 1) (all-at top_test 21 tt q h)

legal_test : ℕ → Bool
unfolding range_of ranges
legal_test q = leb (range_of q).bits (most (range_of q).kind)

pub legal : (q : ℕ) → q < 21 → (range_of q).bits ≤ most (range_of q).kind
unfolding legal_test
legal q h = leb→le (range_of q).bits (most (range_of q).kind) (all-at legal_test 21 tt q h)

most-le : (k : Kind) → most k ≤ 8
most-le Plain = lit≤ tt
most-le Trits = lit≤ tt
most-le Quints = lit≤ tt

-- the plain bits of some values
pub bits-le : (r : Range) (n m : ℕ) → r.bits ≤ most r.kind → n ≤ m → n * r.bits ≤ m * 8
bits-le r n m h l = mul-le-mul l (le_trans h (most-le r.kind))
