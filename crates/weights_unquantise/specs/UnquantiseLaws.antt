-- Laws of the weights that encoded values stand for. Each is a test over all values of all ranges that antt computes.
-- Assumes nothing.
use Rattle.std.specs.Prelude.{◌≡◌, Bool, List, ℕ, ◌*◌, ◌%◌, ◌≤◌, ◌<◌, ◌^◌, eqb, T, leb, get_or}
use Rattle.std.proofs.Common.{◌∙◌, sym, ap, one-mul, mod-eq_of_lt, lt_of_le_of_lt, leb→le, eqb→eq, lit<, pow_mono}
use Rattle.laws.specs.Lists.{put_same}
use Rattle.sequence_ranges.specs.Ranges.{range_of, levels, ranges}
use Rattle.laws.specs.Table.{all, all-at}
use Rattle.sequence_ranges.specs.Patterns.{copies, repeated, spelt}
use Rattle.weights_unquantise.specs.Unquantise.{alone, table, joined, digit, expanded, raised, weight_of}
use Rattle.weights_unquantise.specs.Forms.{each, plain_of, mixed_of, form_of}
use Rattle.lanes.specs.Lanes.{eights}

abbrev small : ℕ → Bool
small q = all (λ (v : ℕ). leb (weight_of q v) 64) (levels (range_of q))

-- a weight is at most 64
pub weight-le : (q v : ℕ) → q < 12 → v < levels (range_of q) → weight_of q v ≤ 64
unfolding ranges range_of levels copies repeated alone spelt table joined digit expanded raised weight_of
weight-le q v h l = leb→le (weight_of q v) 64 (all-at (λ (v : ℕ). leb (weight_of q v) 64) (levels (range_of q)) (all-at small 12 tt q h) v l)

-- the value 0 stands for the weight 0
pub weight-zero : (q : ℕ) → q < 12 → weight_of q 0 ≡ 0
unfolding ranges range_of levels copies repeated alone spelt table joined digit expanded raised weight_of
weight-zero q h = eqb→eq (weight_of q 0) 0 (all-at (λ (q : ℕ). eqb (weight_of q 0) 0) 12 tt q h)

-- one, shifted left by at most 3 bits in a word of 16
pub one_shl : (n : ℕ) → n ≤ 3 → 1 * 2 ^ n % 2 ^ 16 ≡ 2 ^ n
one_shl n h = rw (one-mul (2 ^ n)) (mod-eq_of_lt (lt_of_le_of_lt (pow_mono h) (lit< tt)))

abbrev fast : ℕ → Bool
fast q = all (λ (v : ℕ). eqb (form_of q v) (weight_of q v)) (levels (range_of q))

-- the code's form of a range is the standard's
pub form-is : (q v : ℕ) → q < 12 → v < levels (range_of q) → form_of q v ≡ weight_of q v
unfolding ranges range_of levels copies repeated alone spelt table joined digit expanded raised weight_of plain_of mixed_of
form-is q v h l =
    eqb→eq (form_of q v) (weight_of q v)
    (all-at (λ (v : ℕ). eqb (form_of q v) (weight_of q v)) (levels (range_of q)) (all-at fast 12 tt q h) v l)

module _ (q k n : ℕ) (seq : List ℕ) (e : q ≡ k) (below : (i : ℕ) → get_or seq i 0 < levels (range_of q)) where
  -- values that were brought to weights by the form of their range
  pub by_form : (out t : List ℕ) → q < 12 → t ≡ each (form_of k) seq n out → t ≡ each (weight_of q) seq n out
  by_form out t h l =
      l ∙ ap (λ (m : ℕ). each (form_of m) seq n out) (sym e) ∙ put_same _ _ 0 (eights n) out (λ i a b. form-is q (get_or seq i 0) h (below i))

  -- what a test of all values of a range says of each
  pub in-range : (test : ℕ → Bool) → T (all test (levels (range_of k))) → (i : ℕ) → T (test (get_or seq i 0))
  in-range test t i = all-at test (levels (range_of k)) t (get_or seq i 0) (rw e at (below i))
