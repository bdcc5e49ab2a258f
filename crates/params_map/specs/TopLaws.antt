-- The largest value of a range in closed form, held to its definition at all 21 ranges by one test.
-- Assumes nothing.
use Rattle.std.specs.Prelude.{◌≡◌, Bool, cond, ℕ, ◌-◌, ◌*◌, ◌/◌, ◌%◌, ◌^◌, ◌≤◌, ◌<◌, eqb, leb}
use Rattle.std.proofs.Common.{leb→le, eqb→eq}
use borrow.Author.Tests.{eq-eqb, ne_eqb}
use Rattle.laws.specs.Table.{all-at}
use Rattle.sequence_ranges.specs.declared.Kind.{Kind}
use Rattle.sequence_ranges.specs.declared.Range.{Range}
use Rattle.sequence_ranges.specs.Ranges.{ranges, range_of, base, tops, top_of}

-- ---- the largest value, as the code finds it: a machine's shift keeps 64 bits
top_code : ℕ → ℕ
top_code q =
    cond (eqb q 0) 1
    (cond (eqb (q % 3) 2) (4 * 2 ^ (q / 3) % 2 ^ 64 - 1)
    (cond (eqb (q % 3) 1) (3 * 2 ^ (q / 3) % 2 ^ 64 - 1)
    (5 * 2 ^ (q / 3 - 1) % 2 ^ 64 - 1)))

top_test : ℕ → Bool
unfolding top_code tops top_of
top_test q = eqb (top_code q) (top_of q)

top-is : (q : ℕ) → q < 21 → top_code q ≡ top_of q
unfolding top_test
top-is q h = eqb→eq _ _ (all-at top_test 21 tt q h)

pub top-0 : (q : ℕ) → q < 21 → q ≡ 0 → 1 ≡ top_of q
unfolding top_code
top-0 q h e = rw (eq-eqb q 0 e) at (top-is q h)

module _ (q : ℕ) (h : q < 21) (z : q ≡ 0 → ⊥) where
  pub top-plain : q % 3 ≡ 2 → 4 * 2 ^ (q / 3) % 2 ^ 64 - 1 ≡ top_of q
  unfolding top_code
  top-plain e = rw (ne_eqb q 0 z, eq-eqb (q % 3) 2 e) at (top-is q h)

  pub top-trits : (q % 3 ≡ 2 → ⊥) → q % 3 ≡ 1 → 3 * 2 ^ (q / 3) % 2 ^ 64 - 1 ≡ top_of q
  unfolding top_code
  top-trits n e = rw (ne_eqb q 0 z, ne_eqb (q % 3) 2 n, eq-eqb (q % 3) 1 e) at (top-is q h)

  pub top-quints : (q % 3 ≡ 2 → ⊥) → (q % 3 ≡ 1 → ⊥) → 5 * 2 ^ (q / 3 - 1) % 2 ^ 64 - 1 ≡ top_of q
  unfolding top_code
  top-quints n m = rw (ne_eqb q 0 z, ne_eqb (q % 3) 2 n, ne_eqb (q % 3) 1 m) at (top-is q h)

shift_test : ℕ → ℕ → Bool
shift_test x k = leb 1 (x * 2 ^ k % 2 ^ 64)

-- nothing is shifted out
pub shifted : (k : ℕ) → k < 8 → (1 ≤ 4 * 2 ^ k % 2 ^ 64) × ((1 ≤ 3 * 2 ^ k % 2 ^ 64) × (1 ≤ 5 * 2 ^ k % 2 ^ 64))
unfolding shift_test
shifted k h = (leb→le _ _ (all-at (shift_test 4) 8 tt k h), (leb→le _ _ (all-at (shift_test 3) 8 tt k h), leb→le _ _ (all-at (shift_test 5) 8 tt k h)))

-- ---- the same by the range itself
value_of_kind : ℕ → Bool
unfolding range_of ranges tops top_of
value_of_kind q = eqb (base (range_of q).kind * 2 ^ (range_of q).bits % 2 ^ 64 - 1) (top_of q)

kept_of_kind : ℕ → Bool
unfolding range_of ranges
kept_of_kind q = leb 1 (base (range_of q).kind * 2 ^ (range_of q).bits % 2 ^ 64)

few_bits : ℕ → Bool
unfolding range_of ranges
few_bits q = leb (range_of q).bits 8

-- the largest value of a range of kind k: the levels of a digit, moved above the plain bits, less 1
pub top-of-kind : (q : ℕ) → q < 21 → (r : Range) → r ≡ range_of q → (k : Kind) → r.kind ≡ k → base k * 2 ^ r.bits % 2 ^ 64 - 1 ≡ top_of q
unfolding value_of_kind
top-of-kind q h r e k m = rw (← m, e) (eqb→eq _ _ (all-at value_of_kind 21 tt q h))

-- nothing is shifted out
pub kept-of-kind : (q : ℕ) → q < 21 → (r : Range) → r ≡ range_of q → (k : Kind) → r.kind ≡ k → 1 ≤ base k * 2 ^ r.bits % 2 ^ 64
unfolding kept_of_kind
kept-of-kind q h r e k m = rw (← m, e) (leb→le _ _ (all-at kept_of_kind 21 tt q h))

pub bits-of-range : (q : ℕ) → q < 21 → (r : Range) → r ≡ range_of q → r.bits ≤ 8
unfolding few_bits
bits-of-range q h r e = rw e (leb→le _ _ (all-at few_bits 21 tt q h))
