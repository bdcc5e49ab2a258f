-- Each arm runs the form of its range, which a test holds to the standard at every value.
use mathlib.Core.Path.{◌≡◌}
use Prim.Native.Nat.{ℕ, ◌*◌, ◌≤◌, ◌<◌}
use native.Mathlib.Omega.{arith}
use Rattle.std.proofs.Common.{rules}
use lib.ListN.{get_or}
use Rattle.weights_unquantise.specs.Unquantise.{weight_of}
use Rattle.weights_unquantise.specs.Forms.{each, sum_of, form_of}
use Rattle.weights_unquantise.specs.UnquantiseLaws.{by_form, in-range}
use mathlib.Core.Bool.{Bool}
use mathlib.Core.List.{List}
use lib.Dec.{T, ltb, leb, ltb→lt, leb→le}
use Rattle.laws.specs.Table.{all}
use Rattle.sequence_ranges.specs.Ranges.{ranges, range_of, levels}
use Rattle.weights_unquantise.proofs.unquantize.Goals as goal

-- an arm's form, where q is the arm's number
arm : (q n k : ℕ) (seq out t : List ℕ) → q < 12 → ((i : ℕ) → get_or seq i 0 < levels (range_of q)) → q ≡ k → t ≡ each (form_of k) seq n out
    → t ≡ each (weight_of q) seq n out
arm q n k seq out t h below e l = by_form q k n seq e below out t h l

-- what a test of all values of the arm's range says of each value
test_at : (q k : ℕ) (seq : List ℕ) → ((i : ℕ) → get_or seq i 0 < levels (range_of q)) → q ≡ k → (test : ℕ → Bool) → T (all test (levels (range_of k)))
    → (i : ℕ) → T (test (get_or seq i 0))
test_at q k seq below e test t i = in-range q k 0 seq e below test t i

pub put_each-requires-in-1-clause-callable : goal.put_each-requires-in-1-clause-callable
unfolding ranges range_of levels
put_each-requires-in-1-clause-callable c = λ k.
    let fits : get_or c.args.seq.now k 0 * 32 < 256 = ltb→lt _ 256 (test_at _ 1 _ c.requires.2 c.in-1.is (λ (v : ℕ). ltb (v * 32) 256) tt k) in
    search rules

pub put_each-requires-in-3-clause-callable : goal.put_each-requires-in-3-clause-callable
unfolding ranges range_of levels
put_each-requires-in-3-clause-callable c = λ k.
    let fits : get_or c.args.seq.now k 0 * 16 < 256 = ltb→lt _ 256 (test_at _ 3 _ c.requires.2 c.in-3.is (λ (v : ℕ). ltb (v * 16) 256) tt k) in
    search rules

pub put_each-requires-in-4-clause-callable : goal.put_each-requires-in-4-clause-callable
unfolding ranges range_of levels
put_each-requires-in-4-clause-callable c = λ k.
    let low : sum_of 1 50 0 (get_or c.args.seq.now k 0) ≤ 127 = leb→le _ 127 (test_at _ 4 _ c.requires.2 c.in-4.is (λ (v : ℕ). leb (sum_of 1 50 0 v) 127) tt k) in
    search rules

pub put_each-requires-in-6-clause-callable : goal.put_each-requires-in-6-clause-callable
unfolding ranges range_of levels
put_each-requires-in-6-clause-callable c = λ k.
    let low : sum_of 1 28 0 (get_or c.args.seq.now k 0) ≤ 127 = leb→le _ 127 (test_at _ 6 _ c.requires.2 c.in-6.is (λ (v : ℕ). leb (sum_of 1 28 0 v) 127) tt k) in
    search rules

pub put_each-requires-in-7-clause-callable : goal.put_each-requires-in-7-clause-callable
unfolding ranges range_of levels
put_each-requires-in-7-clause-callable c = λ k.
    let low : sum_of 2 23 69 (get_or c.args.seq.now k 0) ≤ 127 = leb→le _ 127 (test_at _ 7 _ c.requires.2 c.in-7.is (λ (v : ℕ). leb (sum_of 2 23 69 v) 127) tt k) in
    search rules

pub put_each-requires-in-9-clause-callable : goal.put_each-requires-in-9-clause-callable
unfolding ranges range_of levels
put_each-requires-in-9-clause-callable c = λ k.
    let low : sum_of 2 13 66 (get_or c.args.seq.now k 0) ≤ 127 = leb→le _ 127 (test_at _ 9 _ c.requires.2 c.in-9.is (λ (v : ℕ). leb (sum_of 2 13 66 v) 127) tt k) in
    search rules

pub put_each-requires-in-10-clause-callable : goal.put_each-requires-in-10-clause-callable
unfolding ranges range_of levels
put_each-requires-in-10-clause-callable c = λ k.
    let low : sum_of 3 11 33 (get_or c.args.seq.now k 0) ≤ 127 = leb→le _ 127 (test_at _ 10 _ c.requires.2 c.in-10.is (λ (v : ℕ). leb (sum_of 3 11 33 v) 127) tt k) in
    search rules

pub returns-in-0 : goal.returns-in-0
returns-in-0 c =
    arm _ _ 0 _ _ _ c.requires.1 c.requires.2 c.in-0.is (c.put_each.ensures (form_of 0) (λ k r e. search rules))

pub returns-in-1 : goal.returns-in-1
returns-in-1 c =
    arm _ _ 1 _ _ _ c.requires.1 c.requires.2 c.in-1.is (c.put_each-in-1.ensures (form_of 1) (λ k r e. search rules))

pub returns-in-2 : goal.returns-in-2
returns-in-2 c =
    arm _ _ 2 _ _ _ c.requires.1 c.requires.2 c.in-2.is (c.put_each-in-2.ensures (form_of 2) (λ k r e. search rules))

pub returns-in-3 : goal.returns-in-3
returns-in-3 c =
    arm _ _ 3 _ _ _ c.requires.1 c.requires.2 c.in-3.is (c.put_each-in-3.ensures (form_of 3) (λ k r e. search rules))

pub returns-in-4 : goal.returns-in-4
returns-in-4 c =
    arm _ _ 4 _ _ _ c.requires.1 c.requires.2 c.in-4.is (c.put_each-in-4.ensures (form_of 4) (λ k r e. search rules))

pub returns-in-5 : goal.returns-in-5
returns-in-5 c =
    arm _ _ 5 _ _ _ c.requires.1 c.requires.2 c.in-5.is (c.put_each-in-5.ensures (form_of 5) (λ k r e. search rules))

pub returns-in-6 : goal.returns-in-6
returns-in-6 c =
    arm _ _ 6 _ _ _ c.requires.1 c.requires.2 c.in-6.is (c.put_each-in-6.ensures (form_of 6) (λ k r e. search rules))

pub returns-in-7 : goal.returns-in-7
returns-in-7 c =
    arm _ _ 7 _ _ _ c.requires.1 c.requires.2 c.in-7.is (c.put_each-in-7.ensures (form_of 7) (λ k r e. search rules))

pub returns-in-8 : goal.returns-in-8
returns-in-8 c =
    arm _ _ 8 _ _ _ c.requires.1 c.requires.2 c.in-8.is (c.put_each-in-8.ensures (form_of 8) (λ k r e. search rules))

pub returns-in-9 : goal.returns-in-9
returns-in-9 c =
    arm _ _ 9 _ _ _ c.requires.1 c.requires.2 c.in-9.is (c.put_each-in-9.ensures (form_of 9) (λ k r e. search rules))

pub returns-in-10 : goal.returns-in-10
returns-in-10 c =
    arm _ _ 10 _ _ _ c.requires.1 c.requires.2 c.in-10.is (c.put_each-in-10.ensures (form_of 10) (λ k r e. search rules))

pub returns-in_default : goal.returns-in_default
returns-in_default c =
    arm _ _ 11 _ _ _ c.requires.1 c.requires.2 (omega arith) (c.put_each-in_default.ensures (form_of 11) (λ k r e. search rules))
