-- What the code computes is tested against the list at all 21 numbers.
use mathlib.Core.Path.{◌≡◌, refl, ap, ◌∙◌}
use Prim.Native.Nat.{ℕ, ◌+◌, ◌-◌, ◌/◌, ◌%◌, ◌<◌}
use mathlib.Core.Bool.{Bool, cond}
use lib.Dec.{T, eqb, eqb→eq}
use native.Mathlib.Omega.{arith}
use borrow.Author.Tests.{eq-eqb, ne_eqb}
use Rattle.laws.specs.Table.{all-at, both, both_left, both_right}
use Rattle.sequence_ranges.specs.Ranges.{range, ranges, range_of, base}
use Rattle.sequence_ranges.specs.declared.Kind.{Kind}
use Rattle.sequence_ranges.specs.declared.Kind.TheVariants.{Plain, Trits, Quints}
use Rattle.sequence_ranges.specs.declared.Range.{Range}
use Rattle.sequence_ranges.proofs.range_of.Goals as goal

-- what the code computes
abbrev code : ℕ → Range
code q =
    cond (eqb q 0) (range Plain 1)
    (cond (eqb (q % 3) 2) (range Plain (q / 3 + 2)) (cond (eqb (q % 3) 1) (range Trits (q / 3)) (range Quints (q / 3 - 1))))

-- a kind is known by the values of its digits
same_kind : (k l : Kind) → T (eqb (base k) (base l)) → k ≡ l
same_kind Plain Plain t = refl
same_kind Plain Trits t = absurd t
same_kind Plain Quints t = absurd t
same_kind Trits Plain t = absurd t
same_kind Trits Trits t = refl
same_kind Trits Quints t = absurd t
same_kind Quints Plain t = absurd t
same_kind Quints Trits t = absurd t
same_kind Quints Quints t = refl

abbrev same : Range → Range → Bool
same r s = both (eqb (base r.kind) (base s.kind)) (eqb r.bits s.bits)

same-is : (r s : Range) → T (same r s) → r ≡ s
same-is r s t =
    ap (λ (k : Kind). range k r.bits) (same_kind r.kind s.kind (both_left (eqb (base r.kind) (base s.kind)) (eqb r.bits s.bits) t))
    ∙ ap (range s.kind) (eqb→eq r.bits s.bits (both_right (eqb (base r.kind) (base s.kind)) (eqb r.bits s.bits) t))

test : ℕ → Bool
unfolding range_of ranges
test q = same (code q) (range_of q)

law : (q : ℕ) → q < 21 → code q ≡ range_of q
unfolding test
law q h = same-is (code q) (range_of q) (all-at test 21 tt q h)

pub returns-then-q-eq0 : goal.returns-then-q-eq0
returns-then-q-eq0 c = let q = c.args.q in rw (eq-eqb q 0 c.if-q-eq0.true) at (law q c.requires)

pub returns-in-0 : goal.returns-in-0
returns-in-0 c = rw (ne_eqb c.args.q 0 c.if-q-eq0.false, c.in-0.is) at (law c.args.q c.requires)

pub returns-in-1 : goal.returns-in-1
returns-in-1 c = rw (ne_eqb c.args.q 0 c.if-q-eq0.false, c.in-1.is) at (law c.args.q c.requires)

pub returns-in_default : goal.returns-in_default
returns-in_default c =
    let m : c.args.q % 3 ≡ 2 = omega arith in
    rw (ne_eqb c.args.q 0 c.if-q-eq0.false, m) at (law c.args.q c.requires)
