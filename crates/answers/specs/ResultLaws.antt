-- How large the numbers of answers are, that a number tells its answer, and which of them are 0.
-- Assumes nothing.
use Rattle.std.specs.Prelude.{◌≡◌, cond, ℕ, ◌≤◌, ◌<◌, eqb, Result, Ok, Err, IsErrAnd}
use Rattle.std.proofs.Math.Path.{refl, sym}
use Rattle.std.proofs.Common.{ap, ◌∙◌, arith}
use Rattle.answers.specs.declared.Refusal.{Refusal}
use Rattle.answers.specs.declared.Refusal.TheVariants.{BlockLength, Footprint, OutputTooShort, Options, ImageSide, DataLength, Position, NoBlocks, PastTheEnd}
use Rattle.answers.specs.declared.Rule.{Rule}
use Rattle.answers.specs.declared.Rule.TheVariants.{ReservedMode, GridTooLarge, TooManyWeights, WeightBits, DualPlaneOfFour, TooManyValues, TooLittleRoom, BadExtent}
use Rattle.answers.specs.declared.Verdict.{Verdict}
use Rattle.answers.specs.declared.Verdict.TheVariants.{Legal, VoidExtent, Broken}
use Rattle.answers.specs.Results.{refusal_number, rule_number, verdict_number, refused, broken, answered}

-- ---- how large they are
pub refusal-least : (e : Refusal) → 20 ≤ refusal_number e
refusal-least BlockLength = omega arith
refusal-least Footprint = omega arith
refusal-least OutputTooShort = omega arith
refusal-least Options = omega arith
refusal-least ImageSide = omega arith
refusal-least DataLength = omega arith
refusal-least Position = omega arith
refusal-least NoBlocks = omega arith
refusal-least PastTheEnd = omega arith

pub refusal-lt : (e : Refusal) → refusal_number e < 35
refusal-lt BlockLength = omega arith
refusal-lt Footprint = omega arith
refusal-lt OutputTooShort = omega arith
refusal-lt Options = omega arith
refusal-lt ImageSide = omega arith
refusal-lt DataLength = omega arith
refusal-lt Position = omega arith
refusal-lt NoBlocks = omega arith
refusal-lt PastTheEnd = omega arith

pub rule-least : (r : Rule) → 10 ≤ rule_number r
rule-least ReservedMode = omega arith
rule-least GridTooLarge = omega arith
rule-least TooManyWeights = omega arith
rule-least WeightBits = omega arith
rule-least DualPlaneOfFour = omega arith
rule-least TooManyValues = omega arith
rule-least TooLittleRoom = omega arith
rule-least BadExtent = omega arith

pub rule-most : (r : Rule) → rule_number r ≤ 17
rule-most ReservedMode = omega arith
rule-most GridTooLarge = omega arith
rule-most TooManyWeights = omega arith
rule-most WeightBits = omega arith
rule-most DualPlaneOfFour = omega arith
rule-most TooManyValues = omega arith
rule-most TooLittleRoom = omega arith
rule-most BadExtent = omega arith

pub verdict-most : (v : Verdict) → verdict_number v ≤ 17
verdict-most Legal = omega arith
verdict-most VoidExtent = omega arith
verdict-most (Broken rule) = rule-most rule

pub refused-lt : (r : Result (Unit {0}) Refusal) → refused r < 35
refused-lt (Ok done) = omega arith
refused-lt (Err e) = refusal-lt e

pub answered-lt : (r : Result Verdict Refusal) → answered r < 35
answered-lt (Ok v) = omega (arith, verdict-most v)
answered-lt (Err e) = refusal-lt e

-- ---- a number tells its answer
refusal_of : ℕ → Refusal
refusal_of n =
    cond (eqb n 20) BlockLength (cond (eqb n 21) Footprint (cond (eqb n 22) OutputTooShort (cond (eqb n 23) Options (cond (eqb n 30) ImageSide
    (cond (eqb n 31) DataLength (cond (eqb n 32) Position (cond (eqb n 33) NoBlocks PastTheEnd)))))))

refusal-of-number : (e : Refusal) → refusal_of (refusal_number e) ≡ e
unfolding refusal_of
refusal-of-number BlockLength = refl
refusal-of-number Footprint = refl
refusal-of-number OutputTooShort = refl
refusal-of-number Options = refl
refusal-of-number ImageSide = refl
refusal-of-number DataLength = refl
refusal-of-number Position = refl
refusal-of-number NoBlocks = refl
refusal-of-number PastTheEnd = refl

pub one-refusal : (a b : Refusal) → refusal_number a ≡ refusal_number b → a ≡ b
one-refusal a b h = sym (refusal-of-number a) ∙ ap refusal_of h ∙ refusal-of-number b

rule_of : ℕ → Rule
rule_of n =
    cond (eqb n 10) ReservedMode (cond (eqb n 11) GridTooLarge (cond (eqb n 12) TooManyWeights (cond (eqb n 13) WeightBits
    (cond (eqb n 14) DualPlaneOfFour (cond (eqb n 15) TooManyValues (cond (eqb n 16) TooLittleRoom BadExtent))))))

rule-of-number : (r : Rule) → rule_of (rule_number r) ≡ r
unfolding rule_of
rule-of-number ReservedMode = refl
rule-of-number GridTooLarge = refl
rule-of-number TooManyWeights = refl
rule-of-number WeightBits = refl
rule-of-number DualPlaneOfFour = refl
rule-of-number TooManyValues = refl
rule-of-number TooLittleRoom = refl
rule-of-number BadExtent = refl

pub one-rule : (a b : Rule) → rule_number a ≡ rule_number b → a ≡ b
one-rule a b h = sym (rule-of-number a) ∙ ap rule_of h ∙ rule-of-number b

pub one-verdict : (a b : Verdict) → verdict_number a ≡ verdict_number b → a ≡ b
one-verdict Legal Legal h = refl
one-verdict Legal VoidExtent h = absurd (omega arith)
one-verdict Legal (Broken s) h = absurd (omega (arith, rule-least s))
one-verdict VoidExtent Legal h = absurd (omega arith)
one-verdict VoidExtent VoidExtent h = refl
one-verdict VoidExtent (Broken s) h = absurd (omega (arith, rule-least s))
one-verdict (Broken r) Legal h = absurd (omega (arith, rule-least r))
one-verdict (Broken r) VoidExtent h = absurd (omega (arith, rule-least r))
one-verdict (Broken r) (Broken s) h = ap (λ (x : Rule). Broken x) (one-rule r s h)

pub one-refused : (a b : Result (Unit {0}) Refusal) → refused a ≡ refused b → a ≡ b
one-refused (Ok x) (Ok y) h = refl
one-refused (Ok x) (Err e) h = absurd (omega (arith, refusal-least e))
one-refused (Err e) (Ok y) h = absurd (omega (arith, refusal-least e))
one-refused (Err d) (Err e) h = ap (λ (x : Refusal). Err x) (one-refusal d e h)

pub one-broken : (a b : Result (Unit {0}) Rule) → broken a ≡ broken b → a ≡ b
one-broken (Ok x) (Ok y) h = refl
one-broken (Ok x) (Err s) h = absurd (omega (arith, rule-least s))
one-broken (Err r) (Ok y) h = absurd (omega (arith, rule-least r))
one-broken (Err r) (Err s) h = ap (λ (x : Rule). Err x) (one-rule r s h)

pub one-answered : (a b : Result Verdict Refusal) → answered a ≡ answered b → a ≡ b
one-answered (Ok v) (Ok w) h = ap (λ (x : Verdict). Ok x) (one-verdict v w h)
one-answered (Ok v) (Err e) h = absurd (omega (arith, verdict-most v, refusal-least e))
one-answered (Err d) (Ok w) h = absurd (omega (arith, verdict-most w, refusal-least d))
one-answered (Err d) (Err e) h = ap (λ (x : Refusal). Err x) (one-refusal d e h)

-- ---- which of them are 0, and which of an answer's are a refusal's
pub refused-none : (r : Result (Unit {0}) Refusal) → refused r ≡ 0 → r ≡ Ok tt
refused-none r h = one-refused r (Ok tt) h

pub refused-some : (e : Refusal) → refused (Err e) ≡ 0 → ⊥
refused-some e h = omega (arith, refusal-least e)

pub broken-none : (r : Result (Unit {0}) Rule) → broken r ≡ 0 → r ≡ Ok tt
broken-none r h = one-broken r (Ok tt) h

pub broken-some : (s : Rule) → broken (Err s) ≡ 0 → ⊥
broken-some s h = omega (arith, rule-least s)

pub answered-painted : (v : Verdict) → answered (Ok v) < 20
answered-painted v = omega (arith, verdict-most v)

pub answered-refused : (e : Refusal) → 20 ≤ answered (Err e)
answered-refused e = refusal-least e

-- ---- what `?` passes up is the same refusal, or the same rule
pub passed-refused : (r : Result (Unit {0}) Refusal) (e : Refusal) → IsErrAnd r (λ d. d ≡ e) → refused r ≡ refusal_number e
passed-refused (Ok x) e h = absurd h
passed-refused (Err d) e h = ap refusal_number h

pub passed-answered : (r : Result Verdict Refusal) (e : Refusal) → IsErrAnd r (λ d. d ≡ e) → answered r ≡ refusal_number e
passed-answered (Ok x) e h = absurd h
passed-answered (Err d) e h = ap refusal_number h

pub passed-broken : (r : Result (Unit {0}) Rule) (e : Rule) → IsErrAnd r (λ d. d ≡ e) → broken r ≡ rule_number e
passed-broken (Ok x) e h = absurd h
passed-broken (Err d) e h = ap rule_number h
