-- What it means that a promise allows one outcome: any two that it allows are equal. TightLayers, TightBlock, TightImage and TightPrograms
-- have a theorem for each public function, which has the function's name and states its promise; where two crates have a function of that
-- name, the theorem's name tells the crate's part.
-- Assumes nothing.
use Rattle.std.specs.Prelude.{◌≡◌, ℕ, ◌/◌, ◌%◌, ◌^◌, ◌<◌}
use Rattle.std.proofs.Common.{sym, ap, ◌∙◌}
use Rattle.std.proofs.Math.Pow.{high, low}
use Rattle.bits.specs.Blocks.{value_of}
use Rattle.bits.specs.declared.Block.{Block}

-- ---- what is stated
-- a promise on one result
abbrev pub Tight : (A : Type 0) → (A → Type 0) → Type 0
Tight A P = (r s : A) → P r → P s → r ≡ s

-- on an answer and an output
abbrev pub TightBoth : (A B : Type 0) → (A → B → Type 0) → Type 0
TightBoth A B P = (r s : A) (x y : B) → P r x → P s y → (r ≡ s) × (x ≡ y)

-- on an answer and two outputs
abbrev pub TightThree : (A B C : Type 0) → (A → B → C → Type 0) → Type 0
TightThree A B C P = (r s : A) (x y : B) (z w : C) → P r x z → P s y w → (r ≡ s) × (x ≡ y) × (z ≡ w)

-- on a block, whose two words are of 64 bits
abbrev pub Words : Block → Type 0
Words b = (b.hi < 2 ^ 64) × (b.lo < 2 ^ 64)

abbrev pub TightBlock : (Block → Type 0) → Type 0
TightBlock P = (r s : Block) → Words r → Words s → P r → P s → r ≡ s

-- ---- why it holds
pub one : (A : Type 0) (x : A) → Tight A (λ r. r ≡ x)
one A x r s p q = p ∙ sym q

-- a number that tells its answer
pub told : (A : Type 0) (number : A → ℕ) → ((a b : A) → number a ≡ number b → a ≡ b) → (n : ℕ) → Tight A (λ r. number r ≡ n)
told A number only n r s p q = only r s (p ∙ sym q)

-- and the same with an output, and with two
pub told-both : (A B : Type 0) (number : A → ℕ) → ((a b : A) → number a ≡ number b → a ≡ b) → (n : ℕ) (b : B) → TightBoth A B (λ r x. (number r ≡ n) × (x ≡ b))
told-both A B number only n b r s x y p q = (only r s (p.0 ∙ sym q.0), p.1 ∙ sym q.1)

pub told-three : (A B C : Type 0) (number : A → ℕ) → ((a b : A) → number a ≡ number b → a ≡ b) → (n : ℕ) (b : B) (c : C)
    → TightThree A B C (λ r x z. (number r ≡ n) × (x ≡ b) × (z ≡ c))
told-three A B C number only n b c r s x y z w p q = (only r s (p.0 ∙ sym q.0), p.1 ∙ sym q.1, p.2 ∙ sym q.2)

pub three : (A B C : Type 0) (a : A) (b : B) (c : C) → TightThree A B C (λ r x z. (r ≡ a) × (x ≡ b) × (z ≡ c))
three A B C a b c r s x y z w p q = (p.0 ∙ sym q.0, p.1 ∙ sym q.1, p.2 ∙ sym q.2)

pub both : (A B : Type 0) (a : A) (b : B) → TightBoth A B (λ r x. (r ≡ a) × (x ≡ b))
both A B a b r s x y p q = (p.0 ∙ sym q.0, p.1 ∙ sym q.1)

pair : (h l h' l' : ℕ) → h ≡ h' → l ≡ l' → ◌≡◌ {A = Block} (record { hi = h; lo = l }) (record { hi = h'; lo = l' })
pair h l h' l' p q = rw (p, q)

-- the number of a block tells its words
pub block : (v : ℕ) → TightBlock (λ r. value_of r ≡ v)
block v r s a b p q =
    let e : value_of r ≡ value_of s = p ∙ sym q in
    pair r.hi r.lo s.hi s.lo
    (sym (high r.hi 64 {lo = r.lo} a.1) ∙ ap (λ (n : ℕ). n / 2 ^ 64) e ∙ high s.hi 64 {lo = s.lo} b.1)
    (sym (low r.hi 64 {lo = r.lo} a.1) ∙ ap (λ (n : ℕ). n % 2 ^ 64) e ∙ low s.hi 64 {lo = s.lo} b.1)
