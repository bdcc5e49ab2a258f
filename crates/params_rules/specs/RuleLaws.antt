-- What a legal configuration keeps to, and the ways out of the rules.
-- Assumes nothing.
use Rattle.std.specs.Prelude.{◌≡◌, refl, Bool, true, false, cond, ◌&&◌, ◌⊎◌, ℕ, suc, ◌+◌, ◌*◌, ◌/◌, ◌≤◌, ◌<◌, ltb, eqb}
use Rattle.std.proofs.Common.{⊎_elim, arith}
use borrow.Author.Tests.{lt-ltb, le-ltb, ltb-false, eq-eqb, ne_eqb}
use Rattle.laws.specs.Numbers.{choice}
use Rattle.footprint.specs.declared.Footprint.{Footprint}
use Rattle.params_config.specs.declared.Config.{Config}
use Rattle.params_rules.specs.Rules.{used, weights, end_verdict, verdict}

-- ---- the checks
-- an answer of 0: the first test failed, and what follows answers 0
pub passed : (b : Bool) (k r : ℕ) → cond b (suc k) r ≡ 0 → (b ≡ false) × (r ≡ 0)
passed true k r e = absurd (no e)
  where
    no : suc k ≡ 0 → ⊥
    no h = omega arith
passed false k r e = (refl, e)

pub record Legal (k : Config) (f : Footprint) : Type 0 where
  pub wide : k.width ≤ f.width
  pub high : k.height ≤ f.height
  pub few : weights k ≤ 64
  pub least : 24 ≤ k.weight_len
  pub most : k.weight_len ≤ 96
  pub plane : eqb k.planes 2 && eqb k.parts 4 ≡ false
  pub values : k.values ≤ 18
  pub room : (13 * k.values + 4) / 5 + used k ≤ 128

pub verdict-legal : (k : Config) (f : Footprint) → verdict k f ≡ 0 → Legal k f
unfolding verdict end_verdict
verdict-legal k f e =
    let s1 = passed _ 10 _ e in
    let s2 = passed _ 10 _ s1.1 in
    let s3 = passed _ 11 _ s2.1 in
    let s4 = passed _ 12 _ s3.1 in
    let s5 = passed _ 12 _ s4.1 in
    let s6 = passed _ 13 _ s5.1 in
    let s7 = passed _ 14 _ s6.1 in
    let s8 = passed _ 15 _ s7.1 in
    record {
      wide = ltb-false _ _ s1.0;
      high = ltb-false _ _ s2.0;
      few = ltb-false _ _ s3.0;
      least = ltb-false _ _ s4.0;
      most = ltb-false _ _ s5.0;
      plane = s6.0;
      values = ltb-false _ _ s7.0;
      room = ltb-false _ _ s8.0;
    }

-- the chain, one lemma for each way out: a proof of a function that makes the tests in this order is `search` over these
module _ (k : Config) (f : Footprint) where
  pub on-width : f.width < k.width → 11 ≡ verdict k f
  unfolding verdict
  on-width a = simp (lt-ltb _ _ a)

  pub on-height : k.width ≤ f.width → f.height < k.height → 11 ≡ verdict k f
  unfolding verdict
  on-height a b = simp (le-ltb _ _ a, lt-ltb _ _ b)

  pub on-many : k.width ≤ f.width → k.height ≤ f.height → 64 < weights k → 12 ≡ verdict k f
  unfolding verdict
  on-many a b c = simp (le-ltb _ _ a, le-ltb _ _ b, lt-ltb _ _ c)

  pub on-few : k.width ≤ f.width → k.height ≤ f.height → weights k ≤ 64 → k.weight_len < 24 → 13 ≡ verdict k f
  unfolding verdict
  on-few a b c d = simp (le-ltb _ _ a, le-ltb _ _ b, le-ltb _ _ c, lt-ltb _ _ d)

  pub on-long : k.width ≤ f.width → k.height ≤ f.height → weights k ≤ 64 → 24 ≤ k.weight_len → 96 < k.weight_len → 13 ≡ verdict k f
  unfolding verdict
  on-long a b c d e = simp (le-ltb _ _ a, le-ltb _ _ b, le-ltb _ _ c, le-ltb _ _ d, lt-ltb _ _ e)

  pub on-planes : k.width ≤ f.width → k.height ≤ f.height → weights k ≤ 64 → 24 ≤ k.weight_len → k.weight_len ≤ 96 → k.planes ≡ 2 → k.parts ≡ 4 → 14 ≡ verdict k f
  unfolding verdict
  on-planes a b c d e p g = simp (le-ltb _ _ a, le-ltb _ _ b, le-ltb _ _ c, le-ltb _ _ d, le-ltb _ _ e, eq-eqb _ _ p, eq-eqb _ _ g)

  pub on-ends : (r : ℕ) → k.width ≤ f.width → k.height ≤ f.height → weights k ≤ 64 → 24 ≤ k.weight_len → k.weight_len ≤ 96 → (k.planes ≡ 2 → ⊥) → r ≡ end_verdict k → r ≡ verdict k f
  unfolding verdict
  on-ends r a b c d e p g = simp (le-ltb _ _ a, le-ltb _ _ b, le-ltb _ _ c, le-ltb _ _ d, le-ltb _ _ e, ne_eqb _ _ p) g

  pub on-ends-dual : (r : ℕ) → k.width ≤ f.width → k.height ≤ f.height → weights k ≤ 64 → 24 ≤ k.weight_len → k.weight_len ≤ 96 → k.planes ≡ 2 → (k.parts ≡ 4 → ⊥) → r ≡ end_verdict k → r ≡ verdict k f
  unfolding verdict
  on-ends-dual r a b c d e p i g = simp (le-ltb _ _ a, le-ltb _ _ b, le-ltb _ _ c, le-ltb _ _ d, le-ltb _ _ e, eq-eqb _ _ p, ne_eqb _ _ i) g

  -- two ways out with one answer, and the two ways to the endpoints
  pub on-grid : (f.width < k.width) ⊎ ((k.width ≤ f.width) × (f.height < k.height)) → 11 ≡ verdict k f
  on-grid t = ⊎_elim on-width (λ p. on-height p.0 p.1) t

  pub on-length : k.width ≤ f.width → k.height ≤ f.height → weights k ≤ 64 → (k.weight_len < 24) ⊎ ((24 ≤ k.weight_len) × (96 < k.weight_len)) → 13 ≡ verdict k f
  on-length a b c t = ⊎_elim (on-few a b c) (λ p. on-long a b c p.0 p.1) t

  pub on-any-ends : (r : ℕ) → k.width ≤ f.width → k.height ≤ f.height → weights k ≤ 64 → 24 ≤ k.weight_len → k.weight_len ≤ 96
      → ((k.planes ≡ 2) × (k.parts ≡ 4 → ⊥)) ⊎ (k.planes ≡ 2 → ⊥) → r ≡ end_verdict k → r ≡ verdict k f
  on-any-ends r a b c d e t g = ⊎_elim (λ p. on-ends-dual r a b c d e p.0 p.1 g) (λ n. on-ends r a b c d e n g) t

-- ---- no rule answers 1
pub neither : (b : Bool) (x y : ℕ) → (x ≡ 1 → ⊥) → (y ≡ 1 → ⊥) → cond b x y ≡ 1 → ⊥
neither true x y h l = h
neither false x y h l = l

pub not-1 : (k : Config) (f : Footprint) → verdict k f ≡ 1 → ⊥
unfolding verdict end_verdict
not-1 k f =
    neither (ltb f.width k.width) 11 _ (λ e. omega arith)
    (neither (ltb f.height k.height) 11 _ (λ e. omega arith)
    (neither (ltb 64 (weights k)) 12 _ (λ e. omega arith)
    (neither (ltb k.weight_len 24) 13 _ (λ e. omega arith)
    (neither (ltb 96 k.weight_len) 13 _ (λ e. omega arith)
    (neither (eqb k.planes 2 && eqb k.parts 4) 14 _ (λ e. omega arith)
    (neither (ltb 18 k.values) 15 _ (λ e. omega arith)
    (neither (ltb 128 ((13 * k.values + 4) / 5 + used k)) 16 0 (λ e. omega arith) (λ e. omega arith))))))))

-- ---- and none a refusal
end_lt : (k : Config) → end_verdict k < 20
unfolding end_verdict
end_lt k = choice (ltb 18 k.values) 15 _ (omega arith) (choice (ltb 128 ((13 * k.values + 4) / 5 + used k)) 16 0 (omega arith) (omega arith))

pub verdict-lt : (k : Config) (f : Footprint) → verdict k f < 20
unfolding verdict
verdict-lt k f =
    choice (ltb f.width k.width) 11 _ (omega arith)
    (choice (ltb f.height k.height) 11 _ (omega arith)
    (choice (ltb 64 (weights k)) 12 _ (omega arith)
    (choice (ltb k.weight_len 24) 13 _ (omega arith)
    (choice (ltb 96 k.weight_len) 13 _ (omega arith)
    (choice (eqb k.planes 2 && eqb k.parts 4) 14 _ (omega arith) (end_lt k))))))
