-- The ways out of the checks, and what each tells.
-- Assumes nothing.
use Rattle.std.specs.Prelude.{◌≡◌, refl, Bool, true, false, cond, eqb, ltb}
use Rattle.std.proofs.Common.{sym, ◌∙◌, suc-ne-zero, arith}
use Rattle.std.proofs.lemmas.Bool.{false≢true}
use Prim.Native.Nat.{ℕ, ◌≤◌, ◌<◌}
use Rattle.std.proofs.Math.Decide.{dec_lt}
use borrow.Author.Tests.{eq-eqb, ne_eqb, lt-ltb, le-ltb}
use Rattle.laws.specs.Numbers.{choice}
use Rattle.image_shape.specs.Shapes.{refusal_of}
use Rattle.image_shape.specs.ShapeLaws.{refusal-small}
use Rattle.image_shape.specs.declared.Shape.{Shape}
use Rattle.astc_checks.specs.Checks.{options_refusal, places_refusal}

-- ---- options
module _ (options : ℕ) where
  pub options-23 : (options ≡ 0 → ⊥) → 23 ≡ options_refusal options
  unfolding options_refusal
  options-23 n = rw (ne_eqb options 0 n)

  pub options-0 : options ≡ 0 → 0 ≡ options_refusal options
  unfolding options_refusal
  options-0 z = rw (eq-eqb options 0 z)

  pub options-small : options_refusal options < 24
  unfolding options_refusal
  options-small = choice (eqb options 0) 0 23 (omega arith) (omega arith)

-- ---- places
module _ (m : Shape) (len room places : ℕ) where
  pub places-22 : (a : ℕ) → a ≡ refusal_of m len room → places < 3 → a ≡ 0 → 22 ≡ places_refusal m len room places
  unfolding places_refusal
  places-22 a e h z = rw (sym e, lt-ltb places 3 h, z)

  pub places-image : (a : ℕ) → a ≡ refusal_of m len room → places < 3 → (a ≡ 0 → ⊥) → a ≡ places_refusal m len room places
  unfolding places_refusal
  places-image a e h n = rw (sym e, lt-ltb places 3 h, ne_eqb a 0 n)

  pub places-0 : 3 ≤ places → 0 ≡ places_refusal m len room places
  unfolding places_refusal
  places-0 h = rw (le-ltb places 3 h)

  pub places-small : places_refusal m len room places < 35
  unfolding places_refusal
  places-small =
      let a = refusal_of m len room in
      choice (ltb places 3) (cond (eqb a 0) 22 a) 0 (choice (eqb a 0) 22 a (omega arith) (refusal-small m len room)) (omega arith)

  -- there are three places just where it is 0
  pub three-places : (r : ℕ) → r ≡ places_refusal m len room places → r ≡ 0 → 3 ≤ places
  unfolding places_refusal
  three-places r e z = go (dec_lt places 3)
    where
      a : ℕ
      a = refusal_of m len room

      none : (t : Bool) → eqb a 0 ≡ t → cond t 22 a ≡ 0 → ⊥
      none true x y = suc-ne-zero 21 y
      none false x y = false≢true (sym x ∙ eq-eqb a 0 y)

      go : Dec (places < 3) → 3 ≤ places
      go (yes h) = absurd (none (eqb a 0) refl (rw (lt-ltb places 3 h) at (sym e ∙ z)))
      go (no h) = omega arith

  pub few-places : (r : ℕ) → r ≡ places_refusal m len room places → (r ≡ 0 → ⊥) → places < 3
  few-places r e n = go (dec_lt places 3)
    where
      go : Dec (places < 3) → places < 3
      go (yes h) = h
      go (no h) = absurd (n (e ∙ sym (places-0 (omega arith))))
