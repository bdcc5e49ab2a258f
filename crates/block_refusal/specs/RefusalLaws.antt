-- The ways out of the checks, and what a call that passes them gives.
-- Assumes nothing.
use Rattle.std.proofs.Math.Path.{◌≡◌, refl}
use Rattle.std.proofs.Common.{sym, ◌∙◌, suc-ne-zero}
use Rattle.std.specs.Prelude.{Bool, not, ltb}
use Rattle.std.proofs.Math.Bool.{true, false, cond}
use Rattle.std.proofs.lemmas.Bool.{false≢true}
use Prim.Native.Nat.{ℕ, ◌≤◌, ◌<◌}
use Rattle.std.proofs.Math.Decide.{dec_lt}
use native.Mathlib.Omega.{arith}
use Rattle.std.proofs.Math.Dec.{eqb}
use borrow.Author.Tests.{eq-eqb, ne_eqb, eqb-true, lt-ltb, le-ltb}
use Rattle.laws.specs.Numbers.{choice}
use Rattle.footprint.specs.Footprints.{texels_of, listed}
use Rattle.footprint.specs.declared.Footprint.{Footprint}
use Rattle.block_refusal.specs.Refusal.{first_refusal, block_refusal, texel_refusal}

-- ---- the checks of every call
module _ (len : ℕ) (foot : Footprint) where
  pub first-20 : (len ≡ 16 → ⊥) → 20 ≡ first_refusal len foot
  unfolding first_refusal
  first-20 n = rw (ne_eqb len 16 n)

  pub first-21 : len ≡ 16 → listed foot ≡ false → 21 ≡ first_refusal len foot
  unfolding first_refusal
  first-21 e l = rw (eq-eqb len 16 e, l)

  pub first-0 : len ≡ 16 → listed foot ≡ true → 0 ≡ first_refusal len foot
  unfolding first_refusal
  first-0 e l = rw (eq-eqb len 16 e, l)

  -- where it is 0, each check holds
  pub first-accepted : first_refusal len foot ≡ 0 → (len ≡ 16) × (listed foot ≡ true)
  unfolding first_refusal
  first-accepted e = go (eqb len 16) (listed foot) refl refl e
    where
      go : (t u : Bool) → eqb len 16 ≡ t → listed foot ≡ u → ◌≡◌ {A = ℕ} (cond (not t) 20 (cond (not u) 21 0)) 0 → (len ≡ 16) × (listed foot ≡ true)
      go false u et eu x = absurd (suc-ne-zero 19 x)
      go true false et eu x = absurd (suc-ne-zero 20 x)
      go true true et eu x = (eqb-true len 16 et, eu)

  first_small : first_refusal len foot < 22
  unfolding first_refusal
  first_small = choice (not (eqb len 16)) 20 _ (omega arith) (choice (not (listed foot)) 21 0 (omega arith) (omega arith))

  first-large : (first_refusal len foot ≡ 0 → ⊥) → 20 ≤ first_refusal len foot
  unfolding first_refusal
  first-large n = go (eqb len 16) (listed foot) n
    where
      go : (t u : Bool) → (◌≡◌ {A = ℕ} (cond (not t) 20 (cond (not u) 21 0)) 0 → ⊥) → 20 ≤ cond (not t) 20 (cond (not u) 21 0)
      go false u n = omega arith
      go true false n = omega arith
      go true true n = absurd (n refl)

-- ---- a call for all texels
-- one that passes has room for them
pub record Accepted (len : ℕ) (foot : Footprint) (places : ℕ) : Type 0 where
  pub sixteen : len ≡ 16
  pub listed : listed foot ≡ true
  pub room : texels_of foot ≤ places

module _ (len : ℕ) (foot : Footprint) (room : ℕ) where
  pub out_first : (a : ℕ) → a ≡ first_refusal len foot → (a ≡ 0 → ⊥) → a ≡ block_refusal len foot room
  unfolding block_refusal
  out_first a e n = rw (sym e, ne_eqb a 0 n)

  pub out-22 : first_refusal len foot ≡ 0 → room < texels_of foot → 22 ≡ block_refusal len foot room
  unfolding block_refusal
  out-22 z r = rw (z, lt-ltb room (texels_of foot) r)

  pub out-0 : first_refusal len foot ≡ 0 → texels_of foot ≤ room → 0 ≡ block_refusal len foot room
  unfolding block_refusal
  out-0 z r = rw (z, le-ltb room (texels_of foot) r)

  -- where it is 0, each check holds
  pub accepted : block_refusal len foot room ≡ 0 → Accepted len foot room
  unfolding block_refusal
  accepted e = go (eqb (first_refusal len foot) 0) (dec_lt room (texels_of foot)) refl e
    where
      go : (t : Bool) → Dec (room < texels_of foot) → eqb (first_refusal len foot) 0 ≡ t → cond t (cond (ltb room (texels_of foot)) 22 0) (first_refusal len foot) ≡ 0
          → Accepted len foot room
      go false r et x = absurd (false≢true (sym et ∙ eq-eqb (first_refusal len foot) 0 x))
      go true (yes r) et x = absurd (suc-ne-zero 21 (rw (lt-ltb room (texels_of foot) r) at x))
      go true (no r) et x =
          let g = first-accepted len foot (eqb-true (first_refusal len foot) 0 et) in
          record { sixteen = g.0; listed = g.1; room = omega arith }

  pub not-refused : Accepted len foot room → block_refusal len foot room ≡ 0
  not-refused a = sym (out-0 (sym (first-0 len foot a.sixteen a.listed)) a.room)

  -- refusals are 20 and above, and no answer is above them
  pub refusal-large : (block_refusal len foot room ≡ 0 → ⊥) → 20 ≤ block_refusal len foot room
  unfolding block_refusal
  refusal-large n = go (eqb (first_refusal len foot) 0) (ltb room (texels_of foot)) refl n
    where
      a : ℕ
      a = first_refusal len foot

      go : (t r : Bool) → eqb a 0 ≡ t → (cond t (cond r 22 0) a ≡ 0 → ⊥) → 20 ≤ cond t (cond r 22 0) a
      go false r e n = first-large len foot n
      go true true e n = omega arith
      go true false e n = absurd (n refl)

  pub refusal-small : block_refusal len foot room < 23
  unfolding block_refusal
  refusal-small =
      let l = first_small len foot in
      choice (eqb (first_refusal len foot) 0) (cond (ltb room (texels_of foot)) 22 0) (first_refusal len foot) (choice (ltb room (texels_of foot)) 22 0 (omega arith) (omega arith)) (omega arith)

-- ---- a call for the texel t
module _ (len : ℕ) (foot : Footprint) (t : ℕ) where
  pub texel-first : (a : ℕ) → a ≡ first_refusal len foot → (a ≡ 0 → ⊥) → a ≡ texel_refusal len foot t
  unfolding texel_refusal
  texel-first a e n = rw (sym e, ne_eqb a 0 n)

  pub texel-0 : first_refusal len foot ≡ 0 → t < texels_of foot → 0 ≡ texel_refusal len foot t
  unfolding texel_refusal
  texel-0 z h = rw (z, lt-ltb t (texels_of foot) h)

  pub texel-32 : first_refusal len foot ≡ 0 → texels_of foot ≤ t → 32 ≡ texel_refusal len foot t
  unfolding texel_refusal
  texel-32 z h = rw (z, le-ltb t (texels_of foot) h)

  -- where it is 0, each check holds
  pub texel-accepted : texel_refusal len foot t ≡ 0 → (len ≡ 16) × (listed foot ≡ true) × (t < texels_of foot)
  unfolding texel_refusal
  texel-accepted e = go (eqb (first_refusal len foot) 0) (dec_lt t (texels_of foot)) refl e
    where
      go : (u : Bool) → Dec (t < texels_of foot) → eqb (first_refusal len foot) 0 ≡ u → cond u (cond (ltb t (texels_of foot)) 0 32) (first_refusal len foot) ≡ 0
          → (len ≡ 16) × (listed foot ≡ true) × (t < texels_of foot)
      go false h eu x = absurd (false≢true (sym eu ∙ eq-eqb (first_refusal len foot) 0 x))
      go true (no h) eu x = absurd (suc-ne-zero 31 (rw (le-ltb t (texels_of foot) (omega arith)) at x))
      go true (yes h) eu x = let g = first-accepted len foot (eqb-true (first_refusal len foot) 0 eu) in (g.0, g.1, h)

  pub texel-not-refused : len ≡ 16 → listed foot ≡ true → t < texels_of foot → texel_refusal len foot t ≡ 0
  texel-not-refused e l h = sym (texel-0 (sym (first-0 len foot e l)) h)
