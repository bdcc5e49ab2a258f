-- The ways out of the test of a footprint: one for each width, by its heights.
-- Assumes nothing.
use Rattle.std.specs.Prelude.{◌≡◌, Bool, true, false, eqb}
use borrow.Author.Tests.{ne_eqb}
use Rattle.footprint.specs.Footprints.{one_of2, listed}
use Rattle.footprint.specs.declared.Footprint.{Footprint}

module _ (f : Footprint) where
  pub at-4 : f.width ≡ 4 → eqb f.height 4 ≡ listed f
  unfolding listed
  at-4 e = rw e

  pub at_5 : (r : Bool) → f.width ≡ 5 → r ≡ one_of2 f.height 4 5 → r ≡ listed f
  unfolding listed
  at_5 r e d = rw (e, d)

  pub at-6 : (r : Bool) → f.width ≡ 6 → r ≡ one_of2 f.height 5 6 → r ≡ listed f
  unfolding listed
  at-6 r e d = rw (e, d)

  pub at-8-low : (r : Bool) → f.width ≡ 8 → r ≡ one_of2 f.height 5 6 → r ≡ true → true ≡ listed f
  unfolding listed
  at-8-low r e d t = rw (e, ← d, t)

  pub at_8 : (r : Bool) → f.width ≡ 8 → r ≡ one_of2 f.height 5 6 → r ≡ false → eqb f.height 8 ≡ listed f
  unfolding listed
  at_8 r e d t = rw (e, ← d, t)

  pub at-10-low : (r : Bool) → f.width ≡ 10 → r ≡ one_of2 f.height 5 6 → r ≡ true → true ≡ listed f
  unfolding listed
  at-10-low r e d t = rw (e, ← d, t)

  pub at-10 : (r s : Bool) → f.width ≡ 10 → r ≡ one_of2 f.height 5 6 → r ≡ false → s ≡ one_of2 f.height 8 10 → s ≡ listed f
  unfolding listed
  at-10 r s e d t q = rw (e, ← d, t, q)

  pub at-12 : (r : Bool) → f.width ≡ 12 → r ≡ one_of2 f.height 10 12 → r ≡ listed f
  unfolding listed
  at-12 r e d = rw (e, d)

  pub at_none : (f.width ≡ 4 → ⊥) → (f.width ≡ 5 → ⊥) → (f.width ≡ 6 → ⊥) → (f.width ≡ 8 → ⊥) → (f.width ≡ 10 → ⊥) → (f.width ≡ 12 → ⊥) → false ≡ listed f
  unfolding listed
  at_none a b c d e g = rw (ne_eqb f.width 4 a, ne_eqb f.width 5 b, ne_eqb f.width 6 c, ne_eqb f.width 8 d, ne_eqb f.width 10 e, ne_eqb f.width 12 g)
