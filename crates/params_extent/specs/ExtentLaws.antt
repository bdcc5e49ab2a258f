-- The ways out of the rules, of a block's own bits, and what the answer of a void block may be.
-- Assumes nothing.
use Rattle.std.specs.Prelude.{◌≡◌, Bool, ◌&&◌, ◌||◌, ℕ, ◌<◌, eqb, ltb}
use Rattle.std.proofs.Math.Path.{sym}
use Rattle.std.proofs.Common.{◌∙◌, eq-eqb, ne_eqb}
use Rattle.std.proofs.Math.Bool.{true, false, cond}
use native.Mathlib.Omega.{arith}
use Rattle.laws.specs.Numbers.{choice}
use Rattle.bits.specs.Bits.{bits_at}
use Rattle.bits.specs.BitLaws.{locality, join}
use Rattle.options.specs.declared.Reading.{Reading}
use Rattle.options.specs.declared.Reading.TheVariants.{Crate, Standard}
use Rattle.params_low.specs.Low.{is_void, extent_of}
use Rattle.params_extent.specs.Extent.{extent_in, is_everywhere, keeps_rules, void_verdict}

-- ---- the extent of a void block is the one that the parameters have of it
pub extent-is : (v : ℕ) → is_void v ≡ true → extent_of v ≡ extent_in v
unfolding extent_of
extent-is v e = rw e

-- ---- the rules, of the bits of the block v
pub rules-are : (v : ℕ)
    → keeps_rules (extent_in v) ≡ eqb (bits_at v 10 2) 3 && (eqb (bits_at v 12 52) 4503599627370495 || (ltb (bits_at v 12 13) (bits_at v 25 13) && ltb (bits_at v 38 13) (bits_at v 51 13)))
unfolding keeps_rules is_everywhere
rules-are v =
    rw (← (locality v 10 54 0 2 (omega arith)), ← (locality v 10 54 2 52 (omega arith)), ← (locality v 10 54 2 13 (omega arith)), ← (locality v 10 54 15 13 (omega arith)), ← (locality v 10 54 28 13 (omega arith)), ← (locality v 10 54 41 13 (omega arith)))

-- the code's first test: 54 ones
pub everywhere : (v x : ℕ) → x ≡ extent_in v → x ≡ 18014398509481983 → true ≡ keeps_rules (extent_in v)
unfolding keeps_rules is_everywhere bits_at
everywhere v x e z = rw (← e, z)

-- without them, two ones below the extent say that it is not all ones
not-everywhere : (v : ℕ) → (extent_in v ≡ 18014398509481983 → ⊥) → bits_at v 10 2 ≡ 3 → bits_at v 12 52 ≡ 4503599627370495 → ⊥
not-everywhere v n a b = n (join v 10 2 52 ∙ rw (a, b))

module _ (v x y : ℕ) (n : x ≡ 18014398509481983 → ⊥) (f : x ≡ extent_in v) (e : y ≡ bits_at v 10 2) where
  pub not-ones : (y ≡ 3 → ⊥) → false ≡ keeps_rules (extent_in v)
  not-ones m = sym (rules-are v ∙ rw (ne_eqb _ _ (λ z. m (e ∙ z))))

  module _ (h : y ≡ 3) (s : Bool) (g : s ≡ ltb (bits_at v 12 13) (bits_at v 25 13)) where
    other : bits_at v 12 52 ≡ 4503599627370495 → ⊥
    other = not-everywhere v (λ z. n (f ∙ z)) (sym e ∙ h)

    pub in_order : s ≡ true → (t : Bool) → t ≡ ltb (bits_at v 38 13) (bits_at v 51 13) → t ≡ keeps_rules (extent_in v)
    in_order z t k = k ∙ sym (rules-are v ∙ rw (eq-eqb _ _ (sym e ∙ h), ne_eqb _ _ other, sym g ∙ z))

    pub out_of_order : s ≡ false → false ≡ keeps_rules (extent_in v)
    out_of_order z = sym (rules-are v ∙ rw (eq-eqb _ _ (sym e ∙ h), ne_eqb _ _ other, sym g ∙ z))

-- ---- the answer
module _ (x : ℕ) where
  pub void-crate : (r : Reading) → r ≡ Crate → 1 ≡ void_verdict r x
  unfolding void_verdict
  void-crate r e = rw e

  pub void-kept : (r : Reading) (b : Bool) → r ≡ Standard → b ≡ keeps_rules x → b ≡ true → 1 ≡ void_verdict r x
  unfolding void_verdict
  void-kept r b e f z = rw (e, sym f ∙ z)

  pub void-broken : (r : Reading) (b : Bool) → r ≡ Standard → b ≡ keeps_rules x → b ≡ false → 17 ≡ void_verdict r x
  unfolding void_verdict
  void-broken r b e f z = rw (e, sym f ∙ z)

  -- it is never that of a block with endpoints, nor a refusal
  pub void-some : (r : Reading) → void_verdict r x ≡ 0 → ⊥
  unfolding void_verdict
  void-some Crate e = omega arith
  void-some Standard e = go (keeps_rules x) e
    where
      go : (b : Bool) → cond {A = ℕ} b 1 17 ≡ 0 → ⊥
      go true e = omega arith
      go false e = omega arith

  pub void-lt : (r : Reading) → void_verdict r x < 20
  unfolding void_verdict
  void-lt Crate = omega arith
  void-lt Standard = choice (keeps_rules x) 1 17 (omega arith) (omega arith)
