-- The ways out of the modes of high dynamic range.
-- Assumes nothing.
use Rattle.std.specs.Prelude.{◌≡◌, cond, ◌⊎◌, ℕ, ◌<◌, eqb}
use Rattle.std.proofs.Common.{◌∙◌, ⊎_elim}
use Rattle.endpoints_colours.specs.Marks.{marks_of}
use Rattle.endpoints_colours.specs.MarkLaws.{hdr-modes}
use Rattle.endpoints_colours.specs.declared.Alphas.{Alphas}
use Rattle.endpoints_colours.specs.declared.Endpoints.{Endpoints}
use Rattle.endpoints_colours.specs.declared.Mark.TheVariants.{Hdr}
use Rattle.endpoints_colours.specs.declared.Values.{Values}
use Rattle.endpoints_rules.specs.Hdr.{opaque, luminance_large, luminance_small, hdr7}
use Rattle.endpoints_rules.specs.Hdr11.{hdr11, plain_alphas, hdr_alphas}
use Rattle.endpoints_rules.specs.Modes.{by_mode, endpoints_of}

-- what the last arm stands for
pub last-modes : (m : ℕ) → m < 16 → (marks_of m).color ≡ Hdr → (m ≡ 2 → ⊥) → (m ≡ 3 → ⊥) → (m ≡ 7 → ⊥) → (m ≡ 11) ⊎ ((m ≡ 14) ⊎ (m ≡ 15))
last-modes m h e n2 n3 n7 = ⊎_elim (λ x. absurd (n2 x)) (⊎_elim (λ x. absurd (n3 x)) (⊎_elim (λ x. absurd (n7 x)) (λ x. x))) (hdr-modes m h e)

module _ (m : ℕ) (v : Values) (e : Endpoints) where
  pub mode-2 : m ≡ 2 → e ≡ luminance_large v.v0 v.v1 → e ≡ endpoints_of m v
  unfolding endpoints_of by_mode
  mode-2 k h = h ∙ rw k

  pub mode-3 : m ≡ 3 → e ≡ luminance_small v.v0 v.v1 → e ≡ endpoints_of m v
  unfolding endpoints_of by_mode
  mode-3 k h = h ∙ rw k

  pub mode-7 : m ≡ 7 → e ≡ hdr7 v.v0 v.v1 v.v2 v.v3 → e ≡ endpoints_of m v
  unfolding endpoints_of by_mode
  mode-7 k h = h ∙ rw k

  pub mode-11 : (t : Alphas) → (m ≡ 11) ⊎ ((m ≡ 14) ⊎ (m ≡ 15)) → t ≡ cond (eqb m 11) opaque (cond (eqb m 14) (plain_alphas v) (hdr_alphas v)) → e ≡ hdr11 v t → e ≡ endpoints_of m v
  unfolding endpoints_of by_mode
  mode-11 t k p h = h ∙ rw p (⊎_elim (λ z. rw z) (⊎_elim (λ z. rw z) (λ z. rw z)) k)
