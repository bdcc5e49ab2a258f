-- The modes of low dynamic range, as the code's arms lead there, and the forms that inner functions promise.
-- Assumes nothing.
use Rattle.std.specs.Prelude.{◌≡◌, cond, ◌⊎◌, ℕ, ◌+◌, ◌<◌, eqb, ◌*◌, ◌/◌, ◌%◌, ◌≤◌, min}
use Rattle.std.proofs.Common.{◌∙◌, inl, inr, ⊎_elim, mul-le-mul, arith}
use Rattle.endpoints_colours.specs.Marks.{marks_of}
use Rattle.endpoints_colours.specs.MarkLaws.{ldr-modes}
use Rattle.endpoints_rules.specs.Ldr.{base_of, offset_of, luminance, luminance_offset, luminance_alpha_offset, scaled, direct, offset, contracted, clamped_pair}
use Rattle.endpoints_rules.specs.Modes.{by_mode, endpoints_of}
use Rattle.endpoints_colours.specs.declared.Endpoints.{Endpoints}
use Rattle.endpoints_colours.specs.declared.Values.{Values}
use Rattle.endpoints_ldr.specs.declared.Transfer.{Transfer}
use Rattle.endpoints_colours.specs.declared.Alphas.{Alphas}
use Rattle.endpoints_colours.specs.declared.Rgba.{Rgba}
use Rattle.endpoints_colours.specs.declared.Mark.TheVariants.{Ldr}
use borrow.Author.Tests.{le-leb, lt-leb}
use Rattle.endpoints_colours.specs.Colours.{rgba, ldr}

-- small enough for sums in 16 bits
pub record Narrow (c : Rgba) : Type 0 where
  pub r : c.r < 512
  pub g : c.g < 512
  pub b : c.b < 512

pub byte-product : (x y : ℕ) → x < 256 → y < 256 → x * y < 65536
byte-product x y h l =
    let a : x ≤ 255 = omega arith in
    let b : y ≤ 255 = omega arith in
    omega (arith, mul-le-mul a b)

-- bit_transfer_signed
abbrev pub transferred : ℕ → ℕ → Transfer
transferred offset base = record { base = base_of offset base; offset = offset_of offset }

-- the alphas of modes 9 and 13, with 32 added
abbrev pub opaque_alphas : Alphas
opaque_alphas = record { first = 255 + 32; second = 255 + 32; mark = Ldr }

abbrev pub transferred_alphas : ℕ → ℕ → Alphas
transferred_alphas v6 v7 = record { first = base_of v7 v6 + 32; second = base_of v7 v6 + offset_of v7; mark = Ldr }

-- ---- the ways out
pub luminance-is : (v0 v1 a0 a1 : ℕ) (c d : Rgba) (e : Endpoints) → c ≡ rgba v0 v0 v0 a0 → d ≡ rgba v1 v1 v1 a1 → e ≡ ldr c d → e ≡ luminance v0 v1 a0 a1
unfolding luminance
luminance-is v0 v1 a0 a1 c d e p q h = h ∙ rw (p, q)

pub luminance-offset-is : (v0 v1 x : ℕ) (c d : Rgba) (e : Endpoints) → x ≡ min 255 (v0 / 4 + v1 / 64 * 64 + v1 % 64)
    → c ≡ rgba (v0 / 4 + v1 / 64 * 64) (v0 / 4 + v1 / 64 * 64) (v0 / 4 + v1 / 64 * 64) 255 → d ≡ rgba x x x 255 → e ≡ ldr c d → e ≡ luminance_offset v0 v1
unfolding luminance_offset luminance
luminance-offset-is v0 v1 x c d e o p q h = h ∙ rw (p, q, o)

pub alpha-offset : (v0 v1 v2 v3 : ℕ) (t u : Transfer) (c d : Rgba) (e : Endpoints) → t ≡ transferred v1 v0 → u ≡ transferred v3 v2
    → c ≡ rgba (t.base + 32) (t.base + 32) (t.base + 32) (u.base + 32)
    → d ≡ rgba (t.base + t.offset) (t.base + t.offset) (t.base + t.offset) (u.base + u.offset) → e ≡ clamped_pair c d → e ≡ luminance_alpha_offset v0 v1 v2 v3
unfolding luminance_alpha_offset
alpha-offset v0 v1 v2 v3 t u c d e p q a b h = h ∙ rw (a, b, p, q)

pub scaled-is : (v : Values) (a0 a1 x y z : ℕ) (e : Endpoints) → x ≡ v.v0 * v.v3 / 256 → y ≡ v.v1 * v.v3 / 256 → z ≡ v.v2 * v.v3 / 256
    → e ≡ ldr (rgba x y z a0) (rgba v.v0 v.v1 v.v2 a1) → e ≡ scaled v a0 a1
unfolding scaled
scaled-is v a0 a1 x y z e p q o h = h ∙ rw (p, q, o)

pub direct-up : (v : Values) (a0 a1 : ℕ) (e : Endpoints) → v.v0 + v.v2 + v.v4 ≤ v.v1 + v.v3 + v.v5
    → e ≡ ldr (rgba v.v0 v.v2 v.v4 a0) (rgba v.v1 v.v3 v.v5 a1) → e ≡ direct v a0 a1
unfolding direct
direct-up v a0 a1 e l h = h ∙ rw (le-leb _ _ l)

pub direct-down : (v : Values) (a0 a1 : ℕ) (e : Endpoints) → v.v1 + v.v3 + v.v5 < v.v0 + v.v2 + v.v4
    → e ≡ ldr (contracted (rgba v.v1 v.v3 v.v5 a1)) (contracted (rgba v.v0 v.v2 v.v4 a0)) → e ≡ direct v a0 a1
unfolding direct
direct-down v a0 a1 e l h = h ∙ rw (lt-leb _ _ l)

module _ (v : Values) (a0 a1 : ℕ) (r g b : Transfer) (e : Endpoints) (p : r ≡ transferred v.v1 v.v0) (q : g ≡ transferred v.v3 v.v2) (s : b ≡ transferred v.v5 v.v4) where
  pub offset_up : 96 ≤ r.offset + g.offset + b.offset
      → e ≡ clamped_pair (rgba (r.base + 32) (g.base + 32) (b.base + 32) a0) (rgba (r.base + r.offset) (g.base + g.offset) (b.base + b.offset) a1) → e ≡ offset v a0 a1
  unfolding offset
  offset_up l h = h ∙ rw (p, q, s, le-leb _ _ (rw (p, q, s) at l))

  pub offset-down : r.offset + g.offset + b.offset < 96
      → e ≡ clamped_pair (contracted (rgba (r.base + r.offset) (g.base + g.offset) (b.base + b.offset) a1)) (contracted (rgba (r.base + 32) (g.base + 32) (b.base + 32) a0)) → e ≡ offset v a0 a1
  unfolding offset
  offset-down l h = h ∙ rw (p, q, s, lt-leb _ _ (rw (p, q, s) at l))

-- ---- the modes
-- what the last arm stands for
pub last-modes : (m : ℕ) → m < 16 → (marks_of m).color ≡ Ldr → (m ≡ 0 → ⊥) → (m ≡ 1 → ⊥) → (m ≡ 4 → ⊥) → (m ≡ 5 → ⊥) → ((m ≡ 6) ⊎ (m ≡ 10) → ⊥) → ((m ≡ 8) ⊎ (m ≡ 12) → ⊥) → (m ≡ 9) ⊎ (m ≡ 13)
last-modes m h e n0 n1 n4 n5 n6 n8 =
    ⊎_elim (λ x. absurd (n0 x)) (⊎_elim (λ x. absurd (n1 x)) (⊎_elim (λ x. absurd (n4 x)) (⊎_elim (λ x. absurd (n5 x)) (⊎_elim (λ x. absurd (n6 (inl x))) (⊎_elim (λ x. absurd (n8 (inl x)))
    (⊎_elim inl (⊎_elim (λ x. absurd (n6 (inr x))) (⊎_elim (λ x. absurd (n8 (inr x))) inr)))))))) (ldr-modes m h e)

module _ (m : ℕ) (v : Values) (e : Endpoints) where
  pub mode-0 : m ≡ 0 → e ≡ luminance v.v0 v.v1 255 255 → e ≡ endpoints_of m v
  unfolding endpoints_of by_mode
  mode-0 k h = h ∙ rw k

  pub mode-1 : m ≡ 1 → e ≡ luminance_offset v.v0 v.v1 → e ≡ endpoints_of m v
  unfolding endpoints_of by_mode
  mode-1 k h = h ∙ rw k

  pub mode-4 : m ≡ 4 → e ≡ luminance v.v0 v.v1 v.v2 v.v3 → e ≡ endpoints_of m v
  unfolding endpoints_of by_mode
  mode-4 k h = h ∙ rw k

  pub mode-5 : m ≡ 5 → e ≡ luminance_alpha_offset v.v0 v.v1 v.v2 v.v3 → e ≡ endpoints_of m v
  unfolding endpoints_of by_mode
  mode-5 k h = h ∙ rw k

  pub mode-scaled : (x y : ℕ) → (m ≡ 6) ⊎ (m ≡ 10) → x ≡ cond (eqb m 6) 255 v.v4 → y ≡ cond (eqb m 6) 255 v.v5 → e ≡ scaled v x y → e ≡ endpoints_of m v
  unfolding endpoints_of by_mode
  mode-scaled x y k p q h = h ∙ rw (p, q) (⊎_elim (λ z. rw z) (λ z. rw z) k)

  pub mode-direct : (x y : ℕ) → (m ≡ 8) ⊎ (m ≡ 12) → x ≡ cond (eqb m 8) 255 v.v6 → y ≡ cond (eqb m 8) 255 v.v7 → e ≡ direct v x y → e ≡ endpoints_of m v
  unfolding endpoints_of by_mode
  mode-direct x y k p q h = h ∙ rw (p, q) (⊎_elim (λ z. rw z) (λ z. rw z) k)

  pub mode-offset : (t : Alphas) → (m ≡ 9) ⊎ (m ≡ 13) → t ≡ cond (eqb m 9) opaque_alphas (transferred_alphas v.v6 v.v7) → e ≡ offset v t.first t.second → e ≡ endpoints_of m v
  unfolding endpoints_of by_mode
  mode-offset t k p h = h ∙ rw p (⊎_elim (λ z. rw z) (λ z. rw z) k)
