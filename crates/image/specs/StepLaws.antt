-- The ways out of an image and of a step.
-- Assumes nothing.
use Rattle.std.specs.Prelude.{◌≡◌, refl, Bool, true, false, cond, List, ℕ, ◌+◌, ◌-◌, ◌<◌, min, eqb, length}
use Rattle.std.proofs.Math.Path.{sym}
use Rattle.std.proofs.Common.{◌∙◌}
use native.Mathlib.Omega.{arith}
use borrow.Author.Tests.{eq-eqb, ne_eqb, eqb-true}
use Rattle.image_shape.specs.Shapes.{total_of, refusal_of}
use Rattle.image_shape.specs.ShapeLaws.{step_small as step-small-answer}
use Rattle.image_shape.specs.declared.Shape.{Shape}
use Rattle.image_blocks.specs.Painted.{painted_blocks, bad_in}
use Rattle.image.specs.Image.{image_of, step_answer, painted_by, moved_by, refused_at, step_of, stepped}
use Rattle.image.specs.declared.Cursor.{Cursor}
use Rattle.image.specs.declared.Step.{Step}

-- ---- the whole image
module _ (d : List ℕ) (m : Shape) (out : List ℕ) (a : ℕ) (e : a ≡ refusal_of m (length d) (length out)) where
  pub image-refused : (a ≡ 0 → ⊥) → out ≡ image_of d m out
  unfolding image_of
  image-refused n = rw (ne_eqb (refusal_of m (length d) (length out)) 0 (λ z. n (e ∙ z)))

  pub image-painted : (end : ℕ) (now : List ℕ) → a ≡ 0 → end ≡ total_of m → now ≡ painted_blocks d m 0 end out → now ≡ image_of d m out
  unfolding image_of
  image-painted end now z t p = rw (eq-eqb (refusal_of m (length d) (length out)) 0 (sym e ∙ z)) (rw t at p)

-- ---- a step
module _ (d : List ℕ) (c : Cursor) (blocks : ℕ) (out : List ℕ) where
  abbrev Outcome : Step → List ℕ → Type 0
  Outcome r now = (r ≡ step_of d c blocks (length out)) × (now ≡ stepped d c blocks out)

  module _ (a : ℕ) (e : a ≡ step_answer c (length d) blocks (length out)) where
    pub step-refused : (r : Step) → (a ≡ 0 → ⊥) → r ≡ refused_at c a → Outcome r out
    unfolding step_of stepped
    step-refused r n x = rw (sym e, ne_eqb a 0 n) (x, refl)

    pub step-painted : (r : Step) (t n bad : ℕ) (now : List ℕ) → a ≡ 0 → t ≡ total_of c.shape → n ≡ min blocks (t - c.next)
        → bad ≡ bad_in d c.shape c.next (c.next + n - c.next) → now ≡ painted_blocks d c.shape c.next (c.next + n) out → r ≡ moved_by c n bad → Outcome r now
    unfolding step_of stepped
    step-painted r t n bad now z y en eb ep x =
        let k : n ≡ painted_by c blocks = en ∙ rw y in
        let s : c.next + n - c.next ≡ n = omega arith in
        let f : bad ≡ bad_in d c.shape c.next n = rw s at eb in
        rw (sym e, z, sym k) (x ∙ rw f, ep)

-- no answer is larger
pub step_small : (d : List ℕ) (c : Cursor) (blocks room : ℕ) → (step_of d c blocks room).answer < 35
unfolding step_of moved_by refused_at
step_small d c blocks room = go (eqb (step_answer c (length d) blocks room) 0)
  where
    go : (t : Bool) → (cond t (moved_by c (painted_by c blocks) (bad_in d c.shape c.next (painted_by c blocks))) (refused_at c (step_answer c (length d) blocks room))).answer < 35
    go true = omega arith
    go false = step-small-answer c.shape c.next (length d) blocks room

-- a step's answer is the step's
pub step-answer : (d : List ℕ) (c : Cursor) (blocks room : ℕ) → (step_of d c blocks room).answer ≡ step_answer c (length d) blocks room
unfolding step_of moved_by refused_at
step-answer d c blocks room = go (step_answer c (length d) blocks room) (eqb (step_answer c (length d) blocks room) 0) refl
  where
    go : (a : ℕ) (t : Bool) → eqb a 0 ≡ t → (cond t (moved_by c (painted_by c blocks) (bad_in d c.shape c.next (painted_by c blocks))) (refused_at c a)).answer ≡ a
    go a true e = sym (eqb-true a 0 e)
    go a false e = refl
