-- An image painted whole, and in steps. The bytes d are sixteen for each block.
-- Assumes nothing.
use Rattle.std.specs.Prelude.{cond, List, ℕ, ◌+◌, ◌-◌, min, eqb, length}
use Rattle.image_shape.specs.Shapes.{total_of, refusal_of, step_refusal}
use Rattle.image_shape.specs.declared.Shape.{Shape}
use Rattle.image_blocks.specs.Painted.{painted_blocks, bad_in}
use Rattle.image.specs.declared.Cursor.{Cursor}
use Rattle.image.specs.declared.Step.{Step}

-- ---- the whole image
unfoldable pub image_of : List ℕ → Shape → List ℕ → List ℕ
image_of d m out = cond (eqb (refusal_of m (length d) (length out)) 0) (painted_blocks d m 0 (total_of m) out) out

-- ---- steps
abbrev pub step_answer : Cursor → ℕ → ℕ → ℕ → ℕ
step_answer c len blocks room = step_refusal c.shape c.next len blocks room

-- how many blocks an accepted step paints: those asked for, or those left
abbrev pub painted_by : Cursor → ℕ → ℕ
painted_by c blocks = min blocks (total_of c.shape - c.next)

unfoldable pub moved_by : Cursor → ℕ → ℕ → Step
moved_by c n bad = record {
  answer = 0;
  cursor = record { shape = c.shape; next = c.next + n };
  painted = n;
  bad = bad;
}

-- a refused step hands the cursor back as given
unfoldable pub refused_at : Cursor → ℕ → Step
refused_at c a = record { answer = a; cursor = c; painted = 0; bad = 0 }

unfoldable pub step_of : List ℕ → Cursor → ℕ → ℕ → Step
step_of d c blocks room =
    let a = step_answer c (length d) blocks room in
    let n = painted_by c blocks in
    cond (eqb a 0) (moved_by c n (bad_in d c.shape c.next n)) (refused_at c a)

-- what the output holds afterwards
unfoldable pub stepped : List ℕ → Cursor → ℕ → List ℕ → List ℕ
stepped d c blocks out =
    cond (eqb (step_answer c (length d) blocks (length out)) 0) (painted_blocks d c.shape c.next (c.next + painted_by c blocks) out) out
