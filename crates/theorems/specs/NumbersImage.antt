-- Promises of the image as statements on the numbers and lists of their definitions alone: each allows one outcome (Tight says what that means). Beside
-- the other promises stands the same of what the functions give and take today: results, and values of types that hold what is asked of them.
-- Assumes nothing.
use Rattle.std.specs.Prelude.{◌≡◌, List, ℕ, ◌+◌, ◌-◌, ◌≤◌, length}
use Rattle.std.proofs.Common.{sym, ◌∙◌}
use Rattle.lanes.specs.Lanes.{joined_at}
use Rattle.image_shape.specs.Shapes.{total_of, texel_of, refusal_of, step_refusal}
use Rattle.image_shape.specs.declared.Shape.{Shape}
use Rattle.image_window.specs.Windows.{block_at, marked, is_in}
use Rattle.image_blocks.specs.Painted.{painted_blocks, bad_in}
use Rattle.image.specs.Image.{image_of}
use Rattle.astc_checks.specs.Checks.{options_refusal, places_refusal}
use Rattle.theorems.specs.Tight.{Tight, TightBoth, one, both}

pub total : (m : Shape) → Tight ℕ (λ r. (r ≡ total_of m) × (r ≤ 16867449))
total m r s p q = p.0 ∙ sym q.0

pub refusal : (m : Shape) (len room : ℕ) → Tight ℕ (λ r. r ≡ refusal_of m len room)
refusal m len room = one ℕ (refusal_of m len room)

pub step-refusal : (m : Shape) (next len blocks room : ℕ) → Tight ℕ (λ r. r ≡ step_refusal m next len blocks room)
step-refusal m next len blocks room = one ℕ (step_refusal m next len blocks room)

module _ (m : Shape) (x y : ℕ) (o : List ℕ) where
  pub copy-block : (lanes : List ℕ) → Tight (List ℕ) (λ out. out ≡ marked (is_in m (block_at m x y) (block_at m x y + 1)) (λ (k : ℕ). joined_at lanes (texel_of m k)) o)
  copy-block lanes = one (List ℕ) (marked (is_in m (block_at m x y) (block_at m x y + 1)) (λ (k : ℕ). joined_at lanes (texel_of m k)) o)

  pub fill-block : (word : ℕ) → Tight (List ℕ) (λ out. out ≡ marked (is_in m (block_at m x y) (block_at m x y + 1)) (λ (k : ℕ). word) o)
  fill-block word = one (List ℕ) (marked (is_in m (block_at m x y) (block_at m x y + 1)) (λ (k : ℕ). word) o)

pub paint-blocks : (d : List ℕ) (m : Shape) (first end : ℕ) (o : List ℕ)
    → TightBoth ℕ (List ℕ) (λ r out. (r ≡ bad_in d m first (end - first)) × (out ≡ painted_blocks d m first end o))
paint-blocks d m first end o = both ℕ (List ℕ) (bad_in d m first (end - first)) (painted_blocks d m first end o)

pub decode-astc : (d : List ℕ) (m : Shape) (o : List ℕ) → TightBoth ℕ (List ℕ) (λ a out. (a ≡ refusal_of m (length d) (length o)) × (out ≡ image_of d m o))
decode-astc d m o = both ℕ (List ℕ) (refusal_of m (length d) (length o)) (image_of d m o)

-- ---- the C surface
pub options-refusal : (options : ℕ) → Tight ℕ (λ r. r ≡ options_refusal options)
options-refusal options = one ℕ (options_refusal options)

pub places-refusal : (m : Shape) (len room places : ℕ) → Tight ℕ (λ r. r ≡ places_refusal m len room places)
places-refusal m len room places = one ℕ (places_refusal m len room places)
