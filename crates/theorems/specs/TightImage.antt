-- Each public promise of the image and of the C surface allows one outcome (Tight says what that means).
-- Assumes nothing.
use Rattle.std.specs.Prelude.{◌≡◌, List, ℕ, ◌+◌, ◌-◌, ◌≤◌, Result, IfOk, get_or, length}
use Rattle.std.proofs.Common.{sym, ◌∙◌}
use Rattle.laws.specs.Lists.{put}
use Rattle.answers.specs.Results.{refused}
use Rattle.answers.specs.ResultLaws.{one-refused}
use Rattle.answers.specs.declared.Refusal.{Refusal}
use Rattle.footprint.specs.Footprints.{footprint}
use Rattle.lanes.specs.Lanes.{joined_at}
use Rattle.block_map.specs.Answer.{answer_of, block_map}
use Rattle.block.specs.Block.{painted_of}
use Rattle.image_shape.specs.Shapes.{shape, along_of, total_of, texel_of, checked, refusal_of, step_refusal}
use Rattle.image_shape.specs.BoundedLaws.{one-checked}
use Rattle.image_shape.specs.declared.Bounded.{Bounded}
use Rattle.image_shape.specs.declared.Shape.{Shape}
use Rattle.image_window.specs.Windows.{block_at, marked, is_in}
use Rattle.image_blocks.specs.Painted.{painted_blocks, bad_in}
use Rattle.image.specs.Image.{image_of, step_of, stepped}
use Rattle.image.specs.declared.Cursor.{Cursor}
use Rattle.image.specs.declared.Step.{Step}
use Rattle.astc_checks.specs.Checks.{options_refusal, places_refusal}
use Rattle.astc_numbers.specs.Numbers.{map_answer_in, map_in, led_to}
use Rattle.astc.specs.Surface.{channels_answer, channels_in, floats_in, cursor, step_answer_in, stepped_in, moved_in}
use Rattle.theorems.specs.Tight.{Tight, TightBoth, TightThree, one, told, told-both, both, three}

-- ---- image
pub along : (n side : ℕ) → Tight ℕ (λ r. (r ≡ along_of n side) × (r ≤ 4107))
along n side r s p q = p.0 ∙ sym q.0

pub total : (m : Bounded) → Tight ℕ (λ r. (r ≡ total_of m.shape) × (r ≤ 16867449))
total m r s p q = p.0 ∙ sym q.0

pub refusal : (m : Shape) (len room : ℕ) → Tight (Result Bounded Refusal) (λ r. (checked r ≡ refusal_of m len room) × (IfOk r (λ b. b.shape ≡ m)))
refusal m len room r s p q = one-checked m r s (p.0 ∙ sym q.0) p.1 q.1

pub step-refusal : (m : Shape) (next len blocks room : ℕ) → Tight (Result Bounded Refusal) (λ r. (checked r ≡ step_refusal m next len blocks room) × (IfOk r (λ b. b.shape ≡ m)))
step-refusal m next len blocks room r s p q = one-checked m r s (p.0 ∙ sym q.0) p.1 q.1

module _ (m : Bounded) (x y : ℕ) (o : List ℕ) where
  pub copy-block : (lanes : List ℕ) → Tight (List ℕ) (λ out. out ≡ marked (is_in m.shape (block_at m.shape x y) (block_at m.shape x y + 1)) (λ (k : ℕ). joined_at lanes (texel_of m.shape k)) o)
  copy-block lanes = one (List ℕ) (marked (is_in m.shape (block_at m.shape x y) (block_at m.shape x y + 1)) (λ (k : ℕ). joined_at lanes (texel_of m.shape k)) o)

  pub fill-block : (word : ℕ) → Tight (List ℕ) (λ out. out ≡ marked (is_in m.shape (block_at m.shape x y) (block_at m.shape x y + 1)) (λ (k : ℕ). word) o)
  fill-block word = one (List ℕ) (marked (is_in m.shape (block_at m.shape x y) (block_at m.shape x y + 1)) (λ (k : ℕ). word) o)

pub paint-blocks : (d : List ℕ) (m : Bounded) (first end : ℕ) (o : List ℕ)
    → TightBoth ℕ (List ℕ) (λ r out. (r ≡ bad_in d m.shape first (end - first)) × (out ≡ painted_blocks d m.shape first end o))
paint-blocks d m first end o = both ℕ (List ℕ) (bad_in d m.shape first (end - first)) (painted_blocks d m.shape first end o)

pub decode-astc : (d : List ℕ) (m : Shape) (o : List ℕ) → TightBoth (Result (Unit {0}) Refusal) (List ℕ) (λ a out. (refused a ≡ refusal_of m (length d) (length o)) × (out ≡ image_of d m o))
decode-astc d m o = told-both (Result (Unit {0}) Refusal) (List ℕ) refused one-refused (refusal_of m (length d) (length o)) (image_of d m o)

pub step : (d : List ℕ) (c : Cursor) (blocks : ℕ) (o : List ℕ)
    → TightBoth Step (List ℕ) (λ r out. (r ≡ step_of d c blocks (length o)) × (out ≡ stepped d c blocks o))
step d c blocks o = both Step (List ℕ) (step_of d c blocks (length o)) (stepped d c blocks o)

-- ---- the C surface
pub options-refusal : (options : ℕ) → Tight (Result (Unit {0}) Refusal) (λ r. refused r ≡ options_refusal options)
options-refusal options = told (Result (Unit {0}) Refusal) refused one-refused (options_refusal options)

pub places-refusal : (m : Shape) (len room places : ℕ) → Tight (Result (Unit {0}) Refusal) (λ r. refused r ≡ places_refusal m len room places)
places-refusal m len room places = told (Result (Unit {0}) Refusal) refused one-refused (places_refusal m len room places)

pub put_map : (s : List ℕ) (bw bh : ℕ) (o : List ℕ)
    → TightBoth ℕ (List ℕ) (λ a map. (a ≡ map_answer_in (block_map s (footprint bw bh)) (length o)) × (map ≡ map_in (block_map s (footprint bw bh)) o))
put_map s bw bh o = both ℕ (List ℕ) (map_answer_in (block_map s (footprint bw bh)) (length o)) (map_in (block_map s (footprint bw bh)) o)

pub put-led : (next painted bad : ℕ) (o : List ℕ) → Tight (List ℕ) (λ moved. moved ≡ put (λ (k : ℕ). get_or (led_to next painted bad) k 0) 0 3 o)
put-led next painted bad o = one (List ℕ) (put (λ (k : ℕ). get_or (led_to next painted bad) k 0) 0 3 o)

module _ (bw bh : ℕ) where
  module _ (s : List ℕ) (o : List ℕ) where
    pub astc-decode-block : TightBoth ℕ (List ℕ) (λ a out. (a ≡ answer_of s (footprint bw bh) (length o)) × (out ≡ painted_of s (footprint bw bh) o))
    astc-decode-block = both ℕ (List ℕ) (answer_of s (footprint bw bh) (length o)) (painted_of s (footprint bw bh) o)

    pub astc-block-map : TightBoth ℕ (List ℕ) (λ a map. (a ≡ map_answer_in (block_map s (footprint bw bh)) (length o)) × (map ≡ map_in (block_map s (footprint bw bh)) o))
    astc-block-map = put_map s bw bh o

    pub astc-block-channels : (options : ℕ) (m : List ℕ)
        → TightThree ℕ (List ℕ) (List ℕ) (λ a out floats. (a ≡ channels_answer options s (footprint bw bh) (length o) (length m)) × (out ≡ channels_in options s (footprint bw bh) (length m) o) × (floats ≡ floats_in options s (footprint bw bh) (length o) m))
    astc-block-channels options m =
        three ℕ (List ℕ) (List ℕ) (channels_answer options s (footprint bw bh) (length o) (length m)) (channels_in options s (footprint bw bh) (length m) o) (floats_in options s (footprint bw bh) (length o) m)

  module _ (width height : ℕ) (d : List ℕ) (o : List ℕ) where
    pub astc-decode-image : TightBoth ℕ (List ℕ) (λ a out. (a ≡ refusal_of (shape width height bw bh) (length d) (length o)) × (out ≡ image_of d (shape width height bw bh) o))
    astc-decode-image = both ℕ (List ℕ) (refusal_of (shape width height bw bh) (length d) (length o)) (image_of d (shape width height bw bh) o)

    pub astc-image-step : (next blocks : ℕ) (l : List ℕ)
        → TightThree ℕ (List ℕ) (List ℕ) (λ a out moved. (a ≡ step_answer_in (cursor width height bw bh next) (length d) blocks (length o) (length l))
        × (out ≡ stepped_in d (cursor width height bw bh next) blocks (length l) o) × (moved ≡ moved_in d (cursor width height bw bh next) blocks (length o) l))
    astc-image-step next blocks l =
        three ℕ (List ℕ) (List ℕ) (step_answer_in (cursor width height bw bh next) (length d) blocks (length o) (length l))
        (stepped_in d (cursor width height bw bh next) blocks (length l) o) (moved_in d (cursor width height bw bh next) blocks (length o) l)
