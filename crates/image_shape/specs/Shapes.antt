-- An image's shape: its blocks row by row, the edge blocks clipped. The bytes d are sixteen for each block.
-- Assumes nothing.
use Rattle.std.specs.Prelude.{Bool, cond, not, ◌&&◌, List, ℕ, ◌+◌, ◌-◌, ◌*◌, ◌/◌, ◌%◌, eqb, leb, ltb, take, drop, Result, Ok, Err}
use Rattle.answers.specs.Answers.{not_listed, image_side, data_length, output_too_short, no_blocks, past_the_end}
use Rattle.answers.specs.Results.{refusal_number}
use Rattle.answers.specs.declared.Refusal.{Refusal}
use Rattle.footprint.specs.Footprints.{footprint, listed}
use Rattle.image_shape.specs.declared.Shape.{Shape}

abbrev pub shape : ℕ → ℕ → ℕ → ℕ → Shape
shape width height bw bh = record { width = width; height = height; footprint = footprint bw bh }

-- the blocks of a side along n pixels
abbrev pub along_of : ℕ → ℕ → ℕ
along_of n side = (n + (side - 1)) / side

-- the blocks of a row, and of a column
abbrev pub across_of : Shape → ℕ
across_of m = along_of m.width m.footprint.width

abbrev pub down_of : Shape → ℕ
down_of m = along_of m.height m.footprint.height

abbrev pub total_of : Shape → ℕ
total_of m = across_of m * down_of m

abbrev pub pixels_of : Shape → ℕ
pixels_of m = m.width * m.height

-- ---- pixel k, counted row by row: its block, and its texel there
abbrev pub block_of : Shape → ℕ → ℕ
block_of m k = k / m.width / m.footprint.height * across_of m + k % m.width / m.footprint.width

abbrev pub texel_of : Shape → ℕ → ℕ
texel_of m k = k / m.width % m.footprint.height * m.footprint.width + k % m.width % m.footprint.width

-- the sixteen bytes of block b
abbrev pub bytes_of : List ℕ → ℕ → List ℕ
bytes_of d b = take 16 (drop (16 * b) d)

-- ---- the checks
abbrev pub longest_side : ℕ
longest_side = 4096

abbrev pub is_side : ℕ → Bool
is_side n = leb 1 n && leb n longest_side

-- 0 where a check gives what it was asked for, and else why not
abbrev pub checked : {T : Type 0} → Result T Refusal → ℕ
checked (Ok value) = 0
checked (Err refusal) = refusal_number refusal

-- 0, or why no image has this shape
unfoldable pub shape_refusal : Shape → ℕ
shape_refusal m =
    cond (not (listed m.footprint)) not_listed
    (cond (not (is_side m.width && is_side m.height)) image_side
    0)

-- 0, or why an image of this shape with so many bytes and so much room is refused
unfoldable pub refusal_of : Shape → ℕ → ℕ → ℕ
refusal_of m len room =
    cond (not (listed m.footprint)) not_listed
    (cond (not (is_side m.width && is_side m.height)) image_side
    (cond (not (eqb len (16 * total_of m))) data_length
    (cond (ltb room (pixels_of m)) output_too_short
    0)))

-- and why a step of so many blocks from the block next on is
unfoldable pub step_refusal : Shape → ℕ → ℕ → ℕ → ℕ → ℕ
step_refusal m next len blocks room =
    let a = refusal_of m len room in
    cond (not (eqb a 0)) a
    (cond (eqb blocks 0) no_blocks
    (cond (ltb (total_of m) next) past_the_end
    0))
