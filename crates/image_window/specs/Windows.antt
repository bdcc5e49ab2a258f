-- Where a block's pixels stand in an image, and lists with some places filled anew.
-- Assumes nothing.
use Rattle.std.specs.Prelude.{Bool, cond, ◌&&◌, List, ℕ, zero, suc, ◌+◌, ◌-◌, ◌*◌, ◌/◌, ◌%◌, ◌≤◌, ◌<◌, min, leb, ltb}
use Rattle.laws.specs.Lists.{put_at, map_at}
use Rattle.image_shape.specs.Shapes.{across_of, down_of, pixels_of, block_of}
use Rattle.image_shape.specs.declared.Shape.{Shape}
use Rattle.image_window.specs.declared.Window.{Window}

-- ---- a block's window
-- the first column and row of block b, and how many it has in the image
abbrev pub left_of : Shape → ℕ → ℕ
left_of m b = b % across_of m * m.footprint.width

abbrev pub top_of : Shape → ℕ → ℕ
top_of m b = b / across_of m * m.footprint.height

abbrev pub columns_of : Shape → ℕ → ℕ
columns_of m b = min m.footprint.width (m.width - left_of m b)

abbrev pub rows_of : Shape → ℕ → ℕ
rows_of m b = min m.footprint.height (m.height - top_of m b)

-- where its row r starts
abbrev pub row_at : Shape → ℕ → ℕ → ℕ
row_at m b r = (top_of m b + r) * m.width + left_of m b

abbrev pub window_of : Shape → ℕ → Window
window_of m b = record { at = top_of m b * m.width + left_of m b; columns = columns_of m b; rows = rows_of m b }

-- a block by its column and row
abbrev pub block_at : Shape → ℕ → ℕ → ℕ
block_at m x y = y * across_of m + x

pub record Inside (m : Shape) (x y : ℕ) : Type 0 where
  pub column : x < across_of m
  pub row : y < down_of m

-- ---- filling
-- the first n places of the first r rows, which start width apart from one place on, filled by row and column
unfoldable pub rows_put : (ℕ → ℕ → ℕ) → ℕ → ℕ → ℕ → ℕ → List ℕ → List ℕ
rows_put g at width n zero s = s
rows_put g at width n (suc r) s = put_at (g r) (at + r * width) n (rows_put g at width n r s)

-- all of them are among len places
abbrev pub RowsFit : ℕ → ℕ → ℕ → ℕ → ℕ → Type 0
RowsFit at width n rows len = (r : ℕ) → r < rows → at + r * width + n ≤ len

-- the list s with f k at each of its places k that pass the test p
unfoldable pub marked : (ℕ → Bool) → (ℕ → ℕ) → List ℕ → List ℕ
marked p f s = map_at (λ (k x : ℕ). cond (p k) (f k) x) 0 s

-- pixel k is one of a block from i to before j
unfoldable pub is_in : Shape → ℕ → ℕ → ℕ → Bool
is_in m i j k = ltb k (pixels_of m) && (leb i (block_of m k) && ltb (block_of m k) j)
