-- What the code computes, in the code's own forms. The laws say that each equals what the standard asks.
-- Assumes nothing.
use Rattle.std.specs.Prelude.{◌≡◌, cond, List, [], ◌∷◌, ℕ, ◌*◌, ◌/◌, ◌%◌, ◌≤◌, ◌+◌, ltb, get_or}
use Rattle.laws.specs.Lists.{list_of}
use Rattle.weights_grid.specs.Grids.{place_of, down_of, count_of}
use Rattle.weights_infill.specs.Infill.{factors, infilled, infill_at}
use Rattle.weights_grid.specs.declared.Grid.{Grid}
use Rattle.footprint.specs.Footprints.{texels_of, most_weights}

-- the place in the grid's sequence of the weight of plane p in row j, left of column s
abbrev pub left_of : Grid → ℕ → ℕ → ℕ → ℕ
left_of g p s j = (place_of g.footprint.width g.width s / 16 + j * g.width) * g.planes + p

-- each weight of a sequence and the next of its plane, as two bytes of a number
abbrev pub pair_of : ℕ → List ℕ → ℕ → ℕ
pair_of planes wv k = get_or wv k 0 + 256 * get_or wv (k + planes) 0

-- the weight at a place of such pairs
abbrev pub low_of : List ℕ → ℕ → ℕ
low_of next k = get_or next k 0 % 256

-- a sequence of such pairs, of a grid's weights
pub record Pairs (g : Grid) (next : List ℕ) : Type 0 where
  pub pair : (k : ℕ) → get_or next k 0 ≡ low_of next k + 256 * low_of next (k + g.planes)
  pub past : (k : ℕ) → count_of g ≤ k → get_or next k 0 ≡ 0

-- the pairs at the footprint's columns: a row of the grid takes 16 places, of which those past the footprint are 0
unfoldable pub spread_at : Grid → List ℕ → ℕ → ℕ → ℕ
spread_at g next p i = cond (ltb (i % 16) g.footprint.width) (get_or next (left_of g p (i % 16) (i / 16)) 0) 0

-- the weight between the pairs a above and b below, f and h sixteenths beyond the first
unfoldable pub between : ℕ → ℕ → ℕ → ℕ → ℕ
between a b f h = infilled (factors f h) (a % 256 ∷ a / 256 ∷ b % 256 ∷ b / 256 ∷ [])

-- the weight of column s in a row between two rows of pairs, of which the upper starts at j
unfoldable pub row_at : List ℕ → List ℕ → ℕ → ℕ → ℕ → ℕ
row_at pairs part j h s = between (get_or pairs (j + s) 0) (get_or pairs (j + 16 + s) 0) (get_or part s 0) h

-- the weight of column s in row t, between the rows of pairs that it lies between
abbrev pub rows_of : Grid → List ℕ → List ℕ → ℕ → ℕ → ℕ
rows_of g pairs part s t = row_at pairs part (down_of g t / 16 * 16) (down_of g t % 16) s

-- ---- the whole footprint

-- the weights of a footprint's texels, and 0 after them, f s t being that of column s in row t
unfoldable pub texels : Grid → (ℕ → ℕ → ℕ) → List ℕ
texels g f = list_of (λ (i : ℕ). cond (ltb i (texels_of g.footprint)) (f (i % g.footprint.width) (i / g.footprint.width)) 0) 0 most_weights

-- the weights of one plane
abbrev pub plane_of : Grid → (ℕ → ℕ) → ℕ → List ℕ
plane_of g at p = texels g (infill_at g at p)
