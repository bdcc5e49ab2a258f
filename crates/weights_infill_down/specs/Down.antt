-- What the code computes where a grid of one plane is as wide as its footprint.
-- Assumes nothing.
use Rattle.std.specs.Prelude.{List, ℕ, ◌*◌, ◌/◌, ◌%◌, ◌+◌, ◌-◌, get_or}
use Rattle.weights_grid.specs.Grids.{down_of}
use Rattle.weights_grid.specs.declared.Grid.{Grid}

-- the weight between a above and b below, h sixteenths beyond a
abbrev pub down_to : ℕ → ℕ → ℕ → ℕ
down_to a b h = (a * (16 - h) + b * h + 8) / 16

-- the weight of column s in a row between two rows of the grid, of which the upper starts at k
abbrev pub whole_at : List ℕ → ℕ → ℕ → ℕ → ℕ → ℕ
whole_at wv width k h s = down_to (get_or wv (k + s) 0) (get_or wv (k + width + s) 0) h

-- the weight of column s in row t
abbrev pub whole_of : Grid → List ℕ → ℕ → ℕ → ℕ
whole_of g wv s t = whole_at wv g.width (down_of g t / 16 * g.width) (down_of g t % 16) s
