-- What the functions of this layer are given.
-- Assumes nothing.
use Rattle.std.specs.Prelude.{◌≡◌, List, ℕ, ◌≤◌, ◌<◌, get_or, replicate}
use Rattle.sequence_ranges.specs.Ranges.{range_of, levels}
use Rattle.weights_grid.specs.Grids.{count_of, Fits}
use Rattle.weights_grid.specs.declared.Grid.{Grid}
use Rattle.footprint.specs.Footprints.{most_weights}

-- a sequence of a grid's values of range q, and 0 after them. (`get_or` is 0 past the end of a list as well.)
pub record Encoded (g : Grid) (q : ℕ) (seq : List ℕ) : Type 0 where
  pub range : q < 12
  pub below : (k : ℕ) → get_or seq k 0 < levels (range_of q)
  pub past : (k : ℕ) → count_of g ≤ k → get_or seq k 0 ≡ 0

-- what `decode_weights` is given: the grid, its encoded weights of range q, and an output of zeros
pub record WeightsGiven (g : Grid) (q : ℕ) (seq out : List ℕ) : Type 0 where
  pub fits : Fits g
  pub encoded : Encoded g q seq
  pub clear : out ≡ replicate most_weights 0
