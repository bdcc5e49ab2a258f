-- Values that the definitions are held to: infilled weights, as the original computes them. Each is computed.
-- Assumes nothing.
use Rattle.std.specs.Prelude.{◌≡◌, refl, List, [], ◌∷◌, ℕ, take, drop}
use Rattle.laws.specs.Lists.{list_of}
use Rattle.sequence_ranges.specs.Ranges.{range_of, ranges}
use Rattle.sequence_ranges.specs.Patterns.{copies, repeated, spelt}
use Rattle.weights_unquantise.specs.Unquantise.{alone, table, joined, digit, expanded, raised, weight_of}
use Rattle.weights_grid.specs.Grids.{step_of, place_of}
use Rattle.weights_infill.specs.Infill.{factors, dot, infilled, infill_at, texel_of, infill_of}
use Rattle.weights.specs.Weights.{grid_of, weight_at, weights_of}
use Rattle.weights_grid.specs.declared.Grid.{Grid}
use Rattle.footprint.specs.Footprints.{footprint, most_texels}

-- two planes of 3x2 points in 6x5 texels; one of 4x3 in 4x4
abbrev dual : Grid
dual = record { footprint = footprint 6 5; width = 3; height = 2; planes = 2 }

abbrev single : Grid
single = record { footprint = footprint 4 4; width = 4; height = 3; planes = 1 }

abbrev dual_seq : List ℕ
dual_seq = 0 ∷ 5 ∷ 3 ∷ 1 ∷ 4 ∷ 2 ∷ 5 ∷ 0 ∷ 1 ∷ 2 ∷ 3 ∷ 4 ∷ []

abbrev single_seq : List ℕ
single_seq = 7 ∷ 1 ∷ 3 ∷ 2 ∷ 6 ∷ 0 ∷ 5 ∷ 4 ∷ 1 ∷ 7 ∷ 2 ∷ 3 ∷ []

pub record Values : Type 0 where
  -- the first row of each plane, the last texel of the second, and what follows it
  pub plane-0 : take 6 (weights_of dual 4 dual_seq) ≡ 0 ∷ 20 ∷ 42 ∷ 47 ∷ 35 ∷ 25 ∷ []
  pub plane-1 : take 6 (drop most_texels (weights_of dual 4 dual_seq)) ≡ 39 ∷ 48 ∷ 59 ∷ 54 ∷ 32 ∷ 12 ∷ []
  pub last : take 3 (drop 172 (weights_of dual 4 dual_seq)) ≡ 20 ∷ 25 ∷ 0 ∷ []
  pub rows : take 17 (weights_of single 5 single_seq) ≡ 64 ∷ 9 ∷ 27 ∷ 18 ∷ 58 ∷ 3 ∷ 40 ∷ 31 ∷ 41 ∷ 20 ∷ 37 ∷ 34 ∷ 9 ∷ 64 ∷ 18 ∷ 27 ∷ 0 ∷ []
  pub texel : weight_at dual 4 dual_seq 1 7 ≡ 37

pub values : Values
unfolding list_of ranges range_of copies repeated alone spelt table joined digit expanded raised weight_of step_of place_of factors dot infilled infill_at texel_of infill_of grid_of weight_at weights_of
values =
    record {
      plane-0 = refl;
      plane-1 = refl;
      last = refl;
      rows = refl;
      texel = refl;
    }
