-- What painting is given: `applicate_color`, and the functions for LDR and HDR texels.
-- Assumes nothing.
use Rattle.std.specs.Prelude.{List, ℕ, ◌≤◌, ◌<◌, get_or}
use Rattle.footprint.specs.Footprints.{most_texels}
use Rattle.endpoints_colours.specs.Bounds.{InLimits}
use Rattle.endpoints_colours.specs.Colours.{nothing}
use Rattle.endpoints_colours.specs.declared.Endpoints.{Endpoints}

-- n texels in a number of partitions and planes, with the endpoints, weights and partitions that the layers below make
pub record PaintGiven (n parts planes : ℕ) (ends : List Endpoints) (weights partitions : List ℕ) : Type 0 where
  pub few : n ≤ most_texels
  pub some : 1 ≤ parts
  pub four : parts ≤ 4
  pub dual : (1 ≤ planes) × (planes ≤ 2)
  pub within : (i : ℕ) → InLimits (get_or ends i nothing)
  pub light : (i : ℕ) → get_or weights i 0 ≤ 64
  pub mapped : (i : ℕ) → get_or partitions i 0 < parts
