-- A grid of weights, and where the texels of its footprint lie between its points.
-- Written from the ASTC chapter's section "Weight Infill".
-- Assumes nothing.
use Rattle.std.specs.Prelude.{ℕ, ◌*◌, ◌/◌, ◌≤◌, ◌+◌, ◌-◌}
use Rattle.weights_grid.specs.declared.Grid.{Grid}
use Rattle.footprint.specs.Sides.{Sides}

-- how many values a grid has
abbrev pub count_of : Grid → ℕ
count_of g = g.width * g.height * g.planes

-- a grid that its footprint can have
pub record Fits (g : Grid) : Type 0 where
  pub sides : Sides g.footprint
  pub wide : (2 ≤ g.width) × (g.width ≤ g.footprint.width)
  pub high : (2 ≤ g.height) × (g.height ≤ g.footprint.height)
  pub planes : (1 ≤ g.planes) × (g.planes ≤ 2)
  pub few : count_of g ≤ 64

-- ---- places

-- the step from texel to texel of a side of n texels, in 1024ths of the side: the standard's Ds and Dt
unfoldable pub step_of : ℕ → ℕ
step_of n = (1024 + n / 2) / (n - 1)

-- where texel s of a side of n texels lies on a grid's side of m points, in sixteenths: gs and gt
unfoldable pub place_of : ℕ → ℕ → ℕ → ℕ
place_of n m s = (step_of n * s * (m - 1) + 32) / 64

-- where row t of the footprint lies
abbrev pub down_of : Grid → ℕ → ℕ
down_of g t = place_of g.footprint.height g.height t

-- a place, from the step d
abbrev pub placed : ℕ → ℕ → ℕ → ℕ
placed d m s = (d * s * (m - 1) + 32) / 64
