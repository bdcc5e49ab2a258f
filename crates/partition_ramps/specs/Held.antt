-- A ramp as the code holds it.
-- Assumes nothing.
use Rattle.std.specs.Prelude.{◌≡◌, ℕ, ◌+◌, ◌-◌, ◌*◌, ◌/◌, ◌%◌, ◌^◌, ◌<◌, ◌≤◌}
use Rattle.partition_ramps.specs.Ramps.{hash52, shift_x, shift_y, factor, ramp}
use Rattle.partition_ramps.specs.declared.Ramp.{Ramp}

-- ramp i of a seed, its slopes times scale
unfoldable pub ramp_of : ℕ → ℕ → ℕ → ℕ → Ramp
ramp_of seed parts i scale =
    let r = hash52 seed in
    record { start = r / 2 ^ (14 - 4 * i) % 64; along = scale * factor r (8 * i) (shift_x seed parts); down = scale * factor r (8 * i + 4) (shift_y seed parts) }

-- no sum over a footprint leaves 16 bits
pub record Gentle (k : Ramp) : Type 0 where
  pub start : k.start < 64
  pub along : k.along ≤ 28
  pub down : k.down ≤ 28

-- the ramp's value at the start of row t
abbrev pub at_row : Ramp → ℕ → ℕ
at_row k t = (k.start + k.down * t) % 64

-- at column s of row t
abbrev pub ramp_at : Ramp → ℕ → ℕ → ℕ
ramp_at k s t = (at_row k t + k.along * s) % 64

-- k is ramp i of the seed, over coordinates times scale
pub record IsRamp (seed parts i scale : ℕ) (k : Ramp) : Type 0 where
  pub gentle : Gentle k
  pub value : (s t : ℕ) → ramp_at k s t ≡ ramp seed parts i (scale * s) (scale * t)
