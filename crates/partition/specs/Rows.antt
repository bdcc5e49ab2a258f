-- The partition of a texel by two ramps or by four, as the code finds it row by row.
-- Assumes nothing.
use Rattle.std.specs.Prelude.{ℕ, ◌+◌, ◌*◌, ◌%◌}
use Rattle.partition_ramps.specs.Held.{at_row, ramp_at}
use Rattle.partition_ramps.specs.declared.Ramp.{Ramp}
use Rattle.partition.specs.Partition.{largest}

-- the ramp's value at column s of the row that it starts
abbrev pub in_row : Ramp → ℕ → ℕ
in_row k s = (k.start + k.along * s) % 64

-- the ramp that starts where k does in row t
abbrev pub moved_to : Ramp → ℕ → Ramp
moved_to k t = record { start = at_row k t; along = k.along; down = k.down }

-- the partition at column s of the row that the ramps start
abbrev pub in_row_of_two : Ramp → Ramp → ℕ → ℕ
in_row_of_two a b s = largest (in_row a s) (in_row b s) 0 0

abbrev pub in_row_of_four : Ramp → Ramp → Ramp → Ramp → ℕ → ℕ
in_row_of_four a b c d s = largest (in_row a s) (in_row b s) (in_row c s) (in_row d s)

-- at column s of row t
unfoldable pub of_two : Ramp → Ramp → ℕ → ℕ → ℕ
of_two a b s t = largest (ramp_at a s t) (ramp_at b s t) 0 0

unfoldable pub of_four : Ramp → Ramp → Ramp → Ramp → ℕ → ℕ → ℕ
of_four a b c d s t = largest (ramp_at a s t) (ramp_at b s t) (ramp_at c s t) (ramp_at d s t)
