-- A grid that is the footprint, in two planes: what the code tells apart.
-- Assumes nothing.
use Rattle.std.specs.Prelude.{cond, List, ℕ, ◌*◌, ◌/◌, ◌%◌, ◌+◌, ltb, get_or}
use Rattle.footprint.specs.Footprints.{most_texels}

-- the weights of the first i texels of each plane, which stand in turns in wv, and 0 after them
abbrev pub parted_to : List ℕ → ℕ → ℕ → ℕ
parted_to wv i k = cond (ltb (k % most_texels) i) (get_or wv (2 * (k % most_texels) + k / most_texels) 0) 0
