-- What the low configuration says: the number c of a block's bits 0..16, with several partitions 0..28.
-- Written from the ASTC chapter's sections "Block Mode" and "Color Endpoint Mode".
-- Assumes nothing.
use Rattle.std.specs.Prelude.{Bool, cond, ◌&&◌, ◌||◌, ℕ, ◌+◌, ◌-◌, ◌*◌, eqb}
use Rattle.bits.specs.Bits.{bits_at}
use Rattle.params_low.specs.Low.{conf_len}
use Rattle.params_modes.specs.Modes.{values_to}
use Rattle.params_config.specs.Ranges.{cost}
use Rattle.params_config.specs.declared.Grid.{Grid}
use Rattle.params_config.specs.declared.Partitions.{Partitions}
use Rattle.params_config.specs.declared.Config.{Config}

-- ---- the block mode, bits 0..10
unfoldable pub is_reserved : ℕ → Bool
is_reserved c = eqb (bits_at c 0 4) 0 || (eqb (bits_at c 0 2) 0 && eqb (bits_at c 6 3) 7)

abbrev pub grid : ℕ → ℕ → Grid
grid w h = record { width = w; height = h }

-- one of four, by a number 0, 1, 2 or 3
abbrev pub one_of : ℕ → Grid → Grid → Grid → Grid → Grid
one_of k a b c d = cond (eqb k 0) a (cond (eqb k 1) b (cond (eqb k 2) c d))

-- bits 1..0 are not 00: bits 3..2 choose
unfoldable pub grid_high : ℕ → Grid
grid_high c =
    let a = bits_at c 5 2 in
    let b = bits_at c 7 2 in
    one_of (bits_at c 2 2) (grid (b + 4) (a + 2)) (grid (b + 8) (a + 2)) (grid (a + 2) (b + 8))
    (cond (eqb (bits_at c 8 1) 0) (grid (a + 2) (bits_at c 7 1 + 6)) (grid (bits_at c 7 1 + 2) (a + 2)))

-- bits 1..0 are 00: bits 8..7 choose
unfoldable pub grid_low : ℕ → Grid
grid_low c =
    let a = bits_at c 5 2 in
    one_of (bits_at c 7 2) (grid 12 (a + 2)) (grid (a + 2) 12) (grid (a + 6) (bits_at c 9 2 + 6))
    (cond (eqb (bits_at c 5 1) 0) (grid 6 10) (grid 10 6))

unfoldable pub grid_of : ℕ → Grid
grid_of c = cond (eqb (bits_at c 0 2) 0) (grid_low c) (grid_high c)

-- bits 9 and 10 are a part of the grid's height there, and no H and D
unfoldable pub lacks_dh : ℕ → Bool
lacks_dh c = eqb (bits_at c 0 2) 0 && eqb (bits_at c 7 2) 2

unfoldable pub weight_r : ℕ → ℕ
weight_r c = bits_at c 4 1 + 2 * cond (eqb (bits_at c 0 2) 0) (bits_at c 2 2) (bits_at c 0 2)

unfoldable pub weight_h : ℕ → ℕ
weight_h c = cond (lacks_dh c) 0 (bits_at c 9 1)

unfoldable pub weight_d : ℕ → ℕ
weight_d c = cond (lacks_dh c) 0 (bits_at c 10 1)

-- the weights' range: 0..5 for R = 2..7, and 6 places further with H
abbrev pub weight_range : ℕ → ℕ
weight_range c = weight_r c - 2 + 6 * weight_h c

abbrev pub planes_of : ℕ → ℕ
planes_of c = 1 + weight_d c

-- ---- partitions and endpoint modes
unfoldable pub parts_of : ℕ → ℕ
parts_of c = bits_at c 11 2 + 1

-- the partition number, 0 with one partition
unfoldable pub number_of : ℕ → ℕ
number_of c = cond (eqb (parts_of c) 1) 0 (bits_at c 13 10)

-- the base of the modes. 0: one mode for all partitions
unfoldable pub mode_base : ℕ → ℕ
mode_base c = cond (eqb (parts_of c) 1) 0 (bits_at c 23 2)

-- the four lowest mode bits: bits 13..16 with one partition, and else bits 25..28
unfoldable pub low_modes : ℕ → ℕ
low_modes c = cond (eqb (parts_of c) 1) (bits_at c 13 4) (bits_at c 25 4)

-- the other mode bits, which stand below the weights: with a base, 3 for each partition less these 4
unfoldable pub extra_mode_bits : ℕ → ℕ → ℕ
extra_mode_bits parts base = cond (eqb base 0) 0 (3 * parts - 4)

-- what it says of the partitions. Their values are counted by the four lowest mode bits, for the classes of the modes stand there
unfoldable pub partitions_of : ℕ → Partitions
partitions_of c = record {
  parts = parts_of c;
  number = number_of c;
  base = mode_base c;
  low_modes = low_modes c;
  values = values_to (mode_base c) (low_modes c) (parts_of c);
  low_len = conf_len (parts_of c);
  mode_bits = extra_mode_bits (parts_of c) (mode_base c);
}

-- ---- all of it
unfoldable pub config_of : ℕ → Config
config_of c = record {
  width = (grid_of c).width;
  height = (grid_of c).height;
  weight_range = weight_range c;
  planes = planes_of c;
  parts = (partitions_of c).parts;
  number = (partitions_of c).number;
  base = (partitions_of c).base;
  low_modes = (partitions_of c).low_modes;
  values = (partitions_of c).values;
  low_len = (partitions_of c).low_len;
  mode_bits = (partitions_of c).mode_bits;
  weight_len = cost (weight_range c) ((grid_of c).width * (grid_of c).height * planes_of c);
}
