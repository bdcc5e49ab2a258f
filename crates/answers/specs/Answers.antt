-- The numbers that calls answer, by the table of docs/SCOPE.md.
-- Assumes nothing.
use Rattle.std.specs.Prelude.{Bool, ℕ, leb}

-- ---- a block that is painted in its own colours
abbrev pub legal : ℕ
legal = 0

abbrev pub void_extent : ℕ
void_extent = 1

-- ---- a block that breaks a rule and is painted magenta
abbrev pub reserved_mode : ℕ
reserved_mode = 10

abbrev pub grid_too_large : ℕ
grid_too_large = 11

abbrev pub too_many_weights : ℕ
too_many_weights = 12

abbrev pub weight_bits : ℕ
weight_bits = 13

abbrev pub dual_plane_of_four : ℕ
dual_plane_of_four = 14

abbrev pub too_many_values : ℕ
too_many_values = 15

abbrev pub too_little_room : ℕ
too_little_room = 16

-- ---- a call that is refused: nothing is written
abbrev pub block_length : ℕ
block_length = 20

abbrev pub not_listed : ℕ
not_listed = 21

abbrev pub output_too_short : ℕ
output_too_short = 22

abbrev pub bad_options : ℕ
bad_options = 23

abbrev pub image_side : ℕ
image_side = 30

abbrev pub data_length : ℕ
data_length = 31

abbrev pub no_position : ℕ
no_position = 32

abbrev pub no_blocks : ℕ
no_blocks = 33

abbrev pub past_the_end : ℕ
past_the_end = 34

-- ---- the answer of a block says that it breaks a rule
unfoldable pub is_bad : ℕ → Bool
is_bad a = leb reserved_mode a
