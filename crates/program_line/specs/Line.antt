-- The line of a listed block. A text is a list of bytes, in ASCII.
-- Assumes nothing.
use Rattle.std.specs.Prelude.{cond, List, [], ◌∷◌, ◌++◌, ℕ, ◌/◌, ◌%◌, ltb}
use Rattle.answers.specs.Answers.{block_length}
use Rattle.program_text.specs.Text.{decimal}

-- a space and a number
abbrev pub field_of : ℕ → List ℕ
field_of n = 32 ∷ decimal n

-- red, green, blue and alpha of a word
abbrev pub colour_of : ℕ → List ℕ
colour_of w = field_of (w / 65536 % 256) ++ field_of (w / 256 % 256) ++ field_of (w % 256) ++ field_of (w / 16777216)

-- the number, the answer, the colour of the first texel's word where the block was painted, and a newline
unfoldable pub line_of : ℕ → ℕ → ℕ → List ℕ
line_of number answer word = decimal number ++ field_of answer ++ cond (ltb answer block_length) (colour_of word) [] ++ (10 ∷ [])
