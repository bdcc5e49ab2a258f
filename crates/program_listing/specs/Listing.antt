-- The line of a record. A record r is a footprint's width and height and a block's bytes; a short one has fewer.
-- Assumes nothing.
use Rattle.std.specs.Prelude.{List, ℕ, get_or, drop, replicate}
use Rattle.footprint.specs.Footprints.{footprint, most_texels}
use Rattle.block_map.specs.Answer.{answer_of}
use Rattle.block.specs.Block.{painted_of}
use Rattle.program_line.specs.Line.{line_of}

-- the answer, where there is room for so many words
abbrev pub answer_in : List ℕ → ℕ → ℕ
answer_in r room = answer_of (drop 2 r) (footprint (get_or r 0 0) (get_or r 1 0)) room

-- what the words hold afterwards
abbrev pub words_in : List ℕ → List ℕ → List ℕ
words_in r words = painted_of (drop 2 r) (footprint (get_or r 0 0) (get_or r 1 0)) words

-- the line of a record's number, its answer and its first texel's word; no block has more words than the largest footprint has texels
abbrev pub record_line : ℕ → List ℕ → List ℕ
record_line number r = line_of number (answer_in r most_texels) (get_or (words_in r (replicate most_texels 0)) 0 0)
