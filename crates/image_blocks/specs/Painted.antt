-- An image's pixels, painted block by block. The bytes d are sixteen for each block.
-- Assumes nothing.
use Rattle.std.specs.Prelude.{cond, List, ℕ, zero, suc, ◌+◌}
use Rattle.answers.specs.Answers.{is_bad}
use Rattle.block_map.specs.Answer.{map_answer}
use Rattle.block.specs.Block.{word_at}
use Rattle.image_shape.specs.Shapes.{block_of, texel_of, bytes_of}
use Rattle.image_shape.specs.declared.Shape.{Shape}
use Rattle.image_window.specs.Windows.{marked, is_in}

-- the word of pixel k: from its block's sixteen bytes alone
unfoldable pub pixel_word : List ℕ → Shape → ℕ → ℕ
pixel_word d m k = word_at (bytes_of d (block_of m k)) m.footprint (texel_of m k)

-- the output after the blocks from i to before j were painted: the words of their pixels, and all others as they were
unfoldable pub painted_blocks : List ℕ → Shape → ℕ → ℕ → List ℕ → List ℕ
painted_blocks d m i j out = marked (is_in m i j) (pixel_word d m) out

-- how many of the n blocks from i on break a rule
unfoldable pub bad_in : List ℕ → Shape → ℕ → ℕ → ℕ
bad_in d m i zero = 0
bad_in d m i (suc n) = bad_in d m i n + cond (is_bad (map_answer (bytes_of d (i + n)) m.footprint)) 1 0
