-- The words of a block's texels. v is the block's number of 128 bits, s its sixteen bytes.
-- Assumes nothing.
use Rattle.std.specs.Prelude.{cond, List, ℕ, eqb, ltb, length}
use Rattle.laws.specs.Lists.{put}
use Rattle.bits.specs.Bits.{bytes}
use Rattle.answers.specs.Answers.{legal, void_extent, block_length}
use Rattle.footprint.specs.Footprints.{texels_of}
use Rattle.footprint.specs.declared.Footprint.{Footprint}
use Rattle.params.specs.Params.{params_of}
use Rattle.params.specs.declared.Params.{Params}
use Rattle.blend.specs.Blend.{word_of}
use Rattle.block_void.specs.Void.{void_word}
use Rattle.block_ordinary.specs.Ordinary.{ordinary_word}
use Rattle.block_map.specs.Answer.{answer_of}

-- the 128 bits of the block of sixteen bytes, as one number
abbrev pub block_bits : List ℕ → ℕ
block_bits s = bytes 16 s

-- ---- the word of a texel, by the block's kind
abbrev pub magenta : ℕ
magenta = word_of 255 0 255 255

-- the one word of a block that is not legal, by its answer
unfoldable pub colour_of : ℕ → ℕ → ℕ
colour_of a v = cond (eqb a void_extent) (void_word v) magenta

-- of the parameters p of the block v
unfoldable pub word_of_params : Params → ℕ → Footprint → ℕ → ℕ
word_of_params p v foot t = cond (eqb p.answer legal) (ordinary_word p v foot t) (colour_of p.answer v)

-- the word of texel t of the block v at a listed footprint
unfoldable pub block_word : ℕ → Footprint → ℕ → ℕ
block_word v foot t = word_of_params (params_of v foot) v foot t

-- the same by its bytes
unfoldable pub word_at : List ℕ → Footprint → ℕ → ℕ
word_at s foot t = block_word (block_bits s) foot t

-- ---- the entry point: what the output holds after it was `out`
unfoldable pub painted_of : List ℕ → Footprint → List ℕ → List ℕ
painted_of s foot out = cond (ltb (answer_of s foot (length out)) block_length) (put (word_at s foot) 0 (texels_of foot) out) out
