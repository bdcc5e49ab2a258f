-- The channels of a block's texels. v is the block's number of 128 bits, s its sixteen bytes.
-- Assumes nothing.
use Rattle.std.specs.Prelude.{cond, List, ℕ, ◌*◌, ◌/◌, min, eqb, ltb, length}
use Rattle.laws.specs.Lists.{put}
use Rattle.answers.specs.Answers.{legal, void_extent, block_length}
use Rattle.footprint.specs.Footprints.{texels_of}
use Rattle.footprint.specs.declared.Footprint.{Footprint}
use Rattle.channels.specs.Channels.{texel_of, marks_of}
use Rattle.channels.specs.declared.Sample.TheVariants.{Byte}
use Rattle.channels.specs.declared.Samples.{Samples}
use Rattle.params_rules.specs.Fields.{fields_of, answer}
use Rattle.params.specs.Params.{params_of}
use Rattle.params.specs.declared.Params.{Params}
use Rattle.texels_numbers.specs.Numbers.{numbers_by}
use Rattle.block_void.specs.Void.{void_samples}
use Rattle.block_refusal.specs.Refusal.{texel_refusal}
use Rattle.block_map.specs.Answer.{answer_of}
use Rattle.block_ordinary.specs.Ordinary.{ordinary_sample}
use Rattle.block.specs.Block.{block_bits}
use Rattle.block_channels.specs.declared.Answered.{Answered}

-- ---- the samples of a texel, by the block's kind
abbrev pub bytes_of : ℕ → ℕ → ℕ → ℕ → Samples
bytes_of r g b a = record { r = Byte r; g = Byte g; b = Byte b; a = Byte a }

abbrev pub magenta_samples : Samples
magenta_samples = bytes_of 255 0 255 255

-- of every texel of a block that is not legal, by its answer
abbrev pub samples_by : ℕ → ℕ → Samples
samples_by a v = cond (eqb a void_extent) (void_samples v) magenta_samples

-- of texel t of a legal block, by its parameters p
abbrev pub ordinary_samples : Params → ℕ → Footprint → ℕ → Samples
ordinary_samples p v foot t = record { r = ordinary_sample p v foot t 0; g = ordinary_sample p v foot t 1; b = ordinary_sample p v foot t 2; a = ordinary_sample p v foot t 3 }

-- of texel t of the block v at a listed footprint
unfoldable pub block_samples : ℕ → Footprint → ℕ → Samples
block_samples v foot t =
    let p = params_of v foot in
    cond (eqb p.answer legal) (ordinary_samples p v foot t) (samples_by p.answer v)

-- ---- all texels, as C reads them
abbrev pub number_at : List ℕ → Footprint → ℕ → ℕ
number_at s foot j = numbers_by (block_samples (block_bits s) foot) j

abbrev pub marks_at : List ℕ → Footprint → ℕ → ℕ
marks_at s foot t = marks_of (block_samples (block_bits s) foot t)

-- the texels for which two outputs of so many places have room
abbrev pub room_of : ℕ → ℕ → ℕ
room_of places marks = min (places / 4) marks

-- what the two outputs hold after they were `out` and `floats`
unfoldable pub numbers_of : List ℕ → Footprint → ℕ → List ℕ → List ℕ
numbers_of s foot marks out = cond (ltb (answer_of s foot (room_of (length out) marks)) block_length) (put (number_at s foot) 0 (4 * texels_of foot) out) out

unfoldable pub marks_in : List ℕ → Footprint → ℕ → List ℕ → List ℕ
marks_in s foot places floats = cond (ltb (answer_of s foot (room_of places (length floats))) block_length) (put (marks_at s foot) 0 (texels_of foot) floats) floats

-- ---- one texel, by value
abbrev pub answered_at : List ℕ → Footprint → ℕ → Answered
answered_at s foot t = record { answer = answer (fields_of (block_bits s)) foot; texel = texel_of (block_samples (block_bits s) foot t) }

abbrev pub refused_by : ℕ → Answered
refused_by a = record { answer = a; texel = texel_of (bytes_of 0 0 0 0) }

unfoldable pub texel_answered : List ℕ → Footprint → ℕ → Answered
texel_answered s foot t = let a = texel_refusal (length s) foot t in cond (eqb a 0) (answered_at s foot t) (refused_by a)
