-- The answer and the colour of a void block, as a word and as samples. v is the block's number of 128 bits.
-- Written from the ASTC chapter's section "Void-Extent Blocks"; the bytes of halves are the original's own.
-- Assumes nothing.
use Rattle.std.specs.Prelude.{cond, ℕ, ◌+◌, ◌*◌, eqb}
use Rattle.bits.specs.Bits.{bits_at}
use Rattle.answers.specs.Answers.{legal, void_extent}
use Rattle.half.specs.Half.{void_byte_of}
use Rattle.channels.specs.declared.Sample.{Sample}
use Rattle.channels.specs.declared.Sample.TheVariants.{Byte, Half}
use Rattle.channels.specs.declared.Samples.{Samples}
use Rattle.params_low.specs.Low.{is_void}
use Rattle.blend.specs.Blend.{word_of}

-- of any other block the answer 0 says that it is to be decoded
unfoldable pub void_answer : ℕ → ℕ
void_answer v = cond (is_void v) void_extent legal

-- four 16-bit numbers from bit 64 on: halves where bit 9 is set, and else the high byte of each
unfoldable pub void_word : ℕ → ℕ
void_word v =
    cond (eqb (bits_at v 9 1) 1)
    (word_of (void_byte_of (bits_at v 64 16)) (void_byte_of (bits_at v 80 16)) (void_byte_of (bits_at v 96 16)) (void_byte_of (bits_at v 112 16)))
    (word_of (bits_at v 72 8) (bits_at v 88 8) (bits_at v 104 8) (bits_at v 120 8))

-- its channel k, of 0 to 3 for red to alpha, and all four
unfoldable pub void_sample : ℕ → ℕ → Sample
void_sample v k = cond (eqb (bits_at v 9 1) 1) (Half (bits_at v (64 + 16 * k) 16)) (Byte (bits_at v (72 + 16 * k) 8))

abbrev pub void_samples : ℕ → Samples
void_samples v = record { r = void_sample v 0; g = void_sample v 1; b = void_sample v 2; a = void_sample v 3 }
