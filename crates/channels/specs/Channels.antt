-- A texel's channel, decoded as a byte or as a half: the value that is answered, the number that C reads, and the byte that it is reduced to.
-- Assumes nothing.
use Rattle.std.specs.Prelude.{ℕ, ◌+◌, ◌*◌, ◌/◌, ◌%◌, min, cond, ltb, Float as Ieee}
use Rattle.std.specs.Float.{nan, inf, fin, binary32}
use Rattle.std.specs.Float.Ieee.{up, down, to_bits}
use Rattle.half.specs.Half.{half}
use Rattle.channels.specs.declared.Sample.{Sample}
use Rattle.channels.specs.declared.Sample.TheVariants.{Byte as SampleByte, Half}
use Rattle.channels.specs.declared.Samples.{Samples}
use Rattle.channels.specs.declared.Channel.{Channel}
use Rattle.channels.specs.declared.Channel.TheVariants.{Byte, Float}
use Rattle.channels.specs.declared.Texel.{Texel}
use Rattle.channels.specs.declared.Rule.{Rule}
use Rattle.channels.specs.declared.Rule.TheVariants.{Ordinary, Void}

-- ---- halves
-- the largest finite half, 65504, in place of infinity and of every NaN, for halves with no sign
abbrev pub finite : ℕ → ℕ
finite h = min h 0x7bff

-- The 32 bits of the float that equals the half h. A NaN has no bits of its own in the logic, which knows one NaN: here it is the quiet one
-- with the half's sign.
unfoldable pub float_bits : ℕ → ℕ
float_bits h = cond (ltb 0x7c00 (h % 32768)) (h / 32768 * 0x8000_0000 + 0x7fc0_0000) (to_bits binary32 (half h))

-- ---- what a channel comes to
-- the value that is answered
abbrev pub channel_of : Sample → Channel
channel_of (SampleByte b) = Byte b
channel_of (Half h) = Float (half h)

abbrev pub texel_of : Samples → Texel
texel_of s = record { r = channel_of s.r; g = channel_of s.g; b = channel_of s.b; a = channel_of s.a }

-- the number that C reads
abbrev pub number_of : Sample → ℕ
number_of (SampleByte b) = b
number_of (Half h) = float_bits h

-- whether that is a float's
abbrev pub mark_of : Sample → ℕ
mark_of (SampleByte b) = 0
mark_of (Half h) = 1

-- of the four channels of a texel: 1 for red, 2 for green, 4 for blue, 8 for alpha
abbrev pub marks_of : Samples → ℕ
marks_of s = mark_of s.r + 2 * mark_of s.g + 4 * mark_of s.b + 8 * mark_of s.a

-- ---- reduced to a byte
-- A float: 255 times it, rounded down, from 0 to 255. An infinity of either sign is 255, a NaN the byte n.
unfoldable pub byte_of : ℕ → Ieee → ℕ
byte_of n nan = n
byte_of n (inf s) = 255
byte_of n (fin s m e) = cond s 0 (min (m * up e * 255 / down e) 255)

-- a NaN by the two rules of docs/SCOPE.md: 255 as an HDR channel, and 0 by `f32_to_u8`
abbrev pub nan_byte : Rule → ℕ
nan_byte Ordinary = 255
nan_byte Void = 0

abbrev pub reduced_by : Rule → Channel → ℕ
reduced_by rule (Byte b) = b
reduced_by rule (Float x) = byte_of (nan_byte rule) x
