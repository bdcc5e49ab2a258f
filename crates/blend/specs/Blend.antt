-- The channel of a texel from two endpoints and a weight of 0..64, its reduction to a byte, and the word of four bytes.
-- Written from the ASTC chapter's section "Weight Application"; the reduction to a byte is the original's own.
-- Assumes nothing.
use Rattle.std.specs.Prelude.{cond, ℕ, ◌+◌, ◌-◌, ◌*◌, ◌/◌, ◌%◌, ltb}
use Rattle.std.specs.Int.Bits.{bit_or}
use Rattle.half.specs.Half.{hdr_byte_of}

-- between two numbers, by a weight
unfoldable pub between : ℕ → ℕ → ℕ → ℕ
between x0 x1 w = (x0 * (64 - w) + x1 * w + 32) / 64

-- ---- LDR
-- an endpoint in 16 bits: 257 * e for a byte
unfoldable pub expand : ℕ → ℕ
expand e = bit_or (e * 256) e

-- an LDR channel: the blended value, of 16 bits
abbrev pub ldr_blend : ℕ → ℕ → ℕ → ℕ
ldr_blend e0 e1 w = between (expand e0) (expand e1) w

-- ---- HDR
-- an endpoint of 12 bits in 16
abbrev pub hdr_blend : ℕ → ℕ → ℕ → ℕ
hdr_blend v0 v1 w = between (v0 * 16) (v1 * 16) w

-- the low 11 bits of the blended value, a logarithm, as a half's digits with three bits more
unfoldable pub bent : ℕ → ℕ
bent m = cond (ltb m 512) (3 * m) (cond (ltb m 1536) (4 * m - 512) (5 * m - 2048))

-- the half of the blended value c
unfoldable pub half_of : ℕ → ℕ
half_of c = c / 2048 * 1024 + bent (c % 2048) / 8

-- an HDR channel: the half of the blended value
abbrev pub hdr_half : ℕ → ℕ → ℕ → ℕ
hdr_half v0 v1 w = half_of (hdr_blend v0 v1 w)

-- ---- reduced to a byte, as the crate does it: a half by `hdr_byte_of`, an LDR channel so
unfoldable pub crate_byte : ℕ → ℕ
crate_byte c = (255 * c + 32768) / 65536 % 256

abbrev pub ldr_channel : ℕ → ℕ → ℕ → ℕ
ldr_channel e0 e1 w = crate_byte (ldr_blend e0 e1 w)

abbrev pub hdr_channel : ℕ → ℕ → ℕ → ℕ
hdr_channel v0 v1 w = hdr_byte_of (hdr_half v0 v1 w)

-- ---- the word
abbrev pub word_of : ℕ → ℕ → ℕ → ℕ → ℕ
word_of r g b a = b + 0x100 * g + 0x1_0000 * r + 0x100_0000 * a
