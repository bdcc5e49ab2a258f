-- The channels of a texel, from its partition's endpoints and its weights, and its word.
-- Written from the ASTC chapter's sections "Weight Application" and "Dual-Plane Decoding"; the reduction to a byte is the original's own.
-- Assumes nothing.
use Rattle.std.specs.Prelude.{cond, ◌&&◌, List, ℕ, ◌+◌, ◌*◌, eqb, get_or}
use Rattle.footprint.specs.Footprints.{most_texels}
use Rattle.half.specs.Half.{hdr_byte_of}
use Rattle.blend.specs.Blend.{ldr_blend, hdr_half, crate_byte, word_of}
use Rattle.channels.specs.Channels.{finite}
use Rattle.channels.specs.declared.Sample.{Sample}
use Rattle.channels.specs.declared.Sample.TheVariants.{Byte, Half}
use Rattle.endpoints_colours.specs.Colours.{nothing, mark_of, first_of, second_of}
use Rattle.endpoints_colours.specs.declared.Mark.{Mark}
use Rattle.endpoints_colours.specs.declared.Mark.TheVariants.{Ldr, Hdr}
use Rattle.endpoints_colours.specs.declared.Endpoints.{Endpoints}

-- ---- a channel, blended
-- its mark, and its value: of 16 bits where it is LDR, a half where it is HDR
pub record Blended : Type 0 where
  pub mark : Mark
  pub value : ℕ

-- the value between two endpoints, by their mark
abbrev pub blend_by : Mark → ℕ → ℕ → ℕ → ℕ
blend_by Ldr e0 e1 w = ldr_blend e0 e1 w
blend_by Hdr e0 e1 w = hdr_half e0 e1 w

-- the plane of channel k, of 0 to 3 for red to alpha: of two planes the second is that of the one chosen channel
unfoldable pub plane_of : ℕ → ℕ → ℕ → ℕ
plane_of planes channel k = cond (eqb planes 2 && eqb channel k) 1 0

-- the weight of channel k of texel i. The weights are flat, the second plane's after those of all texels in the first
abbrev pub weight_at : List ℕ → ℕ → ℕ → ℕ → ℕ → ℕ
weight_at weights planes channel i k = get_or weights (most_texels * plane_of planes channel k + i) 0

-- channel k between the endpoints e, at a weight
abbrev pub blended_of : Endpoints → ℕ → ℕ → Blended
blended_of e k w = record { mark = mark_of e k; value = blend_by (mark_of e k) (first_of e k) (second_of e k) w }

-- channel k of texel i; partitions has the partition of each texel
abbrev pub blended_at : List Endpoints → List ℕ → List ℕ → ℕ → ℕ → ℕ → ℕ → Blended
blended_at ends weights partitions planes channel i k = blended_of (get_or ends (get_or partitions i 0) nothing) k (weight_at weights planes channel i k)

-- ---- reduced to a byte
-- as the crate does it, by the mark
abbrev pub crate_reduction : Mark → ℕ → ℕ
crate_reduction Ldr c = crate_byte c
crate_reduction Hdr h = hdr_byte_of h

-- the word of four channels, each by a reduction
abbrev pub word_from : (Mark → ℕ → ℕ) → (ℕ → Blended) → ℕ
word_from reduced c = word_of (reduced (c 0).mark (c 0).value) (reduced (c 1).mark (c 1).value) (reduced (c 2).mark (c 2).value) (reduced (c 3).mark (c 3).value)

-- the word of texel i
unfoldable pub texel_word : List Endpoints → List ℕ → List ℕ → ℕ → ℕ → ℕ → ℕ
texel_word ends weights partitions planes channel i = word_from crate_reduction (blended_at ends weights partitions planes channel i)

-- ---- as it is answered: reduced to a byte where it is LDR, and else the half, the largest finite one in place of infinity and NaN
abbrev pub sample_of : Mark → ℕ → Sample
sample_of Ldr c = Byte (crate_byte c)
sample_of Hdr h = Half (finite h)

-- channel k of texel i
unfoldable pub texel_sample : List Endpoints → List ℕ → List ℕ → ℕ → ℕ → ℕ → ℕ → Sample
texel_sample ends weights partitions planes channel i k =
    let c = blended_at ends weights partitions planes channel i k in
    sample_of c.mark c.value

-- ---- short names for both at once
-- a channel between two endpoints as a byte, by their mark: `ldr_channel` or `hdr_channel`
unfoldable pub channel_by : Mark → ℕ → ℕ → ℕ → ℕ
channel_by m e0 e1 w = crate_reduction m (blend_by m e0 e1 w)

-- the word between a pair of endpoints, at a weight for each of red, green, blue and alpha
unfoldable pub word_by : Endpoints → ℕ → ℕ → ℕ → ℕ → ℕ
word_by e r g b a =
    word_of (channel_by e.color e.r0 e.r1 r) (channel_by e.color e.g0 e.g1 g) (channel_by e.color e.b0 e.b1 b)
    (channel_by e.alpha e.a0 e.a1 a)
