-- Words of texels, each computed: of one plane and of two, of one partition and of two, LDR and HDR.
-- Assumes nothing.
use Rattle.std.specs.Prelude.{◌≡◌, refl, cond, List, [], ◌∷◌, ℕ, ◌/◌, eqb}
use Rattle.laws.specs.Lists.{list_of}
use Rattle.footprint.specs.Footprints.{most_texels, most_weights}
use Rattle.half.specs.Half.{hdr_byte}
use Rattle.blend.specs.Blend.{between, expand, crate_byte, bent, half_of}
use Rattle.endpoints_colours.specs.Colours.{rgba, endpoints, ldr}
use Rattle.endpoints_colours.specs.declared.Mark.TheVariants.{Ldr, Hdr}
use Rattle.endpoints_colours.specs.declared.Endpoints.{Endpoints}
use Rattle.lanes.specs.Lanes.{lane_at, eights}
use Rattle.texels.specs.Texels.{channel_by, word_by, plane_of, texel_word}

-- red to blue; dark to bright in high dynamic range, and the same under LDR alphas
unfoldable pub ends : List Endpoints
ends =
    ldr (rgba 255 0 0 255) (rgba 0 0 255 255)
    ∷ endpoints (rgba 0x700 0x700 0 0x780) (rgba 0x780 0x700 0x780 0x780) Hdr Hdr
    ∷ endpoints (rgba 0x700 0x700 0 64) (rgba 0x780 0x700 0x780 64) Hdr Ldr
    ∷ []

-- weight 32 in the first plane, 64 in the second
unfoldable pub weights : List ℕ
weights = list_of (λ (k : ℕ). cond (eqb (k / most_texels) 0) 32 64) 0 most_weights

-- texel i in partition i
unfoldable pub partitions : List ℕ
partitions = 0 ∷ 1 ∷ 2 ∷ []

pub record Values : Type 0 where
  -- (128, 0, 128, 255)
  pub half-way : texel_word ends weights partitions 1 0 0 ≡ 0xFF80_0080
  -- the second plane is red's: (0, 0, 128, 255)
  pub red-apart : texel_word ends weights partitions 2 0 0 ≡ 0xFF00_0080
  -- it is blue's: (128, 0, 255, 255)
  pub blue-apart : texel_word ends weights partitions 2 2 0 ≡ 0xFF80_00FF
  -- of one plane the channel does not matter
  pub one-plane : texel_word ends weights partitions 1 2 0 ≡ 0xFF80_0080
  -- of two planes with no channel neither
  pub no-channel : texel_word ends weights partitions 2 4 0 ≡ 0xFF80_0080
  pub hdr : texel_word ends weights partitions 1 0 1 ≡ 0xFFB7_7F01
  pub hdr-bright : texel_word ends weights partitions 2 0 1 ≡ 0xFFFF_7F01
  -- an HDR colour with an LDR alpha
  pub mixed : texel_word ends weights partitions 1 0 2 ≡ 0x40B7_7F01
  -- the low lane comes first
  pub low : lane_at (texel_word ends weights partitions 1 0) 0 ≡ 0x0080
  pub high : lane_at (texel_word ends weights partitions 1 0) 1 ≡ 0xFF80
  pub next : lane_at (texel_word ends weights partitions 1 0) 2 ≡ 0x7F01
  -- as many as are painted
  pub four-by-four : eights 16 ≡ 16
  pub five-by-five : eights 25 ≡ 32
  pub six-by-six : eights 36 ≡ 40

pub values : Values
unfolding ends weights partitions channel_by word_by plane_of texel_word lane_at between expand crate_byte bent half_of hdr_byte list_of
values = record {
  half-way = refl;
  red-apart = refl;
  blue-apart = refl;
  one-plane = refl;
  no-channel = refl;
  hdr = refl;
  hdr-bright = refl;
  mixed = refl;
  low = refl;
  high = refl;
  next = refl;
  four-by-four = refl;
  five-by-five = refl;
  six-by-six = refl;
}
