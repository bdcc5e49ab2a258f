-- The document's values that concern endpoints, and some that the original gives. Each is computed.
-- Assumes nothing.
use Rattle.std.specs.Prelude.{◌≡◌, refl, List, [], ◌∷◌, ℕ}
use Rattle.endpoints_colours.specs.Colours.{rgba, ldr, nothing}
use Rattle.endpoints_rules.specs.Ldr.{base_of, offset_of, luminance, luminance_offset, luminance_alpha_offset, scaled, direct, offset}
use Rattle.endpoints_rules.specs.Hdr.{rgb, alphas, hdr, opaque, luminance_large, luminance_small, given, swapped, seven_rows, seven_shifts, seven_value, seven_major, seven_mode, seven_part, seven_of, seven_less, hdr7}
use Rattle.endpoints_rules.specs.Hdr11.{crate_offset, eleven_rows, offset_bits, eleven_mode, eleven_major, eleven_part, under, eleven_first, eleven_second, hdr11, offset_alphas, hdr_alphas}
use Rattle.endpoints_rules.specs.Modes.{by_mode, endpoints_of}
use Rattle.endpoints.specs.Endpoints.{values_at, count_to, partition_endpoints, endpoints_list}
use Rattle.endpoints_colours.specs.declared.Mark.TheVariants.{Hdr}
use Rattle.endpoints_colours.specs.declared.Endpoints.{Endpoints}

-- the endpoints of a mode of a list of values
pub of_list : ℕ → List ℕ → Endpoints
of_list m ev = endpoints_of m (values_at ev 0)

pub record Values : Type 0 where
  -- mode 11, where the standard has the green 1032
  pub P11 : of_list 11 (128 ∷ 0 ∷ 0 ∷ 0 ∷ 127 ∷ 0 ∷ []) ≡ hdr (rgb 1024 0 1024) (rgb 1024 1024 1024) opaque
  -- a transfer: the offset -1 with 32 added, and the base; the offset -32 with 32 added, and the base
  pub P12-offset : offset_of 255 ≡ 31
  pub P12-base : base_of 255 255 ≡ 255
  pub P12-least : offset_of 0x40 ≡ 0
  pub P12-zero : base_of 0x40 0 ≡ 0
  -- mode 9, contracted: the first blue is 286 before the clamp
  pub clamp-9 : of_list 9 (0 ∷ 64 ∷ 0 ∷ 64 ∷ 255 ∷ 190 ∷ []) ≡ ldr (rgba 127 127 255 255) (rgba 127 127 255 255)
  -- mode 8 where the first sum is larger: swapped and contracted
  pub contracted-8 : of_list 8 (200 ∷ 10 ∷ 100 ∷ 20 ∷ 50 ∷ 30 ∷ []) ≡ ldr (rgba 20 25 30 255) (rgba 125 75 50 255)
  -- mode 7, sub-mode 1 with green major
  pub scale-7 : of_list 7 (115 ∷ 224 ∷ 107 ∷ 225 ∷ []) ≡ hdr (rgb 4004 4068 3982) (rgb 4006 4070 3984) opaque
  -- mode 7, sub-mode 5
  pub direct-7 : of_list 7 (216 ∷ 235 ∷ 175 ∷ 206 ∷ []) ≡ hdr (rgb 320 928 0) (rgb 2816 3424 1504) opaque
  -- mode 11, sub-mode 4 with blue major
  pub offset-11 : of_list 11 (144 ∷ 86 ∷ 32 ∷ 149 ∷ 66 ∷ 137 ∷ []) ≡ hdr (rgb 696 432 756) (rgb 758 480 800) opaque
  -- mode 15, major 3, whose second alpha is lower
  pub alpha-15 : of_list 15 (191 ∷ 9 ∷ 49 ∷ 183 ∷ 209 ∷ 251 ∷ 155 ∷ 126 ∷ []) ≡ hdr (rgb 3056 784 2592) (rgb 144 2928 3936) (alphas 3288 3272 Hdr)
  -- two partitions, of modes 0 and 8: the values of the second start at the third
  pub partitions : endpoints_list 2 (0 ∷ 8 ∷ 0 ∷ 0 ∷ []) (10 ∷ 20 ∷ 1 ∷ 2 ∷ 3 ∷ 4 ∷ 5 ∷ 6 ∷ []) ≡ ldr (rgba 10 10 10 255) (rgba 20 20 20 255) ∷ ldr (rgba 1 3 5 255) (rgba 2 4 6 255) ∷ nothing ∷ nothing ∷ []

pub values : Values
unfolding base_of offset_of luminance luminance_offset luminance_alpha_offset scaled direct offset luminance_large luminance_small given swapped seven_rows seven_shifts seven_value seven_major seven_mode seven_part seven_of seven_less hdr7 crate_offset eleven_rows offset_bits eleven_mode eleven_major eleven_part under eleven_first eleven_second hdr11 offset_alphas hdr_alphas by_mode endpoints_of values_at count_to partition_endpoints endpoints_list of_list
values = record { P11 = refl; P12-offset = refl; P12-base = refl; P12-least = refl; P12-zero = refl; clamp-9 = refl; contracted-8 = refl; scale-7 = refl; direct-7 = refl; offset-11 = refl; alpha-15 = refl; partitions = refl }
