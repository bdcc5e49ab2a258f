-- Worked examples that hold the definitions to IEEE 754: antt computes each.
use Rattle.std.specs.Prelude.{◌≡◌, refl, true, false, [], ◌∷◌, map, pos, negsuc}
use Rattle.std.specs.Float.{nan, inf, fin}
use Rattle.std.specs.Float.Ieee.{to_bits}
use Rattle.half.specs.Half.{value}
use Rattle.channels.specs.Channels.{finite, float_bits, byte_of}

-- +0, -0, 1, -2, 1 / 3 rounded, the largest 65504, the least normal 2 ^ -14, the least 2 ^ -24, the largest subnormal, the infinities, and NaNs of both signs
float-bits : map float_bits (0 ∷ 0x8000 ∷ 0x3c00 ∷ 0xc000 ∷ 0x3555 ∷ 0x7bff ∷ 0x0400 ∷ 0x0001 ∷ 0x83ff ∷ 0x7c00 ∷ 0xfc00 ∷ 0x7c01 ∷ 0x7fff ∷ 0xfc01 ∷ 0xfe00 ∷ [])
    ≡ 0 ∷ 0x8000_0000 ∷ 0x3f80_0000 ∷ 0xc000_0000 ∷ 0x3eaa_a000 ∷ 0x477f_e000 ∷ 0x3880_0000 ∷ 0x3380_0000 ∷ 0xb87f_c000 ∷ 0x7f80_0000 ∷ 0xff80_0000
    ∷ 0x7fc0_0000 ∷ 0x7fc0_0000 ∷ 0xffc0_0000 ∷ 0xffc0_0000 ∷ []
unfolding float_bits value to_bits
float-bits = refl

-- the largest finite half stays, and what is above it becomes it
finites : map finite (0 ∷ 0x3c00 ∷ 0x7bff ∷ 0x7c00 ∷ 0x7fff ∷ []) ≡ 0 ∷ 0x3c00 ∷ 0x7bff ∷ 0x7bff ∷ 0x7bff ∷ []
finites = refl

-- a NaN, the infinities, 1 / 2, 1, 16, the float below 1, -1 and -0, by `f32_to_u8`, and a NaN by the rule of HDR channels
float-bytes : map (byte_of 0) (nan ∷ inf false ∷ inf true ∷ fin false 1 (negsuc 0) ∷ fin false 1 (pos 0) ∷ fin false 1 (pos 4) ∷ fin false 16777215 (negsuc 23) ∷ fin true 1 (pos 0) ∷ fin true 0 (pos 0) ∷ [])
    ≡ 0 ∷ 255 ∷ 255 ∷ 127 ∷ 255 ∷ 255 ∷ 254 ∷ 0 ∷ 0 ∷ []
unfolding byte_of
float-bytes = refl

hdr-nan : byte_of 255 nan ≡ 255
unfolding byte_of
hdr-nan = refl
