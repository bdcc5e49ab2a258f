-- Worked examples that hold the definitions of `Half` to IEEE 754: antt computes each.
use Rattle.std.specs.Prelude.{◌≡◌, refl, true, false, [], ◌∷◌, map, pos, negsuc}
use Rattle.std.specs.Float.{nan, inf, fin}
use Rattle.half.specs.Half.{half, value, hdr_byte, hdr_byte_of, void_byte, void_byte_of}

-- +0, -0, 1, -2, 1 / 3 rounded, the largest 65504, the least normal 2 ^ -14, the least 2 ^ -24, the largest subnormal 1023 * 2 ^ -24, the infinities and four NaNs
values : map half (0 ∷ 0x8000 ∷ 0x3c00 ∷ 0xc000 ∷ 0x3555 ∷ 0x7bff ∷ 0x0400 ∷ 0x0001 ∷ 0x03ff ∷ 0x7c00 ∷ 0xfc00 ∷ 0x7c01 ∷ 0x7e00 ∷ 0xfe00 ∷ 0xffff ∷ [])
    ≡ fin false 0 (pos 0) ∷ fin true 0 (pos 0) ∷ fin false 1 (pos 0) ∷ fin true 1 (pos 1) ∷ fin false 1365 (negsuc 11) ∷ fin false 2047 (pos 5) ∷ fin false 1 (negsuc 13) ∷ fin false 1 (negsuc 23)
    ∷ fin false 1023 (negsuc 23) ∷ inf false ∷ inf true ∷ nan ∷ nan ∷ nan ∷ nan ∷ []
unfolding value
values = refl

-- 0, 0.5, 1, the half below 1, 2, -1, -0, both infinities, two NaNs
hdr-bytes : map hdr_byte_of (0 ∷ 0x3800 ∷ 0x3c00 ∷ 0x3bff ∷ 0x4000 ∷ 0xbc00 ∷ 0x8000 ∷ 0x7c00 ∷ 0xfc00 ∷ 0x7e00 ∷ 0xfe00 ∷ []) ≡ 0 ∷ 127 ∷ 255 ∷ 254 ∷ 255 ∷ 0 ∷ 0 ∷ 255 ∷ 255 ∷ 255 ∷ 255 ∷ []
unfolding hdr_byte
hdr-bytes = refl

void-bytes : map void_byte_of (0 ∷ 0x3800 ∷ 0x3c00 ∷ 0x3bff ∷ 0x4000 ∷ 0xbc00 ∷ 0x8000 ∷ 0x7c00 ∷ 0xfc00 ∷ 0x7e00 ∷ 0xfe00 ∷ []) ≡ 0 ∷ 127 ∷ 255 ∷ 254 ∷ 255 ∷ 0 ∷ 0 ∷ 255 ∷ 255 ∷ 0 ∷ 0 ∷ []
unfolding void_byte
void-bytes = refl
