-- The values P7 to P10 of docs/SCOPE.md, and its slip on blending by the top eight bits. Each is computed.
-- Assumes nothing.
use Rattle.std.specs.Prelude.{◌≡◌, refl}
use Rattle.half.specs.Half.{hdr_byte}
use Rattle.blend.specs.Blend.{between, expand, crate_byte, ldr_channel, bent, half_of, hdr_channel}

pub record Values : Type 0 where
  pub P7 : ldr_channel 0 255 21 ≡ 84
  pub P8 : ldr_channel 200 200 17 ≡ 200
  pub P8-286 : ldr_channel 286 286 0 ≡ 30
  pub P9 : hdr_channel 0x700 0x700 0 ≡ 127
  pub P10 : hdr_channel 0x780 0x780 0 ≡ 255
  -- the top eight bits of 511 are 1
  pub c-511 : crate_byte 511 ≡ 2

pub values : Values
unfolding between expand crate_byte bent half_of hdr_byte
values = record { P7 = refl; P8 = refl; P8-286 = refl; P9 = refl; P10 = refl; c-511 = refl }
