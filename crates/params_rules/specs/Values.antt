-- The values of the document that concern the answers of blocks, in one statement. Each is computed.
-- Assumes nothing.
use Rattle.std.specs.Prelude.{◌≡◌, refl, List, [], ◌∷◌, ℕ, ◌+◌, ◌*◌, ◌/◌}
use Rattle.bits.specs.Bits.{bits_at, bytes}
use Rattle.footprint.specs.Footprints.{footprint}
use Rattle.footprint.specs.declared.Footprint.{Footprint}
use Rattle.sequence_ranges.specs.Ranges.{ranges, range_of}
use Rattle.sequence_ranges.specs.Ranges.{total_of}
use Rattle.params_config.specs.Ranges.{cost}
use Rattle.params_low.specs.Low.{is_void, conf_len, low_of, extent_of}
use Rattle.params_modes.specs.Modes.{class_in, values_to}
use Rattle.params_config.specs.Config.{is_reserved, lacks_dh, grid_low, grid_high, grid_of, weight_r, weight_h, weight_d, parts_of, number_of, mode_base, low_modes, extra_mode_bits, partitions_of, config_of}
use Rattle.params_rules.specs.Rules.{end_verdict, verdict}
use Rattle.params_rules.specs.Fields.{fields_of, answer}

-- the block of P1 of docs/SCOPE.md, and with byte 8 set to FF; sixteen zero bytes; P3's block
unfoldable pub p1 : List ℕ
p1 = 0x42 ∷ 0 ∷ 0 ∷ 0xfe ∷ 1 ∷ 0 ∷ 0 ∷ 0 ∷ 0 ∷ 0 ∷ 0 ∷ 0 ∷ 0 ∷ 0 ∷ 0 ∷ 0xe0 ∷ []

unfoldable pub p2 : List ℕ
p2 = 0x42 ∷ 0 ∷ 0 ∷ 0xfe ∷ 1 ∷ 0 ∷ 0 ∷ 0 ∷ 0xff ∷ 0 ∷ 0 ∷ 0 ∷ 0 ∷ 0 ∷ 0 ∷ 0xe0 ∷ []

unfoldable pub p3 : List ℕ
p3 = 0xfc ∷ 0xfd ∷ 0xff ∷ 0xff ∷ 0xff ∷ 0xff ∷ 0xff ∷ 0xff ∷ 0 ∷ 0 ∷ 0 ∷ 0x80 ∷ 0 ∷ 0x40 ∷ 0xff ∷ 0xff ∷ []

pub zeros : List ℕ
zeros = []

-- the answer of the block with the number v
pub ans : ℕ → Footprint → ℕ
ans v f = answer (fields_of v) f

pub record Values : Type 0 where
  pub P1 : ans (bytes 16 p1) (footprint 4 4) ≡ 0
  pub P3 : ans (bytes 16 p3) (footprint 4 4) ≡ 1
  pub P4 : ans (bytes 16 zeros) (footprint 4 4) ≡ 10
  pub weights-24 : cost 0 (4 * 6) ≡ 24
  pub weights-20 : cost 0 (4 * 5) ≡ 20
  pub weights-96 : cost 2 48 ≡ 96
  pub weights-103 : cost 1 (8 * 8) ≡ 103
  pub values-18 : (13 * 18 + 4) / 5 ≡ 47
  -- 64 weights pass rule 12; 9x8 at 12x12 does not; a dual 12x5 grid has 120
  pub grid-8x8 : ans 0x544 (footprint 8 8) ≡ 0
  pub grid-9x8 : ans 0x564 (footprint 12 12) ≡ 12
  pub dual-12x5 : ans 0x464 (footprint 12 12) ≡ 12
  -- one-bit weights 4x6 and 4x5, 48 of two bits, 8x8 of 0..2
  pub one-bit-4x6 : ans 0x4d (footprint 6 6) ≡ 0
  pub one-bit-4x5 : ans 0x61 (footprint 5 5) ≡ 13
  pub two-bit-6x8 : ans 0x508 (footprint 8 8) ≡ 0
  pub trits-8x8 : ans 0x554 (footprint 8 8) ≡ 13
  -- 18 values in room 47 and 46; room -5
  pub room-47 : ans 0x10001055 (footprint 12 12) ≡ 0
  pub room-46 : ans 0x100011b9 (footprint 12 12) ≡ 16
  pub room-negative : ans 0x801d08 (footprint 8 8) ≡ 16
  -- a dual plane with four partitions; more than 18 values
  pub dual-four : ans 0x1c51 (footprint 6 6) ≡ 14
  pub values-32 : ans 0x1e001851 (footprint 6 6) ≡ 15

pub values : Values
unfolding bits_at bytes ranges range_of total_of cost is_void is_reserved lacks_dh grid_low grid_high grid_of weight_r weight_h weight_d parts_of number_of mode_base low_modes class_in values_to conf_len low_of extent_of extra_mode_bits partitions_of config_of end_verdict verdict fields_of answer p1 p3 zeros ans
values = record { P1 = refl; P3 = refl; P4 = refl; weights-24 = refl; weights-20 = refl; weights-96 = refl; weights-103 = refl; values-18 = refl; grid-8x8 = refl; grid-9x8 = refl; dual-12x5 = refl; one-bit-4x6 = refl; one-bit-4x5 = refl; two-bit-6x8 = refl; trits-8x8 = refl; room-47 = refl; room-46 = refl; room-negative = refl; dual-four = refl; values-32 = refl }
