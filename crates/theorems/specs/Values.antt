-- The values P1 to P12 of docs/SCOPE.md, in one statement. Each is computed from the definitions, those of a layer in that layer.
-- Assumes nothing.
use Rattle.std.specs.Prelude.{◌≡◌, refl, List, [], ◌∷◌, ℕ, replicate}
use Rattle.laws.specs.Lists.{list_of, map_at, put}
use Rattle.bits.specs.Bits.{bits_at, bytes, reversed}
use Rattle.footprint.specs.Footprints.{footprint, one_of2, listed}
use Rattle.sequence_ranges.specs.Ranges.{ranges, range_of, tops, top_of, total_of}
use Rattle.sequence_ranges.specs.Patterns.{copies, repeated, spelt}
use Rattle.sequence_groups.specs.Sequence.{size_of, digits_of, value_in, group_of, value_at, values_of}
use Rattle.half.specs.Half.{void_byte}
use Rattle.params_low.specs.Low.{is_void, conf_len, low_of, extent_of}
use Rattle.params_modes.specs.Modes.{class_in, mode_in, values_to}
use Rattle.params_config.specs.Ranges.{cost}
use Rattle.params_config.specs.Config.{is_reserved, lacks_dh, grid_low, grid_high, grid_of as mode_grid, weight_r, weight_h, weight_d, parts_of, number_of, mode_base, low_modes, extra_mode_bits, partitions_of, config_of}
use Rattle.params_rules.specs.Rules.{end_verdict, verdict}
use Rattle.params_rules.specs.Fields.{fields_of, answer}
use Rattle.params_rules.specs.Values.{p1, p2, p3}
use Rattle.params_room.specs.Room.{widest}
use Rattle.params_map.specs.Map.{legal_map, no_map, map_in}
use Rattle.params.specs.Params.{channel_of, upper_of, code_in, legal, refused, params_in}
use Rattle.endpoints_unquantise.specs.Patterns.{trit_rows, quint_rows}
use Rattle.endpoints_unquantise.specs.Unquantised.{by_row, unquantise, endpoint_value, endpoint_values}
use Rattle.endpoints_rules.specs.Ldr.{base_of, offset_of, luminance}
use Rattle.endpoints_rules.specs.Hdr.{rgb, hdr, opaque}
use Rattle.endpoints_rules.specs.Modes.{by_mode, endpoints_of}
use Rattle.endpoints.specs.Endpoints.{values_at, count_to, partition_endpoints, endpoints_list}
use Rattle.endpoints.specs.Values.{of_list, values as endpoint-values}
use Rattle.weights_unquantise.specs.Unquantise.{alone, table, joined, digit, expanded, raised, weight_of}
use Rattle.weights_unquantise.specs.Values.{values as weight-values}
use Rattle.weights_grid.specs.Grids.{step_of, place_of}
use Rattle.weights_infill.specs.Infill.{factors, dot, infilled, infill_at, texel_of, infill_of}
use Rattle.weights.specs.Weights.{grid_of, weight_at, weights_of}
use Rattle.blend.specs.Blend.{between, expand, crate_byte, ldr_channel, hdr_channel, word_of}
use Rattle.blend.specs.Values.{values as blend-values}
use Rattle.texels.specs.Texels.{plane_of, texel_word}
use Rattle.block_void.specs.Void.{void_word}
use Rattle.block_refusal.specs.Refusal.{first_refusal, block_refusal}
use Rattle.block_map.specs.Answer.{answer_of, map_answer, block_map}
use Rattle.block_ordinary.specs.Ordinary.{ends_of, weights_in, partitions_in, ordinary_word}
use Rattle.block.specs.Block.{colour_of, word_of_params, block_word, word_at, painted_of}

-- P1's block is p1, with byte 8 set to FF it is p2, and P3's is p3. P4's has sixteen zero bytes
pub p4 : List ℕ
p4 = replicate 16 0

-- an output of a word more than a 4x4 block has
pub before : List ℕ
before = replicate 17 7

-- that output with w at its first sixteen places
pub after : List ℕ → List ℕ
after [] = 7 ∷ []
after (w ∷ s) = w ∷ after s

pub record Values : Type 0 where
  -- red, green, blue 255, 84, then fourteen 0; alpha 255; the word after them stays
  pub P1 : answer_of p1 (footprint 4 4) 17 ≡ 0
  pub P1-words : painted_of p1 (footprint 4 4) before ≡ after (word_of 255 255 255 255 ∷ word_of 84 84 84 255 ∷ replicate 14 (word_of 0 0 0 255))
  pub P2 : block_map p1 (footprint 4 4) ≡ record { answer = 0; top = 255; low_at = 0; low_len = 17; end_at = 17; end_len = 16; extra_at = 96; extra_len = 0; weight_at = 96; weight_len = 32 }
  pub P2-words : painted_of p2 (footprint 4 4) before ≡ painted_of p1 (footprint 4 4) before
  pub P3 : answer_of p3 (footprint 4 4) 17 ≡ 1
  pub P3-words : painted_of p3 (footprint 4 4) before ≡ after (replicate 16 (word_of 0 128 64 255))
  pub P4 : answer_of p4 (footprint 4 4) 17 ≡ 10
  pub P4-words : painted_of p4 (footprint 4 4) before ≡ after (replicate 16 (word_of 255 0 255 255))
  -- the range 0..5 has the trit 2 with bit 1 as its 5; the range 0..4 has quints alone
  pub P5 : weight_of 4 5 ≡ 39
  pub P6 : weight_of 3 3 ≡ 48
  pub P7 : ldr_channel 0 255 21 ≡ 84
  pub P8 : ldr_channel 200 200 17 ≡ 200
  pub P8-286 : ldr_channel 286 286 0 ≡ 30
  pub P9 : hdr_channel 0x700 0x700 0 ≡ 127
  pub P10 : hdr_channel 0x780 0x780 0 ≡ 255
  -- the standard has the first green 1032
  pub P11 : of_list 11 (128 ∷ 0 ∷ 0 ∷ 0 ∷ 127 ∷ 0 ∷ []) ≡ hdr (rgb 1024 0 1024) (rgb 1024 1024 1024) opaque
  -- offsets with 32 added: -1, and -32
  pub P12-offset : offset_of 255 ≡ 31
  pub P12-base : base_of 255 255 ≡ 255
  pub P12-least : offset_of 0x40 ≡ 0
  pub P12-zero : base_of 0x40 0 ≡ 0

pub values : Values
unfolding list_of map_at put bits_at bytes reversed one_of2 listed ranges range_of tops top_of total_of copies repeated spelt size_of digits_of value_in group_of value_at values_of void_byte is_void conf_len low_of extent_of class_in mode_in values_to cost is_reserved lacks_dh grid_low grid_high mode_grid weight_r weight_h weight_d parts_of number_of mode_base low_modes extra_mode_bits partitions_of config_of end_verdict verdict fields_of answer p1 p2 p3 widest legal_map no_map map_in channel_of upper_of code_in legal refused params_in trit_rows quint_rows by_row unquantise endpoint_value endpoint_values luminance by_mode endpoints_of values_at count_to partition_endpoints endpoints_list alone table joined digit expanded raised weight_of step_of place_of factors dot infilled infill_at texel_of infill_of grid_of weight_at weights_of between expand crate_byte plane_of texel_word void_word first_refusal block_refusal answer_of map_answer block_map ends_of weights_in partitions_in ordinary_word colour_of word_of_params block_word word_at painted_of p4 before after
values =
    record {
      P1 = refl;
      P1-words = refl;
      P2 = refl;
      P2-words = refl;
      P3 = refl;
      P3-words = refl;
      P4 = refl;
      P4-words = refl;
      P5 = weight-values.P5;
      P6 = weight-values.P6;
      P7 = blend-values.P7;
      P8 = blend-values.P8;
      P8-286 = blend-values.P8-286;
      P9 = blend-values.P9;
      P10 = blend-values.P10;
      P11 = endpoint-values.P11;
      P12-offset = endpoint-values.P12-offset;
      P12-base = endpoint-values.P12-base;
      P12-least = endpoint-values.P12-least;
      P12-zero = endpoint-values.P12-zero;
    }
