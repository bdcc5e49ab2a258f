-- The values of the document that concern the map. Each is computed.
-- Assumes nothing.
use Rattle.std.specs.Prelude.{◌≡◌, refl}
use Rattle.bits.specs.Bits.{bits_at, bytes}
use Rattle.sequence_ranges.specs.Ranges.{ranges, range_of, tops, top_of}
use Rattle.sequence_ranges.specs.Ranges.{total_of}
use Rattle.footprint.specs.Footprints.{footprint}
use Rattle.params_low.specs.Low.{is_void, conf_len, low_of, extent_of}
use Rattle.params_modes.specs.Modes.{class_in, values_to}
use Rattle.params_config.specs.Ranges.{cost}
use Rattle.params_config.specs.Config.{is_reserved, lacks_dh, grid_low, grid_high, grid_of, weight_r, weight_h, weight_d, parts_of, number_of, mode_base, low_modes, extra_mode_bits, partitions_of, config_of}
use Rattle.params_rules.specs.Rules.{end_verdict, verdict}
use Rattle.params_rules.specs.Fields.{fields_of, answer}
use Rattle.params_rules.specs.Values.{p1, p2}
use Rattle.params_room.specs.Room.{widest}
use Rattle.params_map.specs.Map.{legal_map, no_map, map_in, map_of}

pub record Values : Type 0 where
  pub P2 : map_of (bytes 16 p1) (footprint 4 4) ≡ record { answer = 0; top = 255; low_at = 0; low_len = 17; end_at = 17; end_len = 16; extra_at = 96; extra_len = 0; weight_at = 96; weight_len = 32 }
  pub P2-FF : map_of (bytes 16 p2) (footprint 4 4) ≡ map_of (bytes 16 p1) (footprint 4 4)

pub values : Values
unfolding bits_at bytes ranges range_of tops top_of total_of cost widest is_void is_reserved lacks_dh grid_low grid_high grid_of weight_r weight_h weight_d parts_of number_of mode_base low_modes class_in values_to conf_len low_of extent_of extra_mode_bits partitions_of config_of end_verdict verdict fields_of answer legal_map no_map map_in p1 p2
values = record { P2 = refl; P2-FF = refl }
