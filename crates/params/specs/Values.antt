-- A value of the document that concerns the parameters: a byte outside the map changes none. It is computed.
-- Assumes nothing.
use Rattle.std.specs.Prelude.{◌≡◌, refl}
use Rattle.bits.specs.Bits.{bits_at, bytes}
use Rattle.sequence_ranges.specs.Ranges.{ranges, range_of}
use Rattle.sequence_ranges.specs.Ranges.{total_of}
use Rattle.footprint.specs.Footprints.{footprint}
use Rattle.params_low.specs.Low.{is_void, conf_len, low_of, extent_of}
use Rattle.params_modes.specs.Modes.{class_in, mode_in, values_to}
use Rattle.params_config.specs.Ranges.{cost}
use Rattle.params_config.specs.Config.{is_reserved, lacks_dh, grid_low, grid_high, grid_of, weight_r, weight_h, weight_d, parts_of, number_of, mode_base, low_modes, extra_mode_bits, partitions_of, config_of}
use Rattle.params_rules.specs.Rules.{end_verdict, verdict}
use Rattle.params_rules.specs.Fields.{fields_of, answer}
use Rattle.params_rules.specs.Values.{p1, p2}
use Rattle.params_room.specs.Room.{widest}
use Rattle.params.specs.Params.{channel_of, upper_of, code_in, legal, refused, params_in, params_of}

pub p2-ff : params_of (bytes 16 p2) (footprint 4 4) ≡ params_of (bytes 16 p1) (footprint 4 4)
unfolding bits_at bytes ranges range_of total_of cost widest is_void is_reserved lacks_dh grid_low grid_high grid_of weight_r weight_h weight_d parts_of number_of mode_base low_modes class_in mode_in values_to conf_len low_of extent_of extra_mode_bits partitions_of config_of end_verdict verdict fields_of answer channel_of upper_of code_in legal refused params_in p1 p2
p2-ff = refl
