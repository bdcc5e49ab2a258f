-- The map of a block: its answer, where its fields stand, and the largest value of its endpoints' range.
-- Written from the ASTC chapter's sections "Block Layout" and "Data Size Determination".
-- Assumes nothing.
use Rattle.std.specs.Prelude.{cond, ℕ, ◌-◌, eqb}
use Rattle.answers.specs.Answers.{legal}
use Rattle.footprint.specs.declared.Footprint.{Footprint}
use Rattle.sequence_ranges.specs.Ranges.{top_of}
use Rattle.params_config.specs.Ranges.{cost}
use Rattle.params_config.specs.Config.{config_of}
use Rattle.params_config.specs.declared.Config.{Config}
use Rattle.params_rules.specs.Rules.{extra_len, extra_at}
use Rattle.params_rules.specs.Fields.{Fields, fields_of, answer}
use Rattle.params_room.specs.Room.{end_range}
use Rattle.params_map.specs.declared.BlockMap.{BlockMap}

-- of a legal block, whose low configuration says k
unfoldable pub legal_map : Config → BlockMap
legal_map k = record {
  answer = legal;
  top = top_of (end_range k);
  low_at = 0;
  low_len = k.low_len;
  end_at = k.low_len;
  end_len = cost (end_range k) k.values;
  extra_at = extra_at k;
  extra_len = extra_len k;
  weight_at = 128 - k.weight_len;
  weight_len = k.weight_len;
}

-- of any other answer: all its numbers are 0
unfoldable pub no_map : ℕ → BlockMap
no_map a = record { answer = a; top = 0; low_at = 0; low_len = 0; end_at = 0; end_len = 0; extra_at = 0; extra_len = 0; weight_at = 0; weight_len = 0 }

-- of a block with the fields t at the footprint f
unfoldable pub map_in : Fields → Footprint → BlockMap
map_in t f = cond (eqb (answer t f) legal) (legal_map (config_of t.low)) (no_map (answer t f))

-- of the block v
abbrev pub map_of : ℕ → Footprint → BlockMap
map_of v f = map_in (fields_of v) f
