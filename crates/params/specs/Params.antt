-- A block's parameters. v is the block's number of 128 bits; its bits are read by whole fields alone.
-- Written from the ASTC chapter's sections "Block Layout", "Color Endpoint Mode" and "Dual-Plane Decoding".
-- Assumes nothing.
use Rattle.std.specs.Prelude.{cond, [], ◌∷◌, ℕ, ◌+◌, ◌*◌, ◌/◌, ◌%◌, eqb, Result, Ok, Err}
use Rattle.answers.specs.Answers.{legal as legal_answer}
use Rattle.answers.specs.Results.{rule_number}
use Rattle.answers.specs.declared.Rule.{Rule}
use Rattle.footprint.specs.declared.Footprint.{Footprint}
use Rattle.bits.specs.Bits.{bits_at, reversed}
use Rattle.params_modes.specs.Modes.{modes_of}
use Rattle.params_config.specs.Ranges.{cost}
use Rattle.params_config.specs.Config.{config_of}
use Rattle.params_config.specs.declared.Config.{Config}
use Rattle.params_rules.specs.Fields.{Fields, fields_of, answer}
use Rattle.params_room.specs.Room.{end_range}
use Rattle.params.specs.declared.Params.{Params}

-- ---- the channel bits and the mode bits of the extra field e
unfoldable pub channel_of : ℕ → ℕ → ℕ
channel_of planes e = cond (eqb planes 2) (e % 4) 0

unfoldable pub upper_of : ℕ → ℕ → ℕ
upper_of planes e = cond (eqb planes 2) (e / 4) e

-- the mode bits as they stand in the block, as one number: with a base, those of the extra field go on from the low configuration's
unfoldable pub code_in : Config → ℕ → ℕ
code_in k e = cond (eqb k.base 0) k.low_modes (k.low_modes + 16 * upper_of k.planes e)

-- ---- the parameters of a legal block, of which the low configuration says k and whose extra field is e
unfoldable pub legal : Config → ℕ → Params
legal k e = record {
  answer = legal_answer;
  config = k;
  channel = channel_of k.planes e;
  mode_code = code_in k e;
  modes = modes_of k.parts k.base (code_in k e);
  endpoint_range = end_range k;
}

abbrev pub no_config : Config
no_config = record { width = 0; height = 0; weight_range = 0; planes = 0; parts = 0; number = 0; base = 0; low_modes = 0; values = 0; low_len = 0; mode_bits = 0; weight_len = 0 }

-- of any other block
unfoldable pub refused : ℕ → Params
refused a = record { answer = a; config = no_config; channel = 0; mode_code = 0; modes = 0 ∷ 0 ∷ 0 ∷ 0 ∷ []; endpoint_range = 0 }

-- those that a result tells
abbrev pub told : Result Params Rule → Params
told (Ok p) = p
told (Err rule) = refused (rule_number rule)

-- of a block with the fields t at the footprint f
unfoldable pub params_in : Fields → Footprint → Params
params_in t f = cond (eqb (answer t f) legal_answer) (legal (config_of t.low) t.extra) (refused (answer t f))

-- of the block v
abbrev pub params_of : ℕ → Footprint → Params
params_of v f = params_in (fields_of v) f

-- ---- the other two fields of a block v with the parameters p
abbrev pub ends_field : Params → ℕ → ℕ
ends_field p v = bits_at v p.config.low_len (cost p.endpoint_range p.config.values)

-- the weights are read from the block's top downwards
abbrev pub weights_field : Params → ℕ → ℕ
weights_field p v = bits_at (reversed 128 v) 0 p.config.weight_len
