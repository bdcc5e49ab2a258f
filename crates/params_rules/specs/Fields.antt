-- The whole fields by which a block is judged, and its answer. v is the block's number of 128 bits.
-- Written from the ASTC chapter's sections "Block Layout" and "Illegal Encodings".
-- Assumes nothing.
use Rattle.std.specs.Prelude.{cond, ℕ}
use Rattle.bits.specs.Bits.{bits_at}
use Rattle.answers.specs.Answers.{void_extent, reserved_mode}
use Rattle.footprint.specs.declared.Footprint.{Footprint}
use Rattle.params_low.specs.Low.{is_void, low_of, extent_of}
use Rattle.params_config.specs.Config.{is_reserved, config_of}
use Rattle.params_config.specs.declared.Config.{Config}
use Rattle.params_rules.specs.Rules.{extra_len, extra_at, verdict}

-- the low configuration; the extent of a void block, and 0 of any other; the extra field
pub record Fields : Type 0 where
  pub low : ℕ
  pub extent : ℕ
  pub extra : ℕ

-- the extra field stands where the low configuration says
abbrev pub extra_in : Config → ℕ → ℕ
extra_in k v = bits_at v (extra_at k) (extra_len k)

unfoldable pub fields_of : ℕ → Fields
fields_of v = record { low = low_of v; extent = extent_of v; extra = extra_in (config_of (low_of v)) v }

-- the answer of a block with the fields t at the footprint f
unfoldable pub answer : Fields → Footprint → ℕ
answer t f =
    cond (is_void t.low) void_extent
    (cond (is_reserved t.low) reserved_mode
    (verdict (config_of t.low) f))
