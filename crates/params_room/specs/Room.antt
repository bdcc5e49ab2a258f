-- The widest range that has room.
-- Written from the ASTC chapter's section "Data Size Determination".
-- Assumes nothing.
use Rattle.std.specs.Prelude.{cond, ℕ, zero, suc, ◌+◌, leb}
use Rattle.params_config.specs.Ranges.{cost}
use Rattle.params_config.specs.declared.Config.{Config}
use Rattle.params_rules.specs.Rules.{used}

-- the widest range from 4 to 4 + k in which n values stand beside `used` other bits, and 4 if none does
unfoldable pub widest : ℕ → ℕ → ℕ → ℕ
widest zero n used = 4
widest (suc k) n used = cond (leb (cost (suc k + 4) n + used) 128) (suc k + 4) (widest k n used)

-- the range of the endpoint values
abbrev pub end_range : Config → ℕ
end_range k = widest 16 k.values (used k)
