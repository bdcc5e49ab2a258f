-- The rules that a block may break, of what its low configuration says.
-- Written from the ASTC chapter's section "Illegal Encodings".
-- Assumes nothing.
use Rattle.std.specs.Prelude.{cond, ◌&&◌, ℕ, ◌+◌, ◌-◌, ◌*◌, ◌/◌, eqb, ltb}
use Rattle.answers.specs.Answers.{legal, grid_too_large, too_many_weights, weight_bits, dual_plane_of_four, too_many_values, too_little_room}
use Rattle.footprint.specs.declared.Footprint.{Footprint}
use Rattle.params_config.specs.declared.Config.{Config}

-- the extra field: mode bits below the weights, and two for the channel of the second plane below those
abbrev pub extra_len : Config → ℕ
extra_len k = k.mode_bits + 2 * (k.planes - 1)

abbrev pub extra_at : Config → ℕ
extra_at k = 128 - (k.weight_len + extra_len k)

-- all bits but the endpoints'. The room, 128 less these, may be negative: nothing is subtracted
abbrev pub used : Config → ℕ
used k = k.low_len + extra_len k + k.weight_len

abbrev pub weights : Config → ℕ
weights k = k.width * k.height * k.planes

-- rules 15 and 16
unfoldable pub end_verdict : Config → ℕ
end_verdict k =
    cond (ltb 18 k.values) too_many_values
    (cond (ltb 128 ((13 * k.values + 4) / 5 + used k)) too_little_room
    legal)

-- rules 11 to 16
unfoldable pub verdict : Config → Footprint → ℕ
verdict k f =
    cond (ltb f.width k.width) grid_too_large
    (cond (ltb f.height k.height) grid_too_large
    (cond (ltb 64 (weights k)) too_many_weights
    (cond (ltb k.weight_len 24) weight_bits
    (cond (ltb 96 k.weight_len) weight_bits
    (cond (eqb k.planes 2 && eqb k.parts 4) dual_plane_of_four
    (end_verdict k))))))
