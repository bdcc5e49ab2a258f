-- `params::refuse` meets its contract: every number but the answer is 0. Assumes nothing.
use mathlib.Core.Path.{◌≡◌}
use Rattle.params_config.specs.declared.Config.{Config}
use Rattle.params.specs.Params.{no_config, refused}
use Rattle.params.proofs.refuse.Goals as goal

-- a configuration of zeros
zeros : (k : Config) → (k.width ≡ 0) × ((k.height ≡ 0) × ((k.weight_range ≡ 0) × ((k.planes ≡ 0) × ((k.parts ≡ 0) × ((k.number ≡ 0) × ((k.base ≡ 0) × ((k.low_modes ≡ 0) × ((k.values ≡ 0) × ((k.low_len ≡ 0) × ((k.mode_bits ≡ 0) × ((k.weight_len ≡ 0)))))))))))) → k ≡ no_config
zeros k e =
    let made : ◌≡◌ {A = Config} (record { width = k.width; height = k.height; weight_range = k.weight_range; planes = k.planes; parts = k.parts; number = k.number; base = k.base; low_modes = k.low_modes; values = k.values; low_len = k.low_len; mode_bits = k.mode_bits; weight_len = k.weight_len }) no_config =
    simp (e.0, e.1.0, e.1.1.0, e.1.1.1.0, e.1.1.1.1.0, e.1.1.1.1.1.0, e.1.1.1.1.1.1.0, e.1.1.1.1.1.1.1.0, e.1.1.1.1.1.1.1.1.0, e.1.1.1.1.1.1.1.1.1.0, e.1.1.1.1.1.1.1.1.1.1.0, e.1.1.1.1.1.1.1.1.1.1.1) in
    made

pub returns : goal.returns
unfolding refused
returns c = rw (c.from.ensures, zeros _ c.default.ensures)
