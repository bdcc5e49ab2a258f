-- Plain values, of b bits each, one after the other in a number d.
-- Assumes nothing.
use Rattle.std.specs.Prelude.{ℕ, ◌*◌, ◌-◌}
use Rattle.bits.specs.Bits.{bits_at}

-- what is put at place k of an output from place i on
abbrev pub plain_from : ℕ → ℕ → ℕ → ℕ → ℕ
plain_from b d i k = bits_at d ((k - i) * b) b
