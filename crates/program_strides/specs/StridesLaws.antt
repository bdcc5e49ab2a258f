-- The size of an image in blocks.
-- Assumes nothing.
use Rattle.std.specs.Prelude.{ℕ, ◌+◌, ◌-◌, ◌*◌, ◌/◌, ◌≤◌, ◌<◌}
use Rattle.std.proofs.Common.{mul-le-mul, le_refl, div-lt_iff_lt-mul, arith}

-- blocks of a side of 4 or more are no more than blocks of 4
pub along-fours : (n side : ℕ) → 4 ≤ side → (n + (side - 1)) / side ≤ (n + 3) / 4
along-fours n side h =
    let m : (n + 3) / 4 * 4 ≤ (n + 3) / 4 * side = mul-le-mul (le_refl ((n + 3) / 4)) h in
    let l : n + (side - 1) < ((n + 3) / 4 + 1) * side = omega (arith, m) in
    let d : (n + (side - 1)) / side < (n + 3) / 4 + 1 = (div-lt_iff_lt-mul {k = side} (omega arith)).1 l in
    omega arith
