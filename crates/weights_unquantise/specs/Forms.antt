-- What the code computes of encoded values, in the code's own forms. The laws say that each equals what the standard asks.
-- Assumes nothing.
use Rattle.std.specs.Prelude.{cond, List, [], ◌∷◌, ℕ, ◌*◌, ◌/◌, ◌%◌, ◌+◌, ◌-◌, ◌^◌, eqb, get_or}
use Rattle.laws.specs.Lists.{put}
use Rattle.weights_unquantise.specs.Unquantise.{raised}
use Rattle.lanes.specs.Lanes.{eights}

-- the first places of out, as many as the next multiple of 8, each as f of what seq has there
abbrev pub each : (ℕ → ℕ) → List ℕ → ℕ → List ℕ → List ℕ
each f seq n out = put (λ (k : ℕ). f (get_or seq k 0)) 0 (eights n) out

unfoldable pub plain_of : ℕ → ℕ → ℕ → ℕ
plain_of by over v = raised ((v * by + v / 2 ^ over) % 64)

-- a digit c times, and the bits above the lowest as often as a pattern has them
abbrev pub sum_of : ℕ → ℕ → ℕ → ℕ → ℕ
sum_of bits c by v = v / 2 ^ bits * c + v % 2 ^ bits / 2 * by

-- the lowest bit turns all seven bits of t over
abbrev pub turned : ℕ → ℕ → ℕ
turned odd t = cond (eqb odd 0) (t / 4) (32 + (127 - t) / 4)

unfoldable pub mixed_of : ℕ → ℕ → ℕ → ℕ → ℕ
mixed_of bits c by v = raised (turned (v % 2) (sum_of bits c by v))

-- the form of each weight range
abbrev pub form_of : ℕ → ℕ → ℕ
form_of q =
    get_or
    (plain_of 63 8
    ∷ (λ (v : ℕ). v * 32)
    ∷ plain_of 21 8
    ∷ (λ (v : ℕ). v * 16)
    ∷ mixed_of 1 50 0
    ∷ plain_of 9 8
    ∷ mixed_of 1 28 0
    ∷ mixed_of 2 23 69
    ∷ plain_of 4 2
    ∷ mixed_of 2 13 66
    ∷ mixed_of 3 11 33
    ∷ plain_of 2 4
    ∷ []) q (plain_of 0 0)
