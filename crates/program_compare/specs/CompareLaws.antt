-- The end of a count.
-- Assumes nothing.
use Rattle.std.specs.Prelude.{◌≡◌, List, ℕ, ◌≤◌}
use Rattle.std.proofs.Common.{ap, ◌∙◌, arith}
use Rattle.program_compare.specs.Compare.{differences}

-- as many words as there are were counted
pub all-counted : (words whole : List ℕ) (n k m found : ℕ) → k ≤ m → m ≤ k → found ≡ differences words whole n k → found ≡ differences words whole n m
all-counted words whole n k m found l h e = let q : k ≡ m = omega arith in e ∙ ap (differences words whole n) q
