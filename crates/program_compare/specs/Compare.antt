-- Words and counts against what they should be.
-- Assumes nothing.
use Rattle.std.specs.Prelude.{Bool, true, cond, not, List, ℕ, zero, suc, ◌+◌, eqb, ltb, get_or}
use Rattle.program_compare.specs.declared.Came.{Came}

-- what the words hold before they are painted
abbrev pub marker : ℕ
marker = 0x0102_0304

-- what word k should hold where n words were painted, as whole has them
abbrev pub expected_at : List ℕ → ℕ → ℕ → ℕ
expected_at whole n k = cond (ltb k n) (get_or whole k 0) marker

-- how many of the first m words hold something else
unfoldable pub differences : List ℕ → List ℕ → ℕ → ℕ → ℕ
differences words whole n zero = 0
differences words whole n (suc m) = differences words whole n m + cond (not (eqb (get_or words m 0) (expected_at whole n m))) 1 0

-- a walk that did not end, was refused, painted another number of blocks or of bad ones, or left other words
unfoldable pub differs_from : Came → ℕ → ℕ → ℕ → Bool
differs_from w blocks bad found =
    cond w.moving true
    (cond (eqb w.refused 0) (cond (eqb w.painted blocks) (cond (eqb w.bad bad) (not (eqb found 0)) true) true) true)
