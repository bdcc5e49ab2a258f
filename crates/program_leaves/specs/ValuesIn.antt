-- A sequence of n values of the range of number q, and 0 after them.
-- Assumes nothing.
use Rattle.std.specs.Prelude.{◌≡◌, List, [], ◌∷◌, ℕ, zero, suc, ◌≤◌, ◌<◌, get_or}
use Rattle.std.proofs.Common.{arith}
use Rattle.footprint.specs.Sides.{Sides}
use Rattle.sequence_ranges.specs.Ranges.{range_of, levels}
use Rattle.sequence_ranges.specs.declared.Range.{Range}
use Rattle.sequence_groups.specs.Sequence.{values_of}
use Rattle.sequence_groups.specs.SequenceLaws.{values-lt, values-past}
use Rattle.weights_grid.specs.declared.Grid.{Grid}

pub record ValuesIn (q n : ℕ) (seq : List ℕ) : Type 0 where
  pub below : (k : ℕ) → get_or seq k 0 < levels (range_of q)
  pub past : (k : ℕ) → n ≤ k → get_or seq k 0 ≡ 0

pub decoded : (q n w : ℕ) (r : Range) (seq : List ℕ) → r ≡ range_of q → seq ≡ values_of r w n → ValuesIn q n seq
decoded q n w r seq e d = rw (d, e) (record { below = values-lt (range_of q) w n; past = values-past (range_of q) w n })

-- four numbers below 16
pub all-four : (a b c d : ℕ) → a < 16 → b < 16 → c < 16 → d < 16 → (i : ℕ) → get_or (a ∷ b ∷ c ∷ d ∷ []) i 0 < 16
all-four a b c d h k l m zero = h
all-four a b c d h k l m (suc zero) = k
all-four a b c d h k l m (suc (suc zero)) = l
all-four a b c d h k l m (suc (suc (suc zero))) = m
all-four a b c d h k l m (suc (suc (suc (suc i)))) = omega arith

-- a grid inside a footprint whose sides are listed
pub record GridInside (g : Grid) : Type 0 where
  pub sides : Sides g.footprint
  pub wide : (2 ≤ g.width) × (g.width ≤ g.footprint.width)
  pub high : (2 ≤ g.height) × (g.height ≤ g.footprint.height)
