-- The line of a block that was painted, and of one that was not.
-- Assumes nothing.
use Rattle.std.specs.Prelude.{◌≡◌, ℕ, ◌≤◌, ◌<◌}
use mathlib.Core.List.{[], ◌∷◌, ◌++◌, append-nil}
use Rattle.std.proofs.Common.{lt-ltb, le-ltb}
use Rattle.program_text.specs.Text.{decimal}
use Rattle.program_line.specs.Line.{field_of, colour_of, line_of}

module _ (number answer word : ℕ) where
  pub line-painted : answer < 20 → decimal number ++ field_of answer ++ colour_of word ++ (10 ∷ []) ≡ line_of number answer word
  unfolding line_of
  line-painted h = rw (lt-ltb answer 20 h)

  pub line_refused : 20 ≤ answer → decimal number ++ field_of answer ++ (10 ∷ []) ≡ line_of number answer word
  unfolding line_of
  line_refused h = rw (le-ltb answer 20 h, append-nil (decimal number ++ field_of answer))
