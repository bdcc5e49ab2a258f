-- Lanes of 16 bits: words in two each, samples in four.
-- Assumes nothing.
use Rattle.std.specs.Prelude.{cond, List, ℕ, ◌+◌, ◌*◌, ◌/◌, ◌%◌, eqb, get_or}

-- four for each texel of the largest footprint
abbrev pub most_lanes : ℕ
most_lanes = 576

-- lane k of the words f 0, f 1, ..: the low 16 bits of f (k / 2), with blue and green, and then the high ones, with red and alpha
unfoldable pub lane_at : (ℕ → ℕ) → ℕ → ℕ
lane_at f k = cond (eqb (k % 2) 0) (f (k / 2) % 65536) (f (k / 2) / 65536)

-- the word of texel i whose lanes stand in h
abbrev pub joined_at : List ℕ → ℕ → ℕ
joined_at h i = get_or h (2 * i) 0 + 65536 * get_or h (2 * i + 1) 0

-- n, rounded up to a multiple of 8: as many are worked out at once
abbrev pub eights : ℕ → ℕ
eights n = (n + 7) / 8 * 8
