-- The numbers and the marks of texels' channels, from the lanes of a block or from samples that all its texels have.
-- Assumes nothing.
use Rattle.std.specs.Prelude.{List, [], ◌∷◌, ℕ, ◌+◌, ◌*◌, ◌/◌, ◌%◌, get_or, set}
use Rattle.channels.specs.Channels.{number_of, marks_of}
use Rattle.channels.specs.declared.Samples.{Samples}
use Rattle.texels_read.specs.Read.{texel_in}
use Rattle.texels_numbers.specs.declared.Four.{Four}

-- the four numbers of a texel
abbrev pub four_of : Samples → Four
four_of s = record { r = number_of s.r; g = number_of s.g; b = number_of s.b; a = number_of s.a }

-- place j of numbers that come four a texel, f i being those of texel i
unfoldable pub fours : (ℕ → Four) → ℕ → ℕ
fours f j = let x = f (j / 4) in get_or (x.r ∷ x.g ∷ x.b ∷ x.a ∷ []) (j % 4) 0

-- the numbers of texels with these samples
abbrev pub numbers_by : (ℕ → Samples) → ℕ → ℕ
numbers_by f j = fours (λ (i : ℕ). four_of (f i)) j

-- from the lanes, and where all texels have the same
abbrev pub numbers_from : List ℕ → ℕ → ℕ
numbers_from lanes j = numbers_by (texel_in lanes) j

abbrev pub marks_from : List ℕ → ℕ → ℕ
marks_from lanes i = marks_of (texel_in lanes i)

abbrev pub numbers_in : Samples → ℕ → ℕ
numbers_in s j = numbers_by (λ (i : ℕ). s) j

-- the list s with the four numbers x from place 4 * i on
abbrev pub four_at : List ℕ → ℕ → Four → List ℕ
four_at s i x = set (set (set (set s (4 * i) x.r) (4 * i + 1) x.g) (4 * i + 2) x.b) (4 * i + 3) x.a
