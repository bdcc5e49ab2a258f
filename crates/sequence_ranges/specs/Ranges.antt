-- The 21 ranges of the standard, the narrowest first, by their places 0 to 20. Weights use 0 to 11, endpoints 4 to 20.
-- Written from the ASTC chapter's section "Integer Sequence Encoding".
-- Assumes nothing.
use Rattle.std.specs.Prelude.{List, [], ◌∷◌, ℕ, ◌+◌, ◌*◌, ◌-◌, ◌/◌, ◌^◌, get_or}
use Rattle.sequence_ranges.specs.declared.Kind.{Kind}
use Rattle.sequence_ranges.specs.declared.Kind.TheVariants.{Plain, Trits, Quints}
use Rattle.sequence_ranges.specs.declared.Range.{Range}

abbrev pub range : Kind → ℕ → Range
range k b = record { kind = k; bits = b }

-- the range with the largest value 1, 2, 3, 4, 5, 7, 9, 11, 15, 19, 23, 31, 39, 47, 63, 79, 95, 127, 159, 191, 255
unfoldable pub ranges : List Range
ranges =
    range Plain 1
    ∷ range Trits 0
    ∷ range Plain 2
    ∷ range Quints 0
    ∷ range Trits 1
    ∷ range Plain 3
    ∷ range Quints 1
    ∷ range Trits 2
    ∷ range Plain 4
    ∷ range Quints 2
    ∷ range Trits 3
    ∷ range Plain 5
    ∷ range Quints 3
    ∷ range Trits 4
    ∷ range Plain 6
    ∷ range Quints 4
    ∷ range Trits 5
    ∷ range Plain 7
    ∷ range Quints 5
    ∷ range Trits 6
    ∷ range Plain 8
    ∷ []

unfoldable pub range_of : ℕ → Range
range_of q = get_or ranges q (range Plain 1)

-- the values of a digit: a trit's, a quint's, or none but 0
abbrev pub base : Kind → ℕ
base Plain = 1
base Trits = 3
base Quints = 5

-- how many values a range has
unfoldable pub levels : Range → ℕ
levels r = base r.kind * 2 ^ r.bits

-- the most plain bits of a value, beside its digit
abbrev pub most : Kind → ℕ
most Plain = 8
most Trits = 6
most Quints = 5

-- the largest value of each range
unfoldable pub tops : List ℕ
tops = 1 ∷ 2 ∷ 3 ∷ 4 ∷ 5 ∷ 7 ∷ 9 ∷ 11 ∷ 15 ∷ 19 ∷ 23 ∷ 31 ∷ 39 ∷ 47 ∷ 63 ∷ 79 ∷ 95 ∷ 127 ∷ 159 ∷ 191 ∷ 255 ∷ []

unfoldable pub top_of : ℕ → ℕ
top_of q = get_or tops q 0

-- ---- the bits of a sequence

-- the values of a group
abbrev pub per : Kind → ℕ
per Plain = 1
per Trits = 5
per Quints = 3

-- the bits that the digits of a group share
abbrev pub shared : Kind → ℕ
shared Plain = 0
shared Trits = 8
shared Quints = 7

-- the bits of a sequence of n values
unfoldable pub total_of : Range → ℕ → ℕ
total_of r n = n * r.bits + (n * shared r.kind + (per r.kind - 1)) / per r.kind
