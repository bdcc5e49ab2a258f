-- The standard's table of the unquantisation of colour endpoints: for each range with trits or quints its pattern B and its number C.
-- Assumes nothing.
use Rattle.std.specs.Prelude.{List, [], ◌∷◌}
use Rattle.sequence_ranges.specs.Patterns.{Letter, o, b, c, d, e, f, Row, row}

-- nine letters in a row, the highest bit first
abbrev pub nine : (x8 x7 x6 x5 x4 x3 x2 x1 x0 : Letter) → List Letter
nine x8 x7 x6 x5 x4 x3 x2 x1 x0 = x8 ∷ x7 ∷ x6 ∷ x5 ∷ x4 ∷ x3 ∷ x2 ∷ x1 ∷ x0 ∷ []

-- the ranges with trits and 1 to 6 plain bits: 0..5, 0..11, 0..23, 0..47, 0..95, 0..191
unfoldable pub trit_rows : List Row
trit_rows =
    row (nine o o o o o o o o o) 204
    ∷ row (nine b o o o b o b b o) 93
    ∷ row (nine c b o o o c b c b) 44
    ∷ row (nine d c b o o o d c b) 22
    ∷ row (nine e d c b o o o e d) 11
    ∷ row (nine f e d c b o o o f) 5
    ∷ []

-- the ranges with quints and 1 to 5 plain bits: 0..9, 0..19, 0..39, 0..79, 0..159
unfoldable pub quint_rows : List Row
quint_rows =
    row (nine o o o o o o o o o) 113
    ∷ row (nine b o o o o b b o o) 54
    ∷ row (nine c b o o o o c b c) 26
    ∷ row (nine d c b o o o o d c) 13
    ∷ row (nine e d c b o o o o e) 6
    ∷ []
