-- The weight that an encoded value stands for, 0 to 64: the standard's unquantisation of weights.
-- Written from the ASTC chapter's section "Weight Unquantization".
-- Assumes nothing.
use Rattle.std.specs.Prelude.{cond, List, [], ◌∷◌, ℕ, ◌*◌, ◌/◌, ◌%◌, ◌+◌, ◌-◌, ◌^◌, ltb, eqb, get_or}
use Rattle.sequence_ranges.specs.Ranges.{range_of}
use Rattle.sequence_ranges.specs.Patterns.{repeated, spelt, Letter, o, b, c, Row, row}
use Rattle.sequence_ranges.specs.declared.Kind.{Kind}
use Rattle.sequence_ranges.specs.declared.Kind.TheVariants.{Plain, Trits, Quints}

-- ---- a digit alone: the weight of each trit and of each quint
unfoldable pub alone : Kind → List ℕ
alone Plain = []
alone Trits = 0 ∷ 32 ∷ 63 ∷ []
alone Quints = 0 ∷ 16 ∷ 32 ∷ 47 ∷ 63 ∷ []

-- ---- a digit with bits

-- seven letters in a row, the highest bit first
abbrev pub seven : (x6 x5 x4 x3 x2 x1 x0 : Letter) → List Letter
seven x6 x5 x4 x3 x2 x1 x0 = x6 ∷ x5 ∷ x4 ∷ x3 ∷ x2 ∷ x1 ∷ x0 ∷ []

-- the rows of 1, 2, .. plain bits: the ranges 0..5, 0..11, 0..23 with trits and 0..9, 0..19 with quints
unfoldable pub table : Kind → List Row
table Plain = []
table Trits = row (seven o o o o o o o) 50 ∷ row (seven b o o o b o b) 23 ∷ row (seven c b o o o c b) 11 ∷ []
table Quints = row (seven o o o o o o o) 28 ∷ row (seven b o o o o b o) 13 ∷ []

-- T = (d * C + B) xor A, and (A & 0x20) | (T >> 2), for the digit d and the bits m. A is the bit a seven times: 0, or 127, with
-- which the xor is 127 less the number, and A & 0x20 is 32.
unfoldable pub joined : Row → ℕ → ℕ → ℕ
joined r d m =
    let t = d * r.factor + spelt r.pattern m in
    cond (eqb (m % 2) 0) (t / 4) (32 + (127 - t) / 4)

-- a digit with n plain bits
unfoldable pub digit : Kind → ℕ → ℕ → ℕ
digit k n v =
    cond (eqb n 0) (get_or (alone k) v 0) (joined (get_or (table k) (n - 1) (row [] 0)) (v / 2 ^ n) (v % 2 ^ n))

-- ---- every range

-- the value v of n plain bits, in 0..63
unfoldable pub expanded : Kind → ℕ → ℕ → ℕ
expanded Plain n v = repeated 6 n v
expanded Trits n v = digit Trits n v
expanded Quints n v = digit Quints n v

-- what is above 32 is one more: 0..64
unfoldable pub raised : ℕ → ℕ
raised x = cond (ltb 32 x) (x + 1) x

-- the weight that the value v of range q stands for
unfoldable pub weight_of : ℕ → ℕ → ℕ
weight_of q v = raised (expanded (range_of q).kind (range_of q).bits v)
