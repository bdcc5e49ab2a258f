-- An integer sequence of a range: its groups and its values. The sequence is one number w, whose bits past its size are 0.
-- Written from the ASTC chapter's section "Integer Sequence Encoding".
-- Assumes nothing.
use Rattle.std.specs.Prelude.{cond, List, [], ◌∷◌, ℕ, ◌+◌, ◌*◌, ◌-◌, ◌/◌, ◌%◌, ◌^◌, ltb, get_or}
use Rattle.laws.specs.Lists.{list_of}
use Rattle.bits.specs.Bits.{bits_at}
use Rattle.sequence_ranges.specs.Digits.{trits, quints}
use Rattle.sequence_ranges.specs.Ranges.{per, shared}
use Rattle.sequence_ranges.specs.declared.Kind.{Kind}
use Rattle.sequence_ranges.specs.declared.Kind.TheVariants.{Plain, Trits, Quints}
use Rattle.sequence_ranges.specs.declared.Range.{Range}

-- the bits of a group
unfoldable pub size_of : Range → ℕ
size_of r = shared r.kind + per r.kind * r.bits

-- how many of the shared bits stand before each value's own
abbrev pub gaps : Kind → List ℕ
gaps Plain = 0 ∷ []
gaps Trits = 0 ∷ 2 ∷ 4 ∷ 5 ∷ 7 ∷ []
gaps Quints = 0 ∷ 3 ∷ 5 ∷ []

-- the shared bits, together, of a group d with b plain bits a value
unfoldable pub trit_bits : ℕ → ℕ → ℕ
trit_bits b d = bits_at d b 2 + 4 * bits_at d (2 * b + 2) 2 + 16 * bits_at d (3 * b + 4) 1 + 32 * bits_at d (4 * b + 5) 2 + 128 * bits_at d (5 * b + 7) 1

unfoldable pub quint_bits : ℕ → ℕ → ℕ
quint_bits b d = bits_at d b 3 + 8 * bits_at d (2 * b + 3) 2 + 32 * bits_at d (3 * b + 5) 2

-- the digits of a group d
unfoldable pub digits_of : Kind → ℕ → ℕ → List ℕ
digits_of Plain b d = []
digits_of Trits b d = trits (trit_bits b d)
digits_of Quints b d = quints (quint_bits b d)

-- value j of a group d: its digit above its plain bits
unfoldable pub value_in : Range → ℕ → ℕ → ℕ
value_in r d j = get_or (digits_of r.kind r.bits d) j 0 * 2 ^ r.bits + bits_at d (j * r.bits + get_or (gaps r.kind) j 0) r.bits

-- group g of the sequence w
unfoldable pub group_of : Range → ℕ → ℕ → ℕ
group_of r w g = bits_at w (g * size_of r) (size_of r)

-- value i of the sequence w
unfoldable pub value_at : Range → ℕ → ℕ → ℕ
value_at r w i = value_in r (group_of r w (i / per r.kind)) (i % per r.kind)

-- the decoded sequence of n values, and 0 after them
unfoldable pub values_of : Range → ℕ → ℕ → List ℕ
values_of r w n = list_of (λ (i : ℕ). cond (ltb i n) (value_at r w i) 0) 0 72

-- what is put at place k of an output from place i on: the values of a group d
abbrev pub group_from : Range → ℕ → ℕ → ℕ → ℕ
group_from r d i k = value_in r d (k - i)
