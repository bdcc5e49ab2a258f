-- The byte that an encoded endpoint value stands for.
-- Written from the ASTC chapter's section "Endpoint Unquantization".
-- Assumes nothing.
use Rattle.std.specs.Prelude.{cond, List, [], ℕ, ◌+◌, ◌*◌, ◌-◌, ◌/◌, ◌%◌, ◌^◌, eqb, get_or}
use Rattle.laws.specs.Lists.{list_of}
use Rattle.sequence_ranges.specs.Ranges.{range_of}
use Rattle.sequence_ranges.specs.declared.Kind.{Kind}
use Rattle.sequence_ranges.specs.declared.Kind.TheVariants.{Plain, Trits, Quints}
use Rattle.sequence_ranges.specs.Patterns.{repeated, Row, row, spelt}
use Rattle.endpoints_unquantise.specs.Patterns.{trit_rows, quint_rows}

-- of a row of the table, the digit (trit or quint) and the plain bits m: with A the lowest of them nine times, T = (digit * C + B) xor A, and then (A & 0x80) | (T >> 2)
unfoldable pub by_row : Row → ℕ → ℕ → ℕ
by_row t digit m =
    let a = m % 2 in
    let u = digit * t.factor + spelt t.pattern m in
    128 * a + cond (eqb a 0) u (511 - u) / 4

-- the table's row of w plain bits
abbrev pub row_of : List Row → ℕ → Row
row_of rows w = get_or rows (w - 1) (row [] 0)

unfoldable pub unquantise : Kind → ℕ → ℕ → ℕ
unquantise Plain w v = repeated 8 w v
unquantise Trits w v = by_row (row_of trit_rows w) (v / 2 ^ w) (v % 2 ^ w)
unquantise Quints w v = by_row (row_of quint_rows w) (v / 2 ^ w) (v % 2 ^ w)

-- of the value v of the range q, from 4 to 20
unfoldable pub endpoint_value : ℕ → ℕ → ℕ
endpoint_value q v = unquantise (range_of q).kind (range_of q).bits v

-- of each of the first 32 values of a sequence
unfoldable pub endpoint_values : ℕ → List ℕ → List ℕ
endpoint_values q seq = list_of (λ (i : ℕ). endpoint_value q (get_or seq i 0)) 0 32
