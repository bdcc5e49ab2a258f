-- Unquantised values are bytes.
-- Assumes nothing.
use Rattle.std.specs.Prelude.{Bool, List, ℕ, ◌+◌, ◌≤◌, ◌<◌, ltb, get_or, length}
use Rattle.std.proofs.Common.{arith, ltb→lt, lit<}
use Rattle.std.proofs.Math.Decide.{dec_lt}
use Rattle.std.proofs.Math.ListN.{get_or-eq_default}
use Rattle.laws.specs.Table.{all, all-at}
use Rattle.laws.specs.Lists.{list_of, length-list_of, get_or-list_of}
use Rattle.sequence_ranges.specs.Ranges.{ranges, range_of, levels}
use Rattle.sequence_ranges.specs.Patterns.{copies, repeated, spelt}
use Rattle.endpoints_unquantise.specs.Patterns.{trit_rows, quint_rows}
use Rattle.endpoints_unquantise.specs.Unquantised.{by_row, unquantise, endpoint_value, endpoint_values}

byte_test : ℕ → Bool
unfolding ranges range_of levels spelt trit_rows quint_rows copies repeated by_row unquantise endpoint_value
byte_test q = all (λ (v : ℕ). ltb (endpoint_value q v) 256) (levels (range_of q))

pub value-lt : (q v : ℕ) → q < 21 → v < levels (range_of q) → endpoint_value q v < 256
unfolding byte_test
value-lt q v h l = ltb→lt (endpoint_value q v) 256 (all-at (λ (v : ℕ). ltb (endpoint_value q v) 256) (levels (range_of q)) (all-at byte_test 21 tt q h) v l)

pub values-lt : (q : ℕ) (seq : List ℕ) → q < 21 → ((i : ℕ) → get_or seq i 0 < levels (range_of q)) → (j : ℕ) → get_or (endpoint_values q seq) j 0 < 256
unfolding endpoint_values
values-lt q seq h small j = go (dec_lt j 32)
  where
    f : ℕ → ℕ
    f i = endpoint_value q (get_or seq i 0)

    go : Dec (j < 32) → get_or (list_of f 0 32) j 0 < 256
    go (yes l) = rw (get_or-list_of f 0 32 j l) (value-lt q (get_or seq (0 + j) 0) h (small (0 + j)))
    go (no l) =
        let past : length (list_of f 0 32) ≤ j = rw (length-list_of f 0 32) (omega arith) in
        rw (get_or-eq_default (list_of f 0 32) 0 past) (lit< tt)
