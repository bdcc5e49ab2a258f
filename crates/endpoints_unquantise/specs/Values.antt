-- Whole ranges of unquantised values, as the original gives them. Each is computed.
-- Assumes nothing.
use Rattle.std.specs.Prelude.{◌≡◌, refl, [], ◌∷◌}
use Rattle.laws.specs.Lists.{list_of}
use Rattle.sequence_ranges.specs.Ranges.{ranges, range_of}
use Rattle.sequence_ranges.specs.Patterns.{copies, repeated, spelt}
use Rattle.endpoints_unquantise.specs.Patterns.{trit_rows, quint_rows}
use Rattle.endpoints_unquantise.specs.Unquantised.{by_row, unquantise, endpoint_value}

pub record Values : Type 0 where
  -- 0..5, 0..9, and three plain bits
  pub trits : list_of (endpoint_value 4) 0 6 ≡ 0 ∷ 255 ∷ 51 ∷ 204 ∷ 102 ∷ 153 ∷ []
  pub quints : list_of (endpoint_value 6) 0 10 ≡ 0 ∷ 255 ∷ 28 ∷ 227 ∷ 56 ∷ 199 ∷ 84 ∷ 171 ∷ 113 ∷ 142 ∷ []
  pub plain : list_of (endpoint_value 5) 0 8 ≡ 0 ∷ 36 ∷ 73 ∷ 109 ∷ 146 ∷ 182 ∷ 219 ∷ 255 ∷ []

pub values : Values
unfolding list_of ranges range_of spelt trit_rows quint_rows copies repeated by_row unquantise endpoint_value
values = record { trits = refl; quints = refl; plain = refl }
