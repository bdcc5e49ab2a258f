-- Values that the definitions are held to: P5 and P6 of docs/SCOPE.md, and the weights of all ranges with trits or quints, as the
-- original computes them. Each is computed.
-- Assumes nothing.
use Rattle.std.specs.Prelude.{◌≡◌, refl, [], ◌∷◌}
use Rattle.laws.specs.Lists.{list_of}
use Rattle.sequence_ranges.specs.Ranges.{range_of, ranges}
use Rattle.sequence_ranges.specs.Patterns.{copies, repeated, spelt}
use Rattle.weights_unquantise.specs.Unquantise.{alone, table, joined, digit, expanded, raised, weight_of}

pub record Values : Type 0 where
  -- trit 2 with bit 1, and quint 3 alone
  pub P5 : weight_of 4 5 ≡ 39
  pub P6 : weight_of 3 3 ≡ 48
  -- largest value 2, 4, 5, 9, 11, 19, 23
  pub trits : list_of (weight_of 1) 0 3 ≡ 0 ∷ 32 ∷ 64 ∷ []
  pub quints : list_of (weight_of 3) 0 5 ≡ 0 ∷ 16 ∷ 32 ∷ 48 ∷ 64 ∷ []
  pub trits-1 : list_of (weight_of 4) 0 6 ≡ 0 ∷ 64 ∷ 12 ∷ 52 ∷ 25 ∷ 39 ∷ []
  pub quints-1 : list_of (weight_of 6) 0 10 ≡ 0 ∷ 64 ∷ 7 ∷ 57 ∷ 14 ∷ 50 ∷ 21 ∷ 43 ∷ 28 ∷ 36 ∷ []
  pub trits-2 : list_of (weight_of 7) 0 12 ≡ 0 ∷ 64 ∷ 17 ∷ 47 ∷ 5 ∷ 59 ∷ 23 ∷ 41 ∷ 11 ∷ 53 ∷ 28 ∷ 36 ∷ []
  pub quints-2 : list_of (weight_of 9) 0 20 ≡ 0 ∷ 64 ∷ 16 ∷ 48 ∷ 3 ∷ 61 ∷ 19 ∷ 45 ∷ 6 ∷ 58 ∷ 23 ∷ 41 ∷ 9 ∷ 55 ∷ 26 ∷ 38 ∷ 13 ∷ 51 ∷ 29 ∷ 35 ∷ []
  pub trits-3 : list_of (weight_of 10) 0 24 ≡ 0 ∷ 64 ∷ 8 ∷ 56 ∷ 16 ∷ 48 ∷ 24 ∷ 40 ∷ 2 ∷ 62 ∷ 11 ∷ 53 ∷ 19 ∷ 45 ∷ 27 ∷ 37 ∷ 5 ∷ 59 ∷ 13 ∷ 51 ∷ 22 ∷ 42 ∷ 30 ∷ 34 ∷ []
  -- some plain ones, of 2, 4 and 5 bits
  pub plain : weight_of 2 2 ∷ weight_of 8 7 ∷ weight_of 8 8 ∷ weight_of 11 15 ∷ weight_of 11 16 ∷ [] ≡ 43 ∷ 29 ∷ 35 ∷ 30 ∷ 34 ∷ []

pub values : Values
unfolding list_of ranges range_of copies repeated alone spelt table joined digit expanded raised weight_of
values =
    record {
      P5 = refl;
      P6 = refl;
      trits = refl;
      quints = refl;
      trits-1 = refl;
      quints-1 = refl;
      trits-2 = refl;
      quints-2 = refl;
      trits-3 = refl;
      plain = refl;
    }
