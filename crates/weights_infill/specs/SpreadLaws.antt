-- Laws of a grid's rows at the footprint's columns: what a loop over the rows has filled, and where the places lie.
-- Assumes nothing.
use Rattle.std.specs.Prelude.{◌≡◌, cond, List, ℕ, ◌*◌, ◌/◌, ◌%◌, ◌≤◌, ◌<◌, ◌+◌, ltb, get_or, replicate}
use Rattle.std.proofs.Common.{◌∙◌, sym, ap, zero-add, mul-le-mul_right}
use native.Mathlib.Omega.{arith}
use Rattle.std.proofs.Math.Decide.{dec_lt}
use Rattle.laws.specs.Lists.{length-list_of, get_or-list_of, get_d_past, list_of, list_of-same, zeros-list_of, put_at, put_at-list_of}
use borrow.Author.Tests.{lt-ltb, le-ltb}
use Rattle.std.proofs.Math.Arith.{digits_lt}
use Rattle.weights_grid.specs.Grids.{place_of, count_of, Fits}
use Rattle.weights_grid.specs.GridLaws.{sides-in, place_in}
use Rattle.weights_infill.specs.Fast.{left_of, spread_at}
use Rattle.weights_grid.specs.declared.Grid.{Grid}

-- the rows before j, of 16 places each, and 0 after them
abbrev pub rows_to : ℕ → (ℕ → ℕ) → ℕ → ℕ
rows_to j f i = cond (ltb (i / 16) j) (f i) 0

pub rows_none : (f : ℕ → ℕ) (n : ℕ) → replicate n 0 ≡ list_of (rows_to 0 f) 0 n
rows_none f n = zeros-list_of (rows_to 0 f) n (λ k h. rw (le-ltb (k / 16) 0 (omega arith)))

module _ (g : Grid) (next : List ℕ) (p : ℕ) (fits : Fits g) (l : p < g.planes) where
  -- a row's place lies in the grid's sequence, and past it where the grid has no such row
  pub left_in : (s j : ℕ) → s < g.footprint.width → j < g.height → left_of g p s j < count_of g
  left_in s j h m =
      let c : place_of g.footprint.width g.width s / 16 < g.width = omega (arith, place_in g.footprint.width g.width s fits.sides.side fits.wide.1 h, fits.wide) in
      omega (arith, digits_lt (digits_lt m c) l)

  left-past : (s j : ℕ) → g.height ≤ j → count_of g ≤ left_of g p s j
  left-past s j h = omega (arith, mul-le-mul_right (g.width * g.planes) h)

  -- the rows of a footprint's columns, from which one row more is filled
  abbrev row : ℕ → ℕ
  row = spread_at g next p

  pub at_row : (j s : ℕ) → s < g.footprint.width → row (16 * j + s) ≡ get_or next (left_of g p s j) 0
  unfolding spread_at
  at_row j s h =
      let b : s < 16 = omega (arith, sides-in fits) in
      let e : (16 * j + s) % 16 ≡ s = omega arith in
      let d : (16 * j + s) / 16 ≡ j = omega arith in
      rw (e, d, lt-ltb s g.footprint.width h)

  pub past_row : (i : ℕ) → g.footprint.width ≤ i % 16 → row i ≡ 0
  unfolding spread_at
  past_row i h = rw (le-ltb (i % 16) g.footprint.width h)

  pub rows-turn : (at out t : List ℕ) (j k : ℕ) → ((s : ℕ) → s < g.footprint.width → get_or at s 0 ≡ place_of g.footprint.width g.width s / 16 * g.planes)
      → k ≡ p + j * (g.width * g.planes) → out ≡ list_of (rows_to j row) 0 208
      → t ≡ put_at (λ (s : ℕ). get_or next (k + get_or at s 0) 0) (16 * j) g.footprint.width out → t ≡ list_of (rows_to (j + 1) row) 0 208
  rows-turn at out t j k lefts e old q =
      q ∙ rw old (put_at-list_of _ _ _ (16 * j) g.footprint.width 208 before among after)
    where
      before : (i : ℕ) → i < 208 → i < 16 * j → rows_to j row i ≡ rows_to (j + 1) row i
      before i h m = rw (lt-ltb (i / 16) j (omega arith), lt-ltb (i / 16) (j + 1) (omega arith))

      among : (s : ℕ) → s < g.footprint.width → 16 * j + s < 208 → get_or next (k + get_or at s 0) 0 ≡ rows_to (j + 1) row (16 * j + s)
      among s h m =
          let b : s < 16 = omega (arith, sides-in fits) in
          let w : k + get_or at s 0 ≡ left_of g p s j = rw (lefts s h) (omega arith) in
          ap (λ (n : ℕ). get_or next n 0) w ∙ sym (at_row j s h) ∙ rw (lt-ltb ((16 * j + s) / 16) (j + 1) (omega arith))

      after : (i : ℕ) → i < 208 → 16 * j + g.footprint.width ≤ i → rows_to j row i ≡ rows_to (j + 1) row i
      after i h m = rw (le-ltb (i / 16) j (omega arith)) (other (dec_lt (i / 16) (j + 1)))
        where
          other : Dec (i / 16 < j + 1) → 0 ≡ rows_to (j + 1) row i
          other (yes b) = rw (lt-ltb (i / 16) (j + 1) b, past_row i (omega arith))
          other (no b) = rw (le-ltb (i / 16) (j + 1) (omega arith))

  -- after the grid's last row there is nothing
  pub rows_end : (out : List ℕ) (j : ℕ) → g.height ≤ j → ((k : ℕ) → count_of g ≤ k → get_or next k 0 ≡ 0) → out ≡ list_of (rows_to j row) 0 208 → out ≡ list_of row 0 208
  unfolding spread_at
  rows_end out j h past e = e ∙ list_of-same _ _ 208 (λ i m. at i (dec_lt (i / 16) j) (dec_lt (i % 16) g.footprint.width))
    where
      at : (i : ℕ) → Dec (i / 16 < j) → Dec (i % 16 < g.footprint.width) → rows_to j row i ≡ row i
      at i (yes b) c = rw (lt-ltb (i / 16) j b)
      at i (no b) (yes c) =
          rw (le-ltb (i / 16) j (omega arith), lt-ltb (i % 16) g.footprint.width c) (sym (past (left_of g p (i % 16) (i / 16)) (left-past (i % 16) (i / 16) (omega arith))))
      at i (no b) (no c) = rw (le-ltb (i / 16) j (omega arith), le-ltb (i % 16) g.footprint.width (omega arith))

  -- the places of the list
  pub spread_at-is : (i : ℕ) → i < 208 → get_or (list_of row 0 208) i 0 ≡ row i
  spread_at-is i h = get_or-list_of row 0 208 i h ∙ ap row (zero-add i)

  pub spread-past : (i : ℕ) → g.footprint.width ≤ i % 16 → get_or (list_of row 0 208) i 0 ≡ 0
  spread-past i h = at (dec_lt i 208)
    where
      at : Dec (i < 208) → get_or (list_of row 0 208) i 0 ≡ 0
      at (yes l) = spread_at-is i l ∙ past_row i h
      at (no l) = get_d_past (list_of row 0 208) 208 i (length-list_of row 0 208) (omega arith)
