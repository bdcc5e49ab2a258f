-- Laws of grids as wide as their footprint: a texel lies between two rows of the grid, or on one.
-- Assumes nothing.
use Rattle.std.specs.Prelude.{◌≡◌, List, [], ◌∷◌, ℕ, ◌*◌, ◌/◌, ◌%◌, ◌≤◌, ◌<◌, ◌+◌, ◌-◌, get_or}
use Rattle.std.proofs.Common.{◌∙◌, sym, ap}
use native.Mathlib.Omega.{arith}
use Rattle.weights_grid.specs.Grids.{place_of, down_of, Fits}
use Rattle.weights_grid.specs.GridLaws.{place-whole}
use Rattle.weights_infill.specs.Infill.{factors, dot, infilled, point_of, infill_at, infill_of}
use Rattle.weights_infill.specs.Fast.{texels}
use Rattle.weights_infill.specs.PlaneLaws.{texels-same, one-plane}
use Rattle.weights_infill_down.specs.Down.{down_to, whole_of}
use Rattle.weights_grid.specs.declared.Grid.{Grid}

-- a place on a column of the grid has no part of the next
between-rows : (a x b y h : ℕ) → h ≤ 16 → infilled (factors 0 h) (a ∷ x ∷ b ∷ y ∷ []) ≡ down_to a b h
unfolding infilled factors dot
between-rows a x b y h l =
    let w : (0 * h + 8) / 16 ≡ 0 = omega arith in
    let u : 16 + 0 - 0 - h ≡ 16 - h = omega arith in
    let d : h - 0 ≡ h = omega arith in
    rw (w, u, d) (omega arith)

-- on a row of the grid
on_row : (a b : ℕ) → down_to a b 0 ≡ a
on_row a b = omega arith

-- one plane's points are the whole sequence
pub point-one : (g : Grid) (at : ℕ → ℕ) → g.planes ≡ 1 → (v : ℕ) → point_of g at 0 v ≡ at v
point-one g at single v = ap at (rw single (omega arith))

module _ (g : Grid) (fits : Fits g) (same : g.width ≡ g.footprint.width) where
  module _ (at : ℕ → ℕ) (p s t : ℕ) (h : s < g.footprint.width) (m : t < g.footprint.height) where
    pub columns-at : infill_at g at p s t ≡ down_to (point_of g at p (down_of g t / 16 * g.width + s)) (point_of g at p (down_of g t / 16 * g.width + g.width + s)) (down_of g t % 16)
    unfolding infill_at
    columns-at =
        let e : place_of g.footprint.width g.footprint.width s ≡ 16 * s = place-whole g.footprint.width s fits.sides.side h in
        let q : 16 * s / 16 ≡ s = omega arith in
        let r : 16 * s % 16 ≡ 0 = omega arith in
        let l : down_of g t % 16 ≤ 16 = omega arith in
        let x = down_of g t / 16 in
        let a : s + x * g.footprint.width ≡ x * g.footprint.width + s = omega arith in
        let b : s + x * g.footprint.width + g.footprint.width ≡ x * g.footprint.width + g.footprint.width + s = omega arith in
        rw (same, e, q, r) (between-rows _ _ _ _ (down_of g t % 16) l ∙ rw (b, a))

    -- where the grid is the footprint
    pub point_at : g.height ≡ g.footprint.height → infill_at g at p s t ≡ point_of g at p (t * g.footprint.width + s)
    point_at e =
        let d : down_of g t ≡ 16 * t = rw e (place-whole g.footprint.height t fits.sides.side-high m) in
        let q : 16 * t / 16 ≡ t = omega arith in
        let r : 16 * t % 16 ≡ 0 = omega arith in
        columns-at ∙ rw (d, q, r, same) (on_row (point_of g at p (t * g.footprint.width + s)) (point_of g at p (t * g.footprint.width + g.footprint.width + s)))

  pub down_is : g.planes ≡ 1 → (wv : List ℕ) → texels g (whole_of g wv) ≡ infill_of g (λ (k : ℕ). get_or wv k 0)
  down_is single wv =
      texels-same g (whole_of g wv) (infill_at g at 0) fits (λ s t h m. sym (columns-at at 0 s t h m ∙ simp (point-one g at single))) ∙ one-plane g at fits single
    where
      at : ℕ → ℕ
      at k = get_or wv k 0
