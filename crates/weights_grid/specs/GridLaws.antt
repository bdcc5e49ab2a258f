-- Laws of sides and places: the tests of all sides, and that each texel lies in the grid.
-- Assumes nothing.
use Rattle.std.specs.Prelude.{◌≡◌, refl, Bool, true, false, ◌||◌, List, [], ◌∷◌, ℕ, ◌*◌, ◌/◌, ◌≤◌, ◌<◌, ◌-◌, suc, eqb, T, leb}
use Rattle.std.proofs.Common.{◌∙◌, ap, mul-le-mul, arith, leb→le, eqb→eq, eqb-true}
use Rattle.laws.specs.Table.{all, all-at, every, both_left, both_right}
use Rattle.weights_grid.specs.Grids.{step_of, place_of, placed, down_of, Fits}
use Rattle.weights_grid.specs.declared.Grid.{Grid}
use Rattle.footprint.specs.Sides.{is_side, is_in, sides}

-- what a test of every number of a list says of each
among : (test : ℕ → Bool) (n i : ℕ) (xs : List ℕ) → T (every (λ (k x : ℕ). test x) i xs) → is_in n xs ≡ true → T (test n)
among test n i [] t h = let z : ◌≡◌ {A = ℕ} 0 1 = cc in absurd (omega arith)
among test n i (x ∷ xs) t h =
    at (eqb n x) refl h (among test n (suc i) xs (both_right (test x) (every (λ (k x : ℕ). test x) (suc i) xs) t))
  where
    at : (b : Bool) → eqb n x ≡ b → (b || is_in n xs) ≡ true → (is_in n xs ≡ true → T (test n)) → T (test n)
    at true e h r = rw (eqb-true n x e) (both_left (test x) (every (λ (k x : ℕ). test x) (suc i) xs) t)
    at false e h r = r h

-- a test of every side
abbrev pub on_sides : (ℕ → Bool) → Bool
on_sides test = every (λ (k x : ℕ). test x) 0 sides

pub side-at : (test : ℕ → Bool) → T (on_sides test) → (n : ℕ) → is_side n ≡ true → T (test n)
unfolding is_side
side-at test t n h = among test n 0 sides t h

pub side-in : (n : ℕ) → is_side n ≡ true → (4 ≤ n) × (n ≤ 12)
side-in n h = (leb→le 4 n (side-at (λ (n : ℕ). leb 4 n) tt n h), leb→le n 12 (side-at (λ (n : ℕ). leb n 12) tt n h))

-- the sides of a footprint with a grid
pub sides-in : {g : Grid} → Fits g → (4 ≤ g.footprint.width) × (g.footprint.width ≤ 12) × (4 ≤ g.footprint.height) × (g.footprint.height ≤ 12)
sides-in {g} f =
    let w = side-in g.footprint.width f.sides.side in
    let h = side-in g.footprint.height f.sides.side-high in
    (w.0, w.1, h.0, h.1)

-- ---- places

-- each texel lies at or after the grid's first point, and before the last or at it
abbrev in-grid : ℕ → ℕ → ℕ → Bool
in-grid n m s = leb (place_of n m s / 16) (m - 1)

pub place_in : (n m s : ℕ) → is_side n ≡ true → m ≤ n → s < n → place_of n m s / 16 ≤ m - 1
unfolding step_of place_of
place_in n m s h l k =
    leb→le _ (m - 1)
    (all-at (in-grid n m) n
    (all-at (λ (m : ℕ). all (in-grid n m) n) (suc n) (side-at (λ (n : ℕ). all (λ (m : ℕ). all (in-grid n m) n) (suc n)) tt n h) m (omega arith))
    s k)

-- a grid as wide as the footprint has a point at each texel
pub place-whole : (n s : ℕ) → is_side n ≡ true → s < n → place_of n n s ≡ 16 * s
unfolding step_of place_of
place-whole n s h k =
    eqb→eq (place_of n n s) (16 * s)
    (all-at (λ (s : ℕ). eqb (place_of n n s) (16 * s)) n (side-at (λ (n : ℕ). all (λ (s : ℕ). eqb (place_of n n s) (16 * s)) n) tt n h) s k)

-- ---- a row's place

-- the place that the code computes is the standard's
pub down-at : (g : Grid) (d p t : ℕ) → p ≡ placed d g.height t → d ≡ step_of g.footprint.height → p ≡ down_of g t
unfolding place_of
down-at g d p t e h = e ∙ ap (λ (d : ℕ). placed d g.height t) h

-- it lies in the grid, and the row's texels in a plane
pub down-in : {g : Grid} → Fits g → (t : ℕ) → t < g.footprint.height → down_of g t / 16 ≤ 11
down-in {g} fits t h = omega (arith, place_in g.footprint.height g.height t fits.sides.side-high fits.high.1 h, fits.high, sides-in fits)

pub row-start : {g : Grid} → Fits g → (t o : ℕ) → t < g.footprint.height → o ≡ t * g.footprint.width → o ≤ 132
row-start {g} fits t o h e =
    let l : t * g.footprint.width ≤ 11 * 12 = mul-le-mul {n₂ = 11} {m₂ = 12} (omega (arith, sides-in fits)) (sides-in fits).1 in
    omega arith
