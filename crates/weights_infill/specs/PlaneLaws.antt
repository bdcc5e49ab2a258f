-- Laws that make the fast infill the standard's: a plane from pairs, and the two planes together.
-- Assumes nothing.
use Rattle.std.specs.Prelude.{◌≡◌, ◌&&◌, Bool, List, [], ◌∷◌, ltb, replicate}
use Rattle.std.proofs.Common.{◌∙◌, zero-add, mod-lt, div-lt_iff_lt-mul}
use Rattle.std.proofs.Math.Path.{refl, ap}
use Rattle.std.proofs.Math.Bool.{true, false, cond}
use Prim.Native.Nat.{ℕ, ◌*◌, ◌/◌, ◌%◌, ◌≤◌, ◌<◌, ◌+◌}
use native.Mathlib.Omega.{arith}
use Rattle.std.proofs.Math.Decide.{dec_lt}
use Rattle.std.proofs.Math.ListN.{get_or}
use Rattle.laws.specs.Numbers.{choice}
use Rattle.laws.specs.Lists.{get_or-list_of, list_of, list_of-same, zeros-all, put, put_at, put_at-list_of, zeros-at}
use borrow.Author.Tests.{lt-ltb, le-ltb}
use Rattle.weights_grid.specs.Grids.{place_of, down_of, count_of, Fits}
use Rattle.weights_grid.specs.GridLaws.{sides-in, down-in}
use Rattle.weights_infill.specs.Infill.{infilled, infill_at, texel_of, infill_of}
use Rattle.weights_infill.specs.Fast.{left_of, pair_of, low_of, Pairs, spread_at, between, row_at, rows_of, texels, plane_of}
use Rattle.weights_infill.specs.SpreadLaws.{at_row, spread_at-is}
use Rattle.weights_grid.specs.declared.Grid.{Grid}
use Rattle.footprint.specs.Footprints.{texels_of, most_texels, most_weights}
use Rattle.lanes.specs.Lanes.{eights}

four : (fs : List ℕ) {x y z w a b c d : ℕ} → x ≡ a → y ≡ b → z ≡ c → w ≡ d → infilled fs (x ∷ y ∷ z ∷ w ∷ []) ≡ infilled fs (a ∷ b ∷ c ∷ d ∷ [])
four fs p q r s = rw (p, q, r, s)

module _ (g : Grid) (next : List ℕ) (p : ℕ) (fits : Fits g) (l : p < g.planes) (pairs : Pairs g next) where
  -- the upper byte of a pair is the lower one of the next of its plane
  upper : (k : ℕ) → get_or next k 0 / 256 ≡ low_of next (k + g.planes)
  upper k = omega (arith, pairs.pair k)

  -- a texel between pairs is the standard's
  plane-at : (part : List ℕ) (s t : ℕ) → s < g.footprint.width → t < g.footprint.height → get_or part s 0 ≡ place_of g.footprint.width g.width s % 16
      → rows_of g (list_of (spread_at g next p) 0 208) part s t ≡ infill_at g (low_of next) p s t
  unfolding row_at between infill_at
  plane-at part s t h m e =
      let x = down_of g t / 16 in
      let b : x ≤ 11 = down-in fits t m in
      let c : g.footprint.width ≤ 12 = (sides-in fits).1 in
      let i : x * 16 + s ≡ 16 * x + s = omega arith in
      let j : x * 16 + 16 + s ≡ 16 * (x + 1) + s = omega arith in
      let u : get_or (list_of (spread_at g next p) 0 208) (x * 16 + s) 0 ≡ get_or next (left_of g p s x) 0 =
      rw i (spread_at-is g next p fits l (16 * x + s) (omega arith) ∙ at_row g next p fits l x s h) in
      let d : get_or (list_of (spread_at g next p) 0 208) (x * 16 + 16 + s) 0 ≡ get_or next (left_of g p s (x + 1)) 0 =
      rw j (spread_at-is g next p fits l (16 * (x + 1) + s) (omega arith) ∙ at_row g next p fits l (x + 1) s h) in
      rw (u, d, e) (four _ refl (upper _ ∙ ap (low_of next) (omega arith)) (ap (low_of next) (omega arith)) (upper _ ∙ ap (low_of next) (omega arith)))

-- a column of a list of zeros that was filled to the next multiple of 8, and a bound of each
pub column-at : (g : Grid) → Fits g → (f : ℕ → ℕ) (l : List ℕ) (s : ℕ) → l ≡ put f 0 (eights g.footprint.width) (replicate 16 0) → s < g.footprint.width → get_or l s 0 ≡ f s
column-at g fits f l s e h =
    rw e (zeros-at f (eights g.footprint.width) 16 s (omega (arith, sides-in fits)) ∙ rw (lt-ltb s (eights g.footprint.width) (omega arith)))

pub column-lt : (g : Grid) → Fits g → (f : ℕ → ℕ) (l : List ℕ) (s : ℕ) → l ≡ put f 0 (eights g.footprint.width) (replicate 16 0) → f s < 16 → get_or l s 0 < 16
column-lt g fits f l s e h = rw (e, zeros-at f (eights g.footprint.width) 16 s (omega (arith, sides-in fits))) (choice (ltb s (eights g.footprint.width)) (f s) 0 h (omega arith))

-- texels that agree
pub texels-same : (g : Grid) (f h : ℕ → ℕ → ℕ) → Fits g → ((s t : ℕ) → s < g.footprint.width → t < g.footprint.height → f s t ≡ h s t) → texels g f ≡ texels g h
unfolding texels
texels-same g f h fits same = list_of-same _ _ most_weights (λ i a. at i (dec_lt i (texels_of g.footprint)))
  where
    at : (i : ℕ) → Dec (i < texels_of g.footprint) → cond (ltb i (texels_of g.footprint)) (f (i % g.footprint.width) (i / g.footprint.width)) 0 ≡ cond (ltb i (texels_of g.footprint)) (h (i % g.footprint.width) (i / g.footprint.width)) 0
    at i (yes b) =
        let w : 0 < g.footprint.width = omega (arith, sides-in fits) in
        let r : i < g.footprint.height * g.footprint.width = omega arith in
        rw (lt-ltb i (texels_of g.footprint) b) (same (i % g.footprint.width) (i / g.footprint.width) (mod-lt i w) ((div-lt_iff_lt-mul w).1 r))
    at i (no b) = rw (le-ltb i (texels_of g.footprint) (omega arith))

-- a plane between spread pairs, with the parts of its columns, is the standard's
pub plane-is : (g : Grid) (next pairs part out : List ℕ) (p : ℕ) → Fits g → p < g.planes → Pairs g next → out ≡ texels g (rows_of g pairs part) → pairs ≡ list_of (spread_at g next p) 0 208
    → part ≡ put (λ (s : ℕ). place_of g.footprint.width g.width s % 16) 0 (eights g.footprint.width) (replicate 16 0) → out ≡ plane_of g (low_of next) p
plane-is g next pairs part out p fits l even o e c =
    o ∙ rw e (texels-same g _ (infill_at g (low_of next) p) fits (λ s t h m. plane-at g next p fits l even part s t h m (column-at g fits _ part s c h)))

module _ (g : Grid) (at : ℕ → ℕ) (fits : Fits g) where
  one : ℕ → ℕ
  one i = cond (ltb i (texels_of g.footprint)) (infill_at g at 0 (i % g.footprint.width) (i / g.footprint.width)) 0

  both : ℕ → ℕ
  both i = texel_of g at (i / most_texels) (i % most_texels)

  low : (i : ℕ) → i < most_texels → one i ≡ both i
  unfolding one both texel_of
  low i h =
      let p : i / most_texels ≡ 0 = omega arith in
      let r : i % most_texels ≡ i = omega arith in
      rw (p, r, lt-ltb 0 g.planes fits.planes.0)

  -- past a plane's texels
  one-past : (i : ℕ) → texels_of g.footprint ≤ i → one i ≡ 0
  unfolding one
  one-past i h = rw (le-ltb i (texels_of g.footprint) h)

  no-plane : (i : ℕ) → g.planes ≤ i / most_texels → 0 ≡ both i
  unfolding both texel_of
  no-plane i h = rw (le-ltb (i / most_texels) g.planes h)

  no-texel : (i : ℕ) → texels_of g.footprint ≤ i % most_texels → 0 ≡ both i
  unfolding both texel_of
  no-texel i h = rw (le-ltb (i % most_texels) (texels_of g.footprint) h) (none (ltb (i / most_texels) g.planes))
    where
      none : (b : Bool) → 0 ≡ cond (b && false) (infill_at g at (i / most_texels) (i % most_texels % g.footprint.width) (i % most_texels / g.footprint.width)) 0
      none true = refl
      none false = refl

  pub one-plane : g.planes ≡ 1 → plane_of g at 0 ≡ infill_of g at
  unfolding texels infill_of one both
  one-plane e = list_of-same one both most_weights (λ i h. which i h (dec_lt i most_texels))
    where
      which : (i : ℕ) → i < most_weights → Dec (i < most_texels) → one i ≡ both i
      which i h (yes l) = low i l
      which i h (no l) = one-past i (omega (arith, fits.sides.texels)) ∙ no-plane i (omega arith)

  pub two-planes : g.planes ≡ 2 → (out t : List ℕ) → out ≡ plane_of g at 0
      → t ≡ put_at (λ (i : ℕ). get_or (plane_of g at 1) i 0) most_texels (texels_of g.footprint) out → t ≡ infill_of g at
  unfolding texels infill_of texel_of one both
  two-planes e out t o q =
      q ∙ rw o (put_at-list_of (λ (i : ℕ). get_or (plane_of g at 1) i 0) one both most_texels (texels_of g.footprint) most_weights (λ i a b. low i b) second (λ i a b. one-past i (omega (arith, fits.sides.texels)) ∙ no-texel i (omega (arith, fits.sides.texels))))
    where
      other : ℕ → ℕ
      other i = cond (ltb i (texels_of g.footprint)) (infill_at g at 1 (i % g.footprint.width) (i / g.footprint.width)) 0

      second : (i : ℕ) → i < texels_of g.footprint → most_texels + i < most_weights → get_or (plane_of g at 1) i 0 ≡ both (most_texels + i)
      second i a b =
          let p : (most_texels + i) / most_texels ≡ 1 = omega arith in
          let r : (most_texels + i) % most_texels ≡ i = omega arith in
          let two : 1 < g.planes = omega arith in
          get_or-list_of other 0 most_weights i (omega arith) ∙ ap other (zero-add i) ∙ rw (p, r, lt-ltb 1 g.planes two)

-- the pairs of a grid's weights, to the next multiple of 8 of their number
module _ (g : Grid) (wv next : List ℕ) (fits : Fits g) (byte : (k : ℕ) → get_or wv k 0 < 256) (past : (k : ℕ) → count_of g ≤ k → get_or wv k 0 ≡ 0)
    (e : next ≡ put (pair_of g.planes wv) 0 (eights (count_of g)) (replicate 72 0)) where
  next-at : (k : ℕ) → get_or next k 0 ≡ pair_of g.planes wv k
  next-at k =
      rw e (zeros-all (pair_of g.planes wv) (eights (count_of g)) 72 k (omega (arith, fits.few))
      (λ k h. omega (arith, past k (omega arith), past (k + g.planes) (omega arith))))

  pub low-at : (k : ℕ) → low_of next k ≡ get_or wv k 0
  low-at k = omega (arith, next-at k, byte k)

  pub pairs_of : Pairs g next
  pairs_of =
      record { pair = λ k. omega (arith, next-at k, low-at k, low-at (k + g.planes)); past = λ k h. omega (arith, next-at k, past k h, past (k + g.planes) (omega arith)) }
