-- Laws of grids that are their footprint, and of the weights that a whole sequence stands for.
-- Assumes nothing.
use Rattle.std.specs.Prelude.{◌≡◌, refl, ◌&&◌, Bool, true, false, List, ltb, eqb, length, set, replicate}
use Rattle.std.proofs.Common.{◌∙◌, sym, zero-add, mod-lt, div-add-mod', div-lt_iff_lt-mul, length-set, get_or-set_same, get_or-set_other, lt-ltb, le-ltb, eqb-true}
use Rattle.std.proofs.Math.Path.{ap, fun_ext}
use Rattle.std.proofs.Math.Bool.{cond}
use Prim.Native.Nat.{ℕ, ◌*◌, ◌/◌, ◌%◌, ◌≤◌, ◌<◌, ◌+◌}
use Rattle.std.proofs.Math.Nat.{mul-le-mul_right}
use native.Mathlib.Omega.{arith}
use Rattle.std.proofs.Math.Decide.{dec_lt, ℕ_discrete}
use Rattle.std.proofs.Math.ListN.{get_or}
use Rattle.std.proofs.lemmas.List.{length-replicate}
use Rattle.laws.specs.Lists.{length-list_of, get_or-list_of, list_of, length-put, is-list_of, list_of-same, zeros-list_of, zeros-all}
use Rattle.weights_unquantise.specs.Unquantise.{weight_of}
use Rattle.weights_unquantise.specs.Forms.{each}
use Rattle.weights_unquantise.specs.UnquantiseLaws.{weight-le, weight-zero}
use Rattle.weights_grid.specs.Grids.{count_of, Fits}
use Rattle.weights_grid.specs.GridLaws.{sides-in}
use Rattle.weights_infill.specs.Infill.{point_of, infill_at, texel_of, infill_of}
use Rattle.weights_infill_down.specs.DownLaws.{point_at, point-one}
use Rattle.weights.specs.Weights.{grid_of, weights_of}
use Rattle.weights.specs.WeightsGiven.{Encoded}
use Rattle.weights.specs.Parted.{parted_to}
use Rattle.weights_grid.specs.declared.Grid.{Grid}
use Rattle.footprint.specs.Footprints.{texels_of, most_texels, most_weights}
use Rattle.lanes.specs.Lanes.{eights}

-- ---- a grid that is the footprint

module _ (g : Grid) (fits : Fits g) (same : g.width ≡ g.footprint.width) where
  module _ (at : ℕ → ℕ) (high : g.height ≡ g.footprint.height) (past : (k : ℕ) → count_of g ≤ k → at k ≡ 0) where
    -- its weights are the texels'
    texel-is : (p i : ℕ) → p < g.planes → texel_of g at p i ≡ point_of g at p i
    unfolding texel_of
    texel-is p i l = rw (lt-ltb p g.planes l) (which (dec_lt i (texels_of g.footprint)))
      where
        which : Dec (i < texels_of g.footprint) → cond (ltb i (texels_of g.footprint)) (infill_at g at p (i % g.footprint.width) (i / g.footprint.width)) 0 ≡ point_of g at p i
        which (yes b) =
            let w : 0 < g.footprint.width = omega (arith, sides-in fits) in
            let r : i < g.footprint.height * g.footprint.width = omega arith in
            rw (lt-ltb i (texels_of g.footprint) b) (point_at g fits same at p (i % g.footprint.width) (i / g.footprint.width) (mod-lt i w) ((div-lt_iff_lt-mul w).1 r) high ∙ ap (point_of g at p) (div-add-mod' i g.footprint.width))
        which (no b) =
            let n : count_of g ≤ i * g.planes + p = rw (same, high) (omega (arith, mul-le-mul_right {m = texels_of g.footprint} {n = i} g.planes (omega arith))) in
            rw (le-ltb i (texels_of g.footprint) (omega arith)) (sym (past (i * g.planes + p) n))

    pub grid-is : g.planes ≡ 1 → list_of at 0 most_weights ≡ infill_of g at
    unfolding infill_of texel_of
    grid-is single = list_of-same at _ most_weights (λ k h. which k (dec_lt k most_texels))
      where
        which : (k : ℕ) → Dec (k < most_texels) → at k ≡ texel_of g at (k / most_texels) (k % most_texels)
        which k (yes b) =
            let p : k / most_texels ≡ 0 = omega arith in
            let r : k % most_texels ≡ k = omega arith in
            rw (p, r) (sym (texel-is 0 k fits.planes.0 ∙ point-one g at single k))
        which k (no b) = past k (omega (arith, fits.few)) ∙ rw (le-ltb (k / most_texels) g.planes (omega arith))

  -- the planes of such a grid, told apart
  parts_are : (wv : List ℕ) (m : ℕ) → g.height ≡ g.footprint.height → ((k : ℕ) → count_of g ≤ k → get_or wv k 0 ≡ 0) → g.planes ≡ 2 → count_of g ≤ 2 * m
      → list_of (parted_to wv m) 0 most_weights ≡ infill_of g (λ (k : ℕ). get_or wv k 0)
  unfolding infill_of
  parts_are wv m high past two l = list_of-same _ _ most_weights (λ k h. which k h (dec_lt (k % most_texels) m))
    where
      at : ℕ → ℕ
      at k = get_or wv k 0

      texel : (k : ℕ) → k < most_weights → at (2 * (k % most_texels) + k / most_texels) ≡ texel_of g at (k / most_texels) (k % most_texels)
      texel k h =
          let e : k % most_texels * 2 + k / most_texels ≡ 2 * (k % most_texels) + k / most_texels = omega arith in
          sym (texel-is at high past (k / most_texels) (k % most_texels) (omega arith) ∙ rw (two, e))

      which : (k : ℕ) → k < most_weights → Dec (k % most_texels < m) → parted_to wv m k ≡ texel_of g at (k / most_texels) (k % most_texels)
      which k h (yes b) = rw (lt-ltb (k % most_texels) m b) (texel k h)
      which k h (no b) = rw (le-ltb (k % most_texels) m (omega arith)) (sym (past (2 * (k % most_texels) + k / most_texels) (omega arith)) ∙ texel k h)

-- ---- a loop that tells two planes apart

-- before its first turn
pub parted-none : (wv : List ℕ) → replicate most_weights 0 ≡ list_of (parted_to wv 0) 0 most_weights
parted-none wv = zeros-list_of (parted_to wv 0) most_weights (λ k h. rw (le-ltb (k % most_texels) 0 (omega arith)))

-- a texel more of each plane
pub parted-turn : (wv out : List ℕ) (i : ℕ) → i < most_texels → out ≡ list_of (parted_to wv i) 0 most_weights
    → set (set out i (get_or wv (2 * i) 0)) (most_texels + i) (get_or wv (2 * i + 1) 0) ≡ list_of (parted_to wv (i + 1)) 0 most_weights
parted-turn wv out i l e = is-list_of (parted_to wv (i + 1)) most_weights _ (length-set first (most_texels + i) _ ∙ first-length) (λ k h. at k h (ℕ_discrete k (most_texels + i)) (ℕ_discrete k i))
  where
    first : List ℕ
    first = set out i (get_or wv (2 * i) 0)

    out-length : length out ≡ most_weights
    out-length = ap length e ∙ length-list_of (parted_to wv i) 0 most_weights

    first-length : length first ≡ most_weights
    first-length = length-set out i _ ∙ out-length

    rest : (k : ℕ) → k < most_weights → (k ≡ most_texels + i → ⊥) → (k ≡ i → ⊥) → Dec (k % most_texels < i) → parted_to wv i k ≡ parted_to wv (i + 1) k
    rest k h p q (yes b) = rw (lt-ltb (k % most_texels) i b, lt-ltb (k % most_texels) (i + 1) (omega arith))
    rest k h p q (no b) = rw (le-ltb (k % most_texels) i (omega arith), le-ltb (k % most_texels) (i + 1) (omega arith))

    at : (k : ℕ) → k < most_weights → Dec (k ≡ most_texels + i) → Dec (k ≡ i) → get_or (set first (most_texels + i) (get_or wv (2 * i + 1) 0)) k 0 ≡ parted_to wv (i + 1) k
    at k h (yes p) q =
        let r : (most_texels + i) % most_texels ≡ i = omega arith in
        let d : (most_texels + i) / most_texels ≡ 1 = omega arith in
        rw p (get_or-set_same first (most_texels + i) _ 0 (omega (arith, first-length)) ∙ rw (r, d, lt-ltb i (i + 1) (omega arith)))
    at k h (no p) (yes q) =
        let r : i % most_texels ≡ i = omega arith in
        let d : 2 * i + i / most_texels ≡ 2 * i = omega arith in
        get_or-set_other first (most_texels + i) k _ 0 p ∙ rw q (get_or-set_same out i _ 0 (omega (arith, out-length)) ∙ rw (r, d, lt-ltb i (i + 1) (omega arith)))
    at k h (no p) (no q) =
        get_or-set_other first (most_texels + i) k _ 0 p
        ∙ get_or-set_other out i k _ 0 q
        ∙ rw e (get_or-list_of (parted_to wv i) 0 most_weights k h ∙ ap (parted_to wv i) (zero-add k) ∙ rest k h p q (dec_lt (k % most_texels) i))

-- ---- the tests for such grids

-- a test whether two numbers are the same, and another, of which both pass
same-and : (m n : ℕ) (b : Bool) → (eqb m n && b) ≡ true → (m ≡ n) × (b ≡ true)
same-and m n b h = at (eqb m n) (eqb-true m n) h
  where
    at : (c : Bool) → (c ≡ true → m ≡ n) → (c && b) ≡ true → (m ≡ n) × (b ≡ true)
    at true f h = (f refl, h)
    at false f h = let z : ◌≡◌ {A = ℕ} 0 1 = cc in absurd (omega arith)

pub wide-true : (g : Grid) → (eqb g.planes 1 && eqb g.width g.footprint.width) ≡ true → (g.planes ≡ 1) × (g.width ≡ g.footprint.width)
wide-true g h =
    let a = same-and g.planes 1 _ h in
    (a.0, eqb-true g.width g.footprint.width a.1)

pub whole-true : (g : Grid) → (eqb g.planes 2 && (eqb g.width g.footprint.width && eqb g.height g.footprint.height)) ≡ true → (g.planes ≡ 2) × (g.width ≡ g.footprint.width) × (g.height ≡ g.footprint.height)
whole-true g h =
    let a = same-and g.planes 2 _ h in
    let b = same-and g.width g.footprint.width _ a.1 in
    (a.0, b.0, eqb-true g.height g.footprint.height b.1)

-- ---- the weights of a whole sequence

module _ (g : Grid) (q : ℕ) (seq wv : List ℕ) (fits : Fits g) (enc : Encoded g q seq) (e : wv ≡ each (weight_of q) seq (count_of g) (replicate most_weights 0)) where
  pub grid-past : (k : ℕ) → count_of g ≤ k → grid_of q seq k ≡ 0
  unfolding grid_of
  grid-past k h = rw (enc.past k h) (weight-zero q enc.range)

  pub grid-at : (k : ℕ) → get_or wv k 0 ≡ grid_of q seq k
  unfolding grid_of
  grid-at k = rw e (zeros-all (grid_of q seq) (eights (count_of g)) most_weights k (omega (arith, fits.few)) (λ k h. grid-past k (omega arith)))

  pub grid-le : (k : ℕ) → get_or wv k 0 ≤ 64
  unfolding grid_of
  grid-le k = rw (grid-at k) (weight-le q (get_or seq k 0) enc.range (enc.below k))

  pub grid-zero : (k : ℕ) → count_of g ≤ k → get_or wv k 0 ≡ 0
  grid-zero k h = grid-at k ∙ grid-past k h

  pub grid-list : wv ≡ list_of (grid_of q seq) 0 most_weights
  grid-list = is-list_of (grid_of q seq) most_weights wv (ap length e ∙ length-put _ 0 _ (replicate most_weights 0) ∙ length-replicate {A = ℕ} most_weights 0) (λ k h. grid-at k)

  pub infill-is : infill_of g (λ (k : ℕ). get_or wv k 0) ≡ weights_of g q seq
  unfolding weights_of
  infill-is = ap (infill_of g) (fun_ext grid-at)

  pub whole_is : g.planes ≡ 1 → g.width ≡ g.footprint.width → g.height ≡ g.footprint.height → wv ≡ weights_of g q seq
  unfolding weights_of
  whole_is single same high = grid-list ∙ grid-is g fits same (grid_of q seq) high grid-past single

  pub planes-are : g.planes ≡ 2 → g.width ≡ g.footprint.width → g.height ≡ g.footprint.height → list_of (parted_to wv (eights (count_of g / 2))) 0 most_weights ≡ weights_of g q seq
  planes-are two same high =
      let l : count_of g ≤ 2 * eights (count_of g / 2) = rw two (omega arith) in
      parts_are g fits same wv (eights (count_of g / 2)) high grid-zero two l ∙ infill-is
