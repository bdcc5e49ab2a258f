-- What callers need of the weights: their number, that each is at most 64, and which entry is which texel's.
-- Assumes nothing.
use Rattle.std.specs.Prelude.{◌≡◌, ◌&&◌, List, ℕ, ◌/◌, ◌%◌, ◌≤◌, ◌<◌, ltb, length, get_or}
use Rattle.std.proofs.Common.{◌∙◌, zero-le, zero-add, mod-lt, arith}
use Rattle.std.proofs.Math.Decide.{dec_lt}
use Rattle.laws.specs.Numbers.{choice-le}
use Rattle.laws.specs.Lists.{length-list_of, get_or-list_of, get_d_past}
use Rattle.weights_unquantise.specs.UnquantiseLaws.{weight-le}
use Rattle.weights_infill.specs.Infill.{infill_at, texel_of, infill_of}
use Rattle.weights_infill.specs.InfillLaws.{infilled-le, factors-total, four-le}
use Rattle.weights.specs.Weights.{grid_of, weight_at, weights_of}
use Rattle.weights.specs.WeightsGiven.{Encoded}
use Rattle.weights_grid.specs.declared.Grid.{Grid}
use Rattle.footprint.specs.Footprints.{texels_of, most_texels, most_weights}

-- what bounds the grid's weights bounds the texels'
pub infill-le : (g : Grid) (at : ℕ → ℕ) (b p s t : ℕ) → ((k : ℕ) → at k ≤ b) → infill_at g at p s t ≤ b
unfolding infill_at
infill-le g at b p s t h = infilled-le b _ _ (factors-total _ _ (mod-lt _ (omega arith)) (mod-lt _ (omega arith))) (four-le (h _) (h _) (h _) (h _))

pub texel-le : (g : Grid) (at : ℕ → ℕ) (b p i : ℕ) → ((k : ℕ) → at k ≤ b) → texel_of g at p i ≤ b
unfolding texel_of
texel-le g at b p i h =
    choice-le (ltb p g.planes && ltb i (texels_of g.footprint)) (infill_at g at p (i % g.footprint.width) (i / g.footprint.width)) 0 (infill-le g at b p (i % g.footprint.width) (i / g.footprint.width) h) zero-le

pub weights-length : (g : Grid) (q : ℕ) (seq : List ℕ) → length (weights_of g q seq) ≡ most_weights
unfolding weights_of infill_of
weights-length g q seq = length-list_of _ 0 most_weights

-- entry i is the first plane's weight of texel i, entry most_texels + i the second's
pub weights-entry : (g : Grid) (q : ℕ) (seq : List ℕ) (i : ℕ) → i < most_weights → get_or (weights_of g q seq) i 0 ≡ weight_at g q seq (i / most_texels) (i % most_texels)
unfolding weights_of infill_of weight_at
weights-entry g q seq i h = get_or-list_of (λ (i : ℕ). texel_of g (grid_of q seq) (i / most_texels) (i % most_texels)) 0 most_weights i h ∙ rw (zero-add i)

module _ (g : Grid) (q : ℕ) (seq : List ℕ) (enc : Encoded g q seq) where
  pub weight_at-le : (p i : ℕ) → weight_at g q seq p i ≤ 64
  unfolding weight_at grid_of
  weight_at-le p i = texel-le g (grid_of q seq) 64 p i (λ k. weight-le q (get_or seq k 0) enc.range (enc.below k))

  -- every entry is at most 64
  pub weights-le : (i : ℕ) → get_or (weights_of g q seq) i 0 ≤ 64
  weights-le i = at (dec_lt i most_weights)
    where
      at : Dec (i < most_weights) → get_or (weights_of g q seq) i 0 ≤ 64
      at (yes h) = rw (weights-entry g q seq i h) (weight_at-le (i / most_texels) (i % most_texels))
      at (no h) = rw (get_d_past (weights_of g q seq) most_weights i (weights-length g q seq) (omega arith)) zero-le
