-- The weights of a footprint's texels, made of its grid's: the standard's infill.
-- Written from the ASTC chapter's section "Weight Infill".
-- Assumes nothing.
use Rattle.std.specs.Prelude.{◌&&◌, cond, List, [], ◌∷◌, ℕ, ◌*◌, ◌/◌, ◌%◌, ◌+◌, ◌-◌, ltb}
use Rattle.laws.specs.Lists.{list_of}
use Rattle.weights_grid.specs.Grids.{place_of}
use Rattle.weights_grid.specs.declared.Grid.{Grid}
use Rattle.footprint.specs.Footprints.{texels_of, most_texels, most_weights}

-- ---- a weight between points

-- the factors w00, w01, w10, w11 of the four points around a place, by the sixteenths fs and ft beyond the first. Of w00, which is
-- 16 - fs - ft + w11, the sum stands first, so that no difference of natural numbers is cut off at 0.
unfoldable pub factors : ℕ → ℕ → List ℕ
factors fs ft =
    let w = (fs * ft + 8) / 16 in
    (16 + w - fs - ft) ∷ (fs - w) ∷ (ft - w) ∷ w ∷ []

unfoldable pub dot : List ℕ → List ℕ → ℕ
dot [] ps = 0
dot (f ∷ fs) [] = 0
dot (f ∷ fs) (p ∷ ps) = f * p + dot fs ps

-- the weight between points, of which each counts by its factor in sixteenths
unfoldable pub infilled : List ℕ → List ℕ → ℕ
infilled fs ps = (dot fs ps + 8) / 16

-- ---- texels, row by row. `at k` is the weight at place k of the grid's sequence, where the planes alternate.

-- the weight of plane p at the grid's point v
abbrev pub point_of : Grid → (ℕ → ℕ) → ℕ → ℕ → ℕ
point_of g at p v = at (v * g.planes + p)

-- the weight of plane p of the texel in column s and row t
unfoldable pub infill_at : Grid → (ℕ → ℕ) → ℕ → ℕ → ℕ → ℕ
infill_at g at p s t =
    let gs = place_of g.footprint.width g.width s in
    let gt = place_of g.footprint.height g.height t in
    let v = gs / 16 + gt / 16 * g.width in
    infilled (factors (gs % 16) (gt % 16))
    (point_of g at p v ∷ point_of g at p (v + 1) ∷ point_of g at p (v + g.width) ∷ point_of g at p (v + g.width + 1) ∷ [])

-- of texel i, and 0 where the footprint has no such texel or the grid no such plane
unfoldable pub texel_of : Grid → (ℕ → ℕ) → ℕ → ℕ → ℕ
texel_of g at p i = cond (ltb p g.planes && ltb i (texels_of g.footprint)) (infill_at g at p (i % g.footprint.width) (i / g.footprint.width)) 0

-- most_texels entries of each of two planes
unfoldable pub infill_of : Grid → (ℕ → ℕ) → List ℕ
infill_of g at = list_of (λ (i : ℕ). texel_of g at (i / most_texels) (i % most_texels)) 0 most_weights
