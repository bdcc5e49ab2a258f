-- The partition of a texel: the largest of up to four ramps over the texels.
-- Written from the ASTC chapter's section "Partition Pattern Generation".
-- Assumes nothing.
use Rattle.std.specs.Prelude.{cond, ◌&&◌, ℕ, ◌+◌, ◌-◌, ◌*◌, ◌/◌, ◌%◌, leb, ltb}
use Rattle.footprint.specs.Footprints.{texels_of}
use Rattle.footprint.specs.declared.Footprint.{Footprint}
use Rattle.partition_ramps.specs.Ramps.{ramp}

-- the seed of a partition number and a count
abbrev pub seed_of : ℕ → ℕ → ℕ
seed_of number parts = number + 1024 * (parts - 1)

-- the first of the largest
unfoldable pub largest : ℕ → ℕ → ℕ → ℕ → ℕ
largest a b c d = cond (leb b a && (leb c a && leb d a)) 0 (cond (leb c b && leb d b) 1 (cond (leb d c) 2 3))

-- the ramps c and d count 0 where there are fewer partitions
unfoldable pub select : ℕ → ℕ → ℕ → ℕ → ℕ
select seed parts x y =
    largest (ramp seed parts 0 x y) (ramp seed parts 1 x y) (cond (ltb parts 3) 0 (ramp seed parts 2 x y))
    (cond (ltb parts 4) 0 (ramp seed parts 3 x y))

-- footprints of under 31 texels double the coordinates
abbrev pub scale_of : Footprint → ℕ
scale_of f = cond (ltb (texels_of f) 31) 2 1

-- the partition of texel i of a footprint, row by row
unfoldable pub partition_at : ℕ → ℕ → Footprint → ℕ → ℕ
partition_at number parts f i = select (seed_of number parts) parts (scale_of f * (i % f.width)) (scale_of f * (i / f.width))
