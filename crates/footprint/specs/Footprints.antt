-- The footprints of blocks.
-- Written from the ASTC chapter's sections "Block Determination and Bit Rates".
-- Assumes nothing.
use Rattle.std.specs.Prelude.{Bool, false, cond, ◌||◌, ℕ, ◌*◌, eqb}
use Rattle.footprint.specs.declared.Footprint.{Footprint}

abbrev pub footprint : ℕ → ℕ → Footprint
footprint w h = record { width = w; height = h }

abbrev pub texels_of : Footprint → ℕ
texels_of f = f.width * f.height

-- the texels of the largest footprint, and a weight for each of them in two planes
abbrev pub most_texels : ℕ
most_texels = 144

abbrev pub most_weights : ℕ
most_weights = 288

unfoldable pub one_of2 : ℕ → ℕ → ℕ → Bool
one_of2 h a b = eqb h a || eqb h b

-- the fourteen: the heights of each width
unfoldable pub listed : Footprint → Bool
listed f =
    let w = f.width in
    let h = f.height in
    cond (eqb w 4) (eqb h 4)
    (cond (eqb w 5) (one_of2 h 4 5)
    (cond (eqb w 6) (one_of2 h 5 6)
    (cond (eqb w 8) (one_of2 h 5 6 || eqb h 8)
    (cond (eqb w 10) (one_of2 h 5 6 || one_of2 h 8 10)
    (cond (eqb w 12) (one_of2 h 10 12)
    false)))))
