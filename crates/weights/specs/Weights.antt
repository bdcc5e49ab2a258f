-- The weights of a footprint's texels from the encoded weights of its grid. A value past the end of the sequence is 0, and stands for the weight 0.
-- Written from the ASTC chapter's sections "Weight Decoding" and "Dual-Plane Decoding".
-- Assumes nothing.
use Rattle.std.specs.Prelude.{List, ℕ, get_or}
use Rattle.weights_unquantise.specs.Unquantise.{weight_of}
use Rattle.weights_infill.specs.Infill.{texel_of, infill_of}
use Rattle.weights_grid.specs.declared.Grid.{Grid}

unfoldable pub grid_of : ℕ → List ℕ → ℕ → ℕ
grid_of q seq k = weight_of q (get_or seq k 0)

-- the weight of plane p of texel i
unfoldable pub weight_at : Grid → ℕ → List ℕ → ℕ → ℕ → ℕ
weight_at g q seq p i = texel_of g (grid_of q seq) p i

unfoldable pub weights_of : Grid → ℕ → List ℕ → List ℕ
weights_of g q seq = infill_of g (grid_of q seq)
