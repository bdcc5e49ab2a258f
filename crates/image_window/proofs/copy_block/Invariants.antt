-- The word of each place is that of the texel in its row and column.
use Rattle.lanes.specs.Lanes.{joined_at}
use Prim.Native.Nat.{ℕ, ◌+◌, ◌*◌}
use Rattle.image_window.proofs.copy_block.Given as goal

abbrev pub ghost-put_rows : goal.ghost-put_rows
ghost-put_rows a = λ (y x : ℕ). joined_at a.word.0.now (y * a.word.1.now + x)
