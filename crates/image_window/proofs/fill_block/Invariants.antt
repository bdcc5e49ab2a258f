-- The word of each place is the one given.
use Prim.Native.Nat.{ℕ}
use Rattle.image_window.proofs.fill_block.Given as goal

abbrev pub ghost-put_rows : goal.ghost-put_rows
ghost-put_rows a = λ (y x : ℕ). a.word.0.now
