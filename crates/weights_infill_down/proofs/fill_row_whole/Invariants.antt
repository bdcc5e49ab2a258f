-- The places from o on hold the weights of the columns passed, and 0 past the footprint.
use mathlib.Core.Path.{◌≡◌}
use Prim.Native.Nat.{ℕ, ◌*◌}
use lib.ListN.{get_or}
use Rattle.laws.specs.Lists.{put_at}
use Rattle.weights_infill_down.specs.Down.{whole_at}
use Rattle.weights_infill_down.proofs.fill_row_whole.Given as goal

abbrev pub invariant-loop-s : goal.invariant-loop-s
invariant-loop-s l = l.out ≡ put_at (λ (i : ℕ). whole_at l.wv l.width l.k l.h i * get_or l.keep i 0) l.o l.s l.initial.out
