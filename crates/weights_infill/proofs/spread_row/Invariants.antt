-- The places from o on hold what stands at the columns passed.
use mathlib.Core.Path.{◌≡◌}
use Prim.Native.Nat.{ℕ, ◌+◌}
use lib.ListN.{get_or}
use Rattle.laws.specs.Lists.{put_at}
use Rattle.weights_infill.proofs.spread_row.Given as goal

abbrev pub invariant-loop-s : goal.invariant-loop-s
invariant-loop-s l = l.out ≡ put_at (λ (i : ℕ). get_or l.next (l.k + get_or l.at i 0) 0) l.o l.s l.initial.out
