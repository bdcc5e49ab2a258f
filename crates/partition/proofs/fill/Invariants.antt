-- `partition::fill` meets its contract: each turn fills one row more. Assumes nothing.
use Rattle.std.proofs.Common.{◌≡◌, ℕ, ◌*◌}
use Rattle.laws.specs.Lists.{put, texels}
use Rattle.partition.proofs.fill.Given as goal

abbrev pub invariant-loop-t : goal.invariant-loop-t
invariant-loop-t g l = l.out ≡ put (texels (λ (s t : ℕ). g.R.Ramps.in_row (g.R.Ramps.moved l.ramps t) s) l.width) 0 (l.width * l.t) l.initial.out
