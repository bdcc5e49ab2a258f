-- `lanes::copy` meets its contract by its loop: before turn i the output has the words of the first i texels. Assumes nothing.
use Rattle.std.proofs.Common.{◌≡◌, ℕ, ◌+◌}
use Rattle.laws.specs.Lists.{put_at}
use Rattle.lanes.specs.Lanes.{joined_at}
use Rattle.lanes.proofs.copy.Given as goal

abbrev pub invariant-loop-i : goal.invariant-loop-i
invariant-loop-i l = l.out ≡ put_at (λ (k : ℕ). joined_at l.lanes (l.from + k)) l.to l.i l.initial.out
