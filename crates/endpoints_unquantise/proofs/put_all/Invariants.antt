-- `endpoints_unquantise::put_all` fills the first places with the bytes of the values, one a turn. Assumes nothing.
use Rattle.std.proofs.Common.{◌≡◌, ℕ, get_or}
use Rattle.laws.specs.Lists.{put}
use Rattle.endpoints_unquantise.proofs.put_all.Given as goal

abbrev pub invariant-loop-i : goal.invariant-loop-i
invariant-loop-i g l = l.out ≡ put (λ (k : ℕ). g.R.ByteRule.byte l.rule (get_or l.seq k 0)) 0 l.i l.initial.out
