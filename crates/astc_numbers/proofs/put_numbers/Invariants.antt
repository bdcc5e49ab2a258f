-- `astc_numbers::put_numbers`: before turn i the places before i hold the numbers before i. Assumes nothing.
use Rattle.std.proofs.Common.{◌≡◌, ℕ, get_or}
use Rattle.laws.specs.Lists.{put}
use Rattle.astc_numbers.proofs.put_numbers.Given as goal

abbrev pub invariant-loop-i : goal.invariant-loop-i
invariant-loop-i l = l.out ≡ put (λ (k : ℕ). get_or l.n k 0) 0 l.i l.initial.out
