-- The places before i hold what each rule's function gives, for every function that the calls agree with.
use mathlib.Core.Path.{◌≡◌}
use Prim.Native.Nat.{ℕ}
use lib.ListN.{get_or}
use Rattle.laws.specs.Lists.{put}
use Rattle.weights_unquantise.proofs.put_each.Given as goal

abbrev pub invariant-loop-i : goal.invariant-loop-i
invariant-loop-i g l =
    (f : ℕ → ℕ) → ((k r : ℕ) → goal.F-post g l.weight (get_or l.seq k 0) r → r ≡ f (get_or l.seq k 0))
    → l.out ≡ put (λ (k : ℕ). f (get_or l.seq k 0)) 0 l.i l.initial.out
