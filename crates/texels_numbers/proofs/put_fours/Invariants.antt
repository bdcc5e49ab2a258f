-- Before turn i the first i texels have their numbers, for every function that the calls agree with.
use mathlib.Core.Path.{◌≡◌}
use Prim.Native.Nat.{ℕ, ◌*◌, ◌<◌}
use Rattle.laws.specs.Lists.{put}
use Rattle.texels_numbers.specs.Numbers.{fours}
use Rattle.texels_numbers.specs.declared.Four.{Four}
use Rattle.texels_numbers.proofs.put_fours.Given as goal

abbrev pub invariant-loop-i : goal.invariant-loop-i
invariant-loop-i g l =
    (f : ℕ → Four) → ((i : ℕ) (r : Four) → i < l.n → goal.F-post g l.four i r → r ≡ f i) → l.out ≡ put (fours f) 0 (4 * l.i) l.initial.out
