-- The places before i have the lane of the texels before i, for every function that the calls agree with.
use mathlib.Core.Path.{◌≡◌}
use Prim.Native.Nat.{ℕ, ◌<◌}
use Rattle.laws.specs.Lists.{put_at}
use Rattle.footprint.specs.Footprints.{most_texels}
use Rattle.texels_samples.proofs.put_lanes.Given as goal

abbrev pub invariant-loop-i : goal.invariant-loop-i
invariant-loop-i g l =
    (f : ℕ → ℕ) → ((i r : ℕ) → i < most_texels → goal.F-post g l.lane i r → r ≡ f i) → l.out ≡ put_at f l.at l.i l.initial.out
