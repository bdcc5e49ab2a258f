-- The lanes before 2 * i are those of the texels before i, for every function that the calls agree with.
use mathlib.Core.Path.{◌≡◌}
use Prim.Native.Nat.{ℕ, ◌*◌, ◌/◌, ◌%◌, ◌<◌}
use Rattle.laws.specs.Lists.{put}
use Rattle.footprint.specs.Footprints.{most_texels}
use Rattle.lanes.specs.Lanes.{lane_at}
use Rattle.texels_ldr.proofs.put_words.Given as goal

abbrev pub invariant-loop-i : goal.invariant-loop-i
invariant-loop-i g l =
    (f : ℕ → ℕ) → ((i : ℕ) (r : ℕ × ℕ) → i < most_texels → goal.F-post g l.lanes_of i r → (r.0 ≡ f i % 65536) × (r.1 ≡ f i / 65536))
    → l.out ≡ put (lane_at f) 0 (2 * l.i) l.initial.out
