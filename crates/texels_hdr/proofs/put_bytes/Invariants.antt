-- The places before i have the channel of the texels before i, for every function that the calls agree with.
use mathlib.Core.Path.{◌≡◌}
use Prim.Native.Nat.{ℕ, ◌<◌}
use Rattle.laws.specs.Lists.{put}
use Rattle.footprint.specs.Footprints.{most_texels}
use Rattle.texels_hdr.proofs.put_bytes.Given as goal

abbrev pub invariant-loop-i : goal.invariant-loop-i
invariant-loop-i g l =
    (f : ℕ → ℕ) → ((i r : ℕ) → i < most_texels → goal.F-post g l.channel i r → r ≡ f i) → l.out ≡ put f 0 l.i l.initial.out
