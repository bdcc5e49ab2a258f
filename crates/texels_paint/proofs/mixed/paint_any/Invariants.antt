-- The lanes before 2 * i are those of the texels before i.
use mathlib.Core.Path.{◌≡◌}
use Prim.Native.Nat.{ℕ, ◌*◌}
use lib.ListN.{get_or}
use Rattle.laws.specs.Lists.{put}
use Rattle.endpoints_colours.specs.Colours.{nothing}
use Rattle.lanes.specs.Lanes.{lane_at}
use Rattle.texels.specs.Kinds.{word_at}
use Rattle.texels_paint.proofs.mixed.paint_any.Given as goal

abbrev pub invariant-loop-i : goal.invariant-loop-i
invariant-loop-i l =
    l.out ≡ put (lane_at (λ (i : ℕ). word_at (get_or l.ends (get_or l.p i 0) nothing) l.w l.k i)) 0 (2 * l.i) l.initial.out
