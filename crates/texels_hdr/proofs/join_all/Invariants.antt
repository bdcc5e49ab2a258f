-- `texels_hdr::join_all`: the lanes before 2 * i are those of the texels before i. Assumes nothing.
use mathlib.Core.Path.{◌≡◌}
use Prim.Native.Nat.{◌*◌}
use Rattle.laws.specs.Lists.{put}
use Rattle.lanes.specs.Lanes.{lane_at}
use Rattle.texels_hdr.specs.Channels.{word_among}
use Rattle.texels_hdr.proofs.join_all.Given as goal

abbrev pub invariant-loop-i : goal.invariant-loop-i
invariant-loop-i l =
    l.out ≡ put (lane_at (word_among l.r l.g l.b l.a)) 0 (2 * l.i) l.initial.out
