-- The lanes before 2 * i are those of the texels before i, for every function that the calls agree with.
use mathlib.Core.Path.{◌≡◌}
use Prim.Native.Nat.{◌<◌}
use Rattle.laws.specs.Lists.{put-none}
use Rattle.footprint.specs.Footprints.{most_texels}
use Rattle.lanes.specs.Lanes.{eights}
use Rattle.lanes.specs.LaneLaws.{two-stores}
use native.Mathlib.Omega.{arith}
use Rattle.texels_ldr.proofs.put_words.Goals as goal

pub loop-i-init : goal.loop-i-init
loop-i-init g c = λ f same. put-none _ 0 _

pub loop-i-preserved : goal.loop-i-preserved
loop-i-preserved g c = λ f same.
    let there : c.loop-i.i < most_texels = omega arith in
    let lanes = same _ _ there c.lanes_of-low.ensures in
    two-stores f c.loop-i.i _ _ _ _ (c.loop-i.invariant f same) lanes.0 lanes.1

pub returns : goal.returns
returns g c = λ f same.
    let e : c.loop-i.i ≡ eights c.args.n = omega arith in
    rw e at (c.loop-i.invariant f same)
