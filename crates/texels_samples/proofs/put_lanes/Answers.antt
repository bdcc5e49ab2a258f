-- The places before i have the lane of the texels before i, for every function that the calls agree with.
use Prim.Native.Nat.{◌<◌}
use Rattle.laws.specs.Lists.{put_at-none, put_at-turn, put_at-end}
use Rattle.footprint.specs.Footprints.{most_texels}
use native.Mathlib.Omega.{arith}
use Rattle.texels_samples.proofs.put_lanes.Goals as goal

pub loop-i-init : goal.loop-i-init
loop-i-init g c = λ f same. put_at-none _ _ _

pub loop-i-preserved : goal.loop-i-preserved
loop-i-preserved g c = λ f same.
    let there : c.loop-i.i < most_texels = omega arith in
    put_at-turn _ _ _ _ _ _ (c.loop-i.invariant f same) (same _ _ there c.lane.ensures)

pub returns : goal.returns
returns g c = λ f same. put_at-end _ _ _ _ _ _ (c.loop-i.invariant f same) (omega arith) (omega arith)
