-- The places before i have the channel of the texels before i, for every function that the calls agree with.
use Prim.Native.Nat.{◌<◌, zero-le}
use Rattle.laws.specs.Lists.{put-none, put-turn, put-end}
use Rattle.footprint.specs.Footprints.{most_texels}
use native.Mathlib.Omega.{arith}
use Rattle.texels_hdr.proofs.put_bytes.Goals as goal

pub loop-i-init : goal.loop-i-init
loop-i-init g c = λ f same. put-none _ 0 _

pub loop-i-preserved : goal.loop-i-preserved
loop-i-preserved g c = λ f same.
    let there : c.loop-i.i < most_texels = omega arith in
    put-turn _ _ _ _ _ _ (c.loop-i.invariant f same) zero-le (same _ _ there c.channel.ensures)

pub returns : goal.returns
returns g c = λ f same. put-end _ _ _ _ _ _ (c.loop-i.invariant f same) (omega arith) (omega arith)
