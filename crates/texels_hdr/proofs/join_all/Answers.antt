-- `texels_hdr::join_all`: the lanes before 2 * i are those of the texels before i. Assumes nothing.
use Rattle.texels.specs.PaintLaws.{byte-stores}
use mathlib.Core.Path.{◌≡◌, refl}
use Rattle.laws.specs.Lists.{put-none}
use Rattle.lanes.specs.Lanes.{eights}
use native.Mathlib.Omega.{arith}
use Rattle.texels_hdr.proofs.join_all.Goals as goal

pub loop-i-init : goal.loop-i-init
loop-i-init c = put-none _ 0 _

pub loop-i-preserved : goal.loop-i-preserved
loop-i-preserved c =
    let low = c.joined.ensures in
    let high = c.joined-in-loop-i.ensures in
    byte-stores _ _ _ _ _ _ _ _ _ _ c.loop-i.invariant refl (omega arith) (omega arith) low.0 high.0

pub returns : goal.returns
returns c =
    let e : c.loop-i.i ≡ eights c.args.n = omega arith in
    rw e at c.loop-i.invariant
