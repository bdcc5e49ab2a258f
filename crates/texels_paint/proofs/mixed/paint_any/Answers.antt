-- The lanes before 2 * i are those of the texels before i.
use mathlib.Core.Path.{◌≡◌}
use Rattle.laws.specs.Lists.{put-none}
use Rattle.lanes.specs.Lanes.{eights}
use Rattle.lanes.specs.LaneLaws.{word-stores}
use Rattle.texels.specs.TexelLaws.{as-any}
use mathlib.Core.Path.{refl}
use native.Mathlib.Omega.{arith}
use Rattle.texels_paint.proofs.mixed.paint_any.Goals as goal

pub loop-i-init : goal.loop-i-init
loop-i-init c = put-none _ 0 _

pub loop-i-preserved : goal.loop-i-preserved
loop-i-preserved c =
    word-stores _ _ _ _ _ _ _ c.loop-i.invariant (rw c.from.ensures at c.texel-x.ensures) refl refl

pub returns : goal.returns
returns c =
    let e : c.loop-i.i ≡ eights c.args.d.now.n = omega arith in
    as-any c.args.d.now.planes c.args.d.now.channel _ _ _ _ _ _ _ c.starts_of-k.ensures.0 (rw e at c.loop-i.invariant)
