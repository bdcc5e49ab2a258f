-- The first i texels of each plane are told apart.
use mathlib.Core.Path.{◌≡◌, ◌∙◌}
use native.Mathlib.Omega.{arith}
use Rattle.weights.specs.DecodeLaws.{parted-none, parted-turn}
use Rattle.lanes.specs.Lanes.{eights}
use Rattle.weights.proofs.part_planes.Goals as goal

pub loop-i-init : goal.loop-i-init
loop-i-init c = c.requires.1 ∙ parted-none c.args.wv.now

pub loop-i-preserved : goal.loop-i-preserved
loop-i-preserved c =
    parted-turn c.args.wv.now _ _ (omega arith) c.loop-i.invariant

pub returns : goal.returns
returns c =
    let e : c.loop-i.i ≡ eights c.args.n = omega arith in
    rw e at c.loop-i.invariant
