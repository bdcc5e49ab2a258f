-- The places before i hold pairs.
use Prim.Native.Nat.{zero-le}
use native.Mathlib.Omega.{arith}
use Rattle.laws.specs.Lists.{put-none, put-turn, put-end}
use Rattle.weights_infill.proofs.neighbours.Goals as goal

pub loop-i-init : goal.loop-i-init
loop-i-init c = put-none _ _ _

pub loop-i-preserved : goal.loop-i-preserved
loop-i-preserved c =
    put-turn _ _ _ _ _ _ c.loop-i.invariant zero-le
    (rw (c.from.ensures, c.from-in-loop-i.ensures))

pub returns : goal.returns
returns c = put-end _ _ _ _ _ _ c.loop-i.invariant (omega arith) (omega arith)
