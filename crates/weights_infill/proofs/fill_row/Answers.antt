-- The places from o on hold the weights of the columns passed.
use native.Mathlib.Omega.{arith}
use Rattle.laws.specs.Lists.{put_at-none, put_at-turn, put_at-end}
use Rattle.weights_infill.specs.Fast.{row_at}
use Rattle.weights_infill.proofs.fill_row.Goals as goal

pub loop-s-init : goal.loop-s-init
loop-s-init c = put_at-none _ _ _

pub mixed-requires : goal.mixed-requires
mixed-requires c =
    (c.requires.4 c.loop-s.s, c.requires.3)

pub loop-s-preserved : goal.loop-s-preserved
unfolding row_at
loop-s-preserved c =
    put_at-turn _ _ _ _ _ _ c.loop-s.invariant c.mixed.ensures

pub returns : goal.returns
returns c = put_at-end _ _ _ _ _ _ c.loop-s.invariant (omega arith) (omega arith)
