-- The places from o on hold the weights of the columns passed, and 0 past the footprint.
use mathlib.Core.Path.{ap}
use Prim.Native.Nat.{ℕ, ◌*◌, ◌≤◌}
use native.Mathlib.Omega.{arith}
use lib.ListN.{get_or}
use Rattle.laws.specs.Lists.{put_at-none, put_at-turn, put_at-end}
use native.Mathlib.Nat.{mul-le-mul}
use Rattle.weights_infill_down.proofs.fill_row_whole.Goals as goal

product : (c : goal.After-out-1) → c.down.result * get_or c.args.keep.now c.loop-s.s 0 ≤ 255 * 1
product c =
    mul-le-mul {n₂ = 255} {m₂ = 1} (omega (arith, c.down.ensures.1)) (c.requires.4 c.loop-s.s)

pub loop-s-init : goal.loop-s-init
loop-s-init c = put_at-none _ _ _

pub overflow_mul-out : goal.overflow_mul-out
overflow_mul-out c = omega (arith, product c)

pub overflow_cast-out : goal.overflow_cast-out
overflow_cast-out c = omega (arith, product c)

pub loop-s-preserved : goal.loop-s-preserved
loop-s-preserved c =
    put_at-turn _ _ _ _ _ _ c.loop-s.invariant (ap (λ (x : ℕ). x * get_or c.args.keep.now c.loop-s.s 0) c.down.ensures.0)

pub returns : goal.returns
returns c = put_at-end _ _ _ _ _ _ c.loop-s.invariant (omega arith) (omega arith)
