-- The places before s hold the columns passed; the step is the standard's.
use mathlib.Core.Path.{ap}
use Prim.Native.Nat.{ℕ, ◌*◌, ◌/◌, ◌%◌, zero-le}
use native.Mathlib.Omega.{arith}
use Rattle.laws.specs.Lists.{put-none, put-turn, put-end}
use Rattle.weights_grid.specs.Grids.{place_of}
use Rattle.weights_grid.specs.GridLaws.{sides-in}
use native.Mathlib.Nat.{mul-le-mul}
use Rattle.weights_infill.proofs.columns.Goals as goal

pub step_of-d-requires : goal.step_of-d-requires
step_of-d-requires c = c.requires.sides.side

pub overflow_cast-width : goal.overflow_cast-width
overflow_cast-width c = omega (arith, c.requires, sides-in c.requires)

pub overflow_cast-planes : goal.overflow_cast-planes
overflow_cast-planes c =
    omega (arith, c.requires)

pub eights-s-end-requires : goal.eights-s-end-requires
eights-s-end-requires c =
    omega (arith, sides-in c.requires)

pub loop-s-init : goal.loop-s-init
loop-s-init c = (put-none _ _ _, put-none _ _ _)

pub overflow_cast-s : goal.overflow_cast-s
overflow_cast-s c =
    omega (arith, sides-in c.requires)

pub place-p-requires : goal.place-p-requires
place-p-requires c =
    omega (arith, c.requires, sides-in c.requires, c.step_of-d.ensures.1)

pub overflow_mul-at : goal.overflow_mul-at
overflow_mul-at c =
    omega (arith, mul-le-mul {n₁ = c.place-p.result / 16} {n₂ = 63} (omega (arith, c.place-p.ensures.1)) c.requires.planes.1)

pub offset_bounds-at-s : goal.offset_bounds-at-s
offset_bounds-at-s c =
    omega (arith, sides-in c.requires)

pub bounds-at-s : goal.bounds-at-s
bounds-at-s c =
    omega (arith, sides-in c.requires)

pub offset_bounds-part-s : goal.offset_bounds-part-s
offset_bounds-part-s c =
    omega (arith, sides-in c.requires)

pub bounds-part-s : goal.bounds-part-s
bounds-part-s c =
    omega (arith, sides-in c.requires)

pub loop-s-preserved : goal.loop-s-preserved
loop-s-preserved c = (
  put-turn _ _ _ _ _ _ c.loop-s.invariant.0 zero-le (ap (λ (p : ℕ). p / 16 * c.args.g.planes) c.place-p.ensures.0),
  put-turn _ _ _ _ _ _ c.loop-s.invariant.1 zero-le (ap (λ (p : ℕ). p % 16) c.place-p.ensures.0),
)

pub returns : goal.returns
unfolding place_of
returns c =
    let g = c.args.g in
    let e = c.step_of-d.ensures.0 in record { at_after = put-end _ _ _ _ _ _ (rw e at c.loop-s.invariant.0) (omega arith) (omega arith); part_after = put-end _ _ _ _ _ _ (rw e at c.loop-s.invariant.1) (omega arith) (omega arith) }
