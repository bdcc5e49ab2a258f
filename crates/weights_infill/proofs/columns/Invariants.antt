-- The places before s hold the columns passed; the step is the standard's.
use mathlib.Core.Path.{◌≡◌}
use Prim.Native.Nat.{ℕ, ◌*◌, ◌/◌, ◌%◌}
use Rattle.laws.specs.Lists.{put}
use Rattle.weights_grid.specs.Grids.{placed}
use Rattle.weights_infill.proofs.columns.Given as goal

abbrev pub invariant-loop-s : goal.invariant-loop-s
invariant-loop-s l = (l.at ≡ put (λ (k : ℕ). placed l.d l.width k / 16 * l.planes) 0 l.s l.initial.at)
    × (l.part ≡ put (λ (k : ℕ). placed l.d l.width k % 16) 0 l.s l.initial.part)
