-- Each arm is computed; the last is left where the side is none of the others.
use mathlib.Core.Path.{refl, sym}
use Prim.Native.Nat.{ℕ}
use native.Mathlib.Omega.{arith}
use mathlib.Core.Bool.{◌||◌}
use lib.Dec.{T, eqb, eqb→eq}
use borrow.Author.Tests.{ne_eqb}
use Rattle.weights_grid.specs.Grids.{step_of}
use Rattle.weights_grid.specs.GridLaws.{side-at}
use Rattle.weights_grid.proofs.step_of.Goals as goal

pub returns-in-4 : goal.returns-in-4
unfolding step_of
returns-in-4 c = rw c.in-4.is (refl, omega arith)

pub returns-in-5 : goal.returns-in-5
unfolding step_of
returns-in-5 c = rw c.in-5.is (refl, omega arith)

pub returns-in-6 : goal.returns-in-6
unfolding step_of
returns-in-6 c = rw c.in-6.is (refl, omega arith)

pub returns-in-8 : goal.returns-in-8
unfolding step_of
returns-in-8 c = rw c.in-8.is (refl, omega arith)

pub returns-in-10 : goal.returns-in-10
unfolding step_of
returns-in-10 c = rw c.in-10.is (refl, omega arith)

pub returns-in_default : goal.returns-in_default
unfolding step_of
returns-in_default c =
    let r = c.in_default.in_default-own.rest in
    let n = c.args.n in
    let t = side-at (λ (n : ℕ). eqb n 4 || (eqb n 5 || (eqb n 6 || (eqb n 8 || (eqb n 10 || eqb (step_of n) 93))))) tt n c.requires in
    let e : T (eqb (step_of n) 93) = rw (ne_eqb n 4 r.0.0.0.0.1, ne_eqb n 5 r.0.0.0.1, ne_eqb n 6 r.0.0.1, ne_eqb n 8 r.0.1, ne_eqb n 10 r.1) at t in
    (sym (eqb→eq (step_of n) 93 e), omega arith)
