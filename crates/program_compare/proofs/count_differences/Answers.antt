-- `program_compare::count_differences` meets its contract by its loop: each turn counts one word more. Assumes nothing.
use native.Mathlib.Numerals.{add-one}
use Rattle.program_compare.specs.Compare.{differences}
use mathlib.Core.Path.{refl}
use native.Mathlib.Omega.{arith}
use Rattle.program_compare.proofs.count_differences.Goals as goal

pub loop-k-init : goal.loop-k-init
unfolding differences
loop-k-init c = (refl, omega arith)

pub loop-k-preserved : goal.loop-k-preserved
unfolding differences
loop-k-preserved c =
    let l = c.loop-k in
    (rw (add-one l.k, l.invariant.0, c.one_if-found.ensures.0, c.expected.ensures), omega (arith, c.one_if-found.ensures.1))
