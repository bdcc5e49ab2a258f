-- `program_leaves::count_to` meets its contract: each turn adds the values of one mode more. Assumes nothing.
use native.Mathlib.Numerals.{add-one}
use Rattle.endpoints.specs.Endpoints.{count_to}
use mathlib.Core.Path.{refl, ap, ◌∙◌}
use native.Mathlib.Omega.{arith}
use Rattle.program_leaves.proofs.colours.count_to.Goals as goal

pub loop-i-init : goal.loop-i-init
unfolding count_to
loop-i-init c = (refl, omega arith)

pub overflow_add-n : goal.overflow_add-n
overflow_add-n c = omega arith

pub overflow_mul-n : goal.overflow_mul-n
overflow_mul-n c = omega arith

pub overflow_add-n-in-loop-i : goal.overflow_add-n-in-loop-i
overflow_add-n-in-loop-i c = omega arith

pub loop-i-preserved : goal.loop-i-preserved
unfolding count_to
loop-i-preserved c =
    let l = c.loop-i in
    (rw (add-one l.i, c.from.ensures, l.invariant.0), omega arith)

pub returns : goal.returns
returns c = c.loop-i.invariant.0 ∙ ap (count_to c.args.modes) (omega arith)
