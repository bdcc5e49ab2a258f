-- `params_modes::values_of` meets its contract: each turn adds the values of one partition more. Assumes nothing.
use Rattle.params_modes.specs.Modes.{values_to}
use Rattle.params_modes.specs.ModeLaws.{values-most}
use native.Mathlib.Numerals.{add-one}
use mathlib.Core.Path.{refl}
use native.Mathlib.Omega.{arith}
use Rattle.params_modes.proofs.values_of.Goals as goal

pub loop-i-init : goal.loop-i-init
unfolding values_to
loop-i-init c = refl

pub overflow_add-n-in-loop-i : goal.overflow_add-n-in-loop-i
overflow_add-n-in-loop-i c =
    omega (arith, values-most _ _ c.args.m.coded c.loop-i.i)

pub loop-i-preserved : goal.loop-i-preserved
unfolding values_to
loop-i-preserved c = let l = c.loop-i in rw (add-one l.i, c.class_of.ensures.0, l.invariant)
