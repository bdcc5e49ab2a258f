-- Each turn adds the values of one partition more. Assumes nothing.
use Rattle.params_modes.specs.Modes.{values_to}
use mathlib.Core.Path.{◌≡◌}
use Rattle.params_modes.proofs.values_of.Given as goal

abbrev pub invariant-loop-i : goal.invariant-loop-i
invariant-loop-i l = l.n ≡ values_to l.m.base l.m.code l.i
