-- `program_leaves::count_to` meets its contract: each turn adds the values of one mode more. Assumes nothing.
use Rattle.endpoints.specs.Endpoints.{count_to}
use Prim.Native.Nat.{◌-◌, ◌*◌, ◌≤◌}
use mathlib.Core.Path.{◌≡◌}
use Rattle.program_leaves.proofs.colours.count_to.Given as goal

abbrev pub invariant-loop-i : goal.invariant-loop-i
invariant-loop-i l = (l.n ≡ count_to l.modes l.i) × (l.n ≤ 256 * l.i)
