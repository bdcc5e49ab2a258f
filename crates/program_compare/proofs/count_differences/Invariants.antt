-- `program_compare::count_differences` meets its contract by its loop: each turn counts one word more. Assumes nothing.
use lib.ListN.{length}
use Rattle.program_compare.specs.Compare.{differences}
use Prim.Native.Nat.{◌-◌, ◌≤◌}
use mathlib.Core.Path.{◌≡◌}
use Rattle.program_compare.proofs.count_differences.Given as goal

abbrev pub invariant-loop-k : goal.invariant-loop-k
invariant-loop-k l = (l.found ≡ differences l.words l.whole l.n l.k) × (l.found ≤ l.k)
