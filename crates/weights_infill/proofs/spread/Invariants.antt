-- The rows before j are spread, and k is where row j starts in the grid's sequence.
use mathlib.Core.Path.{◌≡◌}
use Prim.Native.Nat.{◌+◌, ◌*◌}
use Rattle.laws.specs.Lists.{list_of}
use Rattle.weights_infill.specs.Fast.{spread_at}
use Rattle.weights_infill.specs.SpreadLaws.{rows_to}
use Rattle.weights_infill.proofs.spread.Given as goal

abbrev pub invariant-loop-j : goal.invariant-loop-j
invariant-loop-j l =
    (l.k ≡ l.plane + l.j * (l.g.width * l.g.planes)) × (l.out ≡ list_of (rows_to l.j (spread_at l.g l.next l.plane)) 0 208)
