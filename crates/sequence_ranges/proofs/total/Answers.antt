-- By kind, the definition; no product exceeds most_weights times 8.
use mathlib.Core.Path.{sym}
use Prim.Native.Nat.{◌*◌}
use native.Mathlib.Nat.{mul-zero, add-zero}
use Rattle.sequence_ranges.specs.Ranges.{total_of}
use Rattle.sequence_ranges.proofs.total.Goals as goal

pub returns-in-Plain : goal.returns-in-Plain
unfolding total_of
returns-in-Plain c =
    let a = c.args in rw (c.in-Plain.is, mul-zero a.n) (sym (add-zero (a.n * a.r.bits)))

pub returns-in-Trits : goal.returns-in-Trits
unfolding total_of
returns-in-Trits c = rw c.in-Trits.is

pub returns-in-Quints : goal.returns-in-Quints
unfolding total_of
returns-in-Quints c = rw c.in-Quints.is
