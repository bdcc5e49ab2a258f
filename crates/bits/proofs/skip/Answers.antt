-- Word by word, as the law `skipped` has it.
use Prim.Native.Nat.{◌-◌}
use native.Mathlib.Omega.{arith}
use Rattle.bits.specs.BitLaws.{skipped, both-fit}
use Rattle.bits.proofs.skip.Goals as goal

pub overflow_add-result : goal.overflow_add-result
overflow_add-result c =
    let a = c.args in
    record { fits = both-fit _ _ a.n (64 - a.n) (omega arith) (omega arith) }

pub returns : goal.returns
returns c =
    let a = c.args in skipped a.b.hi a.b.lo a.n (64 - a.n) (omega arith) (omega arith)
