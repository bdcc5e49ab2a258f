-- `params_rules::judge_ends` meets its contract by its tests. Assumes nothing.
use Prim.Native.Nat.{◌+◌, ◌*◌, ◌/◌, ◌<◌}
use native.Mathlib.Omega.{arith}
use borrow.Author.Tests.{lt-ltb, le-ltb}
use Rattle.params_rules.specs.Rules.{used, end_verdict}
use Rattle.params_rules.proofs.judge_ends.Goals as goal

pub returns-then-k-gt18 : goal.returns-then-k-gt18
unfolding end_verdict
returns-then-k-gt18 c = simp (lt-ltb _ _ c.if-k-gt18.true)

pub returns-then-k-used_bits-gt128 : goal.returns-then-k-used_bits-gt128
unfolding end_verdict
returns-then-k-used_bits-gt128 c =
    let k = c.args.k in
    let over : 128 < (13 * k.values + 4) / 5 + used k = omega (arith, c.used_bits.ensures, c.if-k-used_bits-gt128.true) in
    simp (le-ltb _ _ c.if-k-gt18.false, lt-ltb _ _ over)

pub returns : goal.returns
unfolding end_verdict
returns c =
    simp (le-ltb _ _ c.if-k-gt18.false, le-ltb _ _ (rw c.used_bits.ensures at c.if-k-used_bits-gt128.false))
