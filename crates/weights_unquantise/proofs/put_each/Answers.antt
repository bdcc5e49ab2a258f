-- The places before i hold what each rule's function gives, for every function that the calls agree with.
use Prim.Native.Nat.{zero-le}
use native.Mathlib.Omega.{arith}
use Rattle.laws.specs.Lists.{put-none, put-turn, put-end}
use Rattle.weights_unquantise.proofs.put_each.Goals as goal

pub loop-i-init : goal.loop-i-init
loop-i-init g c = λ f same. put-none _ 0 _

pub loop-i-preserved : goal.loop-i-preserved
loop-i-preserved g c = λ f same. put-turn _ _ _ _ _ _ (c.loop-i.invariant f same) zero-le (same _ _ c.weight.ensures)

pub returns : goal.returns
returns g c = λ f same. put-end _ _ _ _ _ _ (c.loop-i.invariant f same) (omega arith) (omega arith)
