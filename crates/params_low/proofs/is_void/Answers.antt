-- `params_low::is_void` meets its contract by its test. Assumes nothing.
use mathlib.Core.Path.{ap}
use Prim.Native.Nat.{ℕ}
use lib.Dec.{eqb}
use Rattle.params_low.specs.Low.{is_void}
use Rattle.params_low.proofs.is_void.Goals as goal

pub returns : goal.returns
unfolding is_void
returns c = ap (λ (x : ℕ). eqb x 0x1fc) c.getbits.ensures.0
