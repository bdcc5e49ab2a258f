-- `params_config::r_of` meets its contract by its test. Assumes nothing.
use native.Mathlib.Nat.{div-one}
use mathlib.Core.Path.{◌≡◌}
use Prim.Native.Nat.{◌%◌}
use native.Mathlib.Omega.{arith}
use borrow.Author.Tests.{ne_eqb}
use Rattle.bits.specs.Bits.{bits_at}
use Rattle.params_config.specs.Config.{weight_r}
use Rattle.params_config.proofs.r_of.Goals as goal

pub returns-in-0 : goal.returns-in-0
unfolding weight_r bits_at
returns-in-0 c = simp (div-one, c.in-0.is)

pub returns-in_default : goal.returns-in_default
unfolding weight_r bits_at
returns-in_default c = simp (div-one, ne_eqb _ _ (λ (e : c.args.c % 4 ≡ 0). omega (arith, e)))
