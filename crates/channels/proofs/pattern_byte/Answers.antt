-- `channels::pattern_byte` meets its contract: each way out is a law of Patterns. Assumes nothing.
use Prim.Native.Nat.{◌-◌, ◌/◌}
use native.Mathlib.Omega.{arith}
use Rattle.channels.proofs.Patterns.{finite-field, ret-infinite, ret-large, ret-minus, ret-none, shift-lt, ret-shifted}
use Rattle.channels.proofs.pattern_byte.Goals as goal

pub overflow_cast-result : goal.overflow_cast-result
overflow_cast-result c = record { fits = shift-lt _ (150 - c.args.b / 8388608) (omega arith) (omega arith) }

pub returns-in-0-to-998244351 : goal.returns-in-0-to-998244351
returns-in-0-to-998244351 c = ret-none c.args.b (λ e. omega arith) (omega arith)

pub returns-in-998244352-to-1065353215 : goal.returns-in-998244352-to-1065353215
returns-in-998244352-to-1065353215 c = ret-shifted c.args.b (λ e. omega arith) (omega arith) (omega arith)

pub returns-in-1065353216-to-2147483647 : goal.returns-in-1065353216-to-2147483647
returns-in-1065353216-to-2147483647 c = ret-large c.args.b c.requires (omega arith) (omega arith)

pub returns-in-4286578688 : goal.returns-in-4286578688
returns-in-4286578688 c = ret-infinite c.args.b (omega arith)

pub returns-in_default : goal.returns-in_default
returns-in_default c = ret-minus c.args.b (finite-field c.args.b c.requires (λ e. omega arith)) (omega arith)
