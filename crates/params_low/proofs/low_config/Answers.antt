-- `params_low::low_config` meets its contract: the low configuration is as long as its own bits 11 and 12 say. Assumes nothing.
use mathlib.Core.Path.{◌∙◌}
use Prim.Native.Nat.{◌+◌}
use native.Mathlib.Omega.{arith}
use Rattle.bits.specs.Blocks.{value_of}
use Rattle.bits.specs.BitLaws.{bits-lt}
use Rattle.params_low.specs.Low.{low_of}
use Rattle.params_low.specs.LowLaws.{conf-most}
use Rattle.params_low.proofs.low_config.Goals as goal

pub overflow_add-parts : goal.overflow_add-parts
overflow_add-parts c = omega (arith, bits-lt (value_of c.args.b) 11 2)

pub getbits-requires-2 : goal.getbits-requires-2
getbits-requires-2 c = omega (arith, conf-most (c.getbits.result + 1))

pub returns : goal.returns
unfolding low_of
returns c = c.getbits-2.ensures.0 ∙ rw (c.low_len-len.ensures, c.getbits.ensures.0)
