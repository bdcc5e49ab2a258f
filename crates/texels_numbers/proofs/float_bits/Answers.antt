-- `texels_numbers::float_bits` meets its contract by its two ways out. Assumes nothing.
use native.Mathlib.Omega.{arith}
use Rattle.channels.specs.ChannelLaws.{half-no-nan, ret-nan-bits, ret-float-bits}
use Rattle.texels_numbers.proofs.float_bits.Goals as goal

pub returns-then-n-gt31744 : goal.returns-then-n-gt31744
returns-then-n-gt31744 c = rw c.from-n.ensures (ret-nan-bits c.args.h (omega (arith, c.from-n.ensures, c.if-n-gt31744.true)))

pub float_to_bits-result : goal.float_to_bits-result
float_to_bits-result c = rw c.fp16_ieee_to_fp32_value.ensures (half-no-nan c.args.h (omega (arith, c.from-n.ensures, c.if-n-gt31744.false)))

pub returns-else-n-gt31744 : goal.returns-else-n-gt31744
returns-else-n-gt31744 c = ret-float-bits _ _ (omega (arith, c.from-n.ensures, c.if-n-gt31744.false)) c.fp16_ieee_to_fp32_value.ensures
