-- `half::fp16_ieee_to_fp32_value` meets its contract: each need is a lemma of the files above. Assumes nothing.
use Rattle.std.proofs.Common.{arith}
use Rattle.half.proofs.Halves.{ret-plus, ret-minus}
use Rattle.half.proofs.fp16_ieee_to_fp32_value.Goals as goal

pub returns-then-n-lt32768 : goal.returns-then-n-lt32768
returns-then-n-lt32768 c = ret-plus _ c.args.h (omega arith) (rw c.from-n.ensures at c.magnitude-f.ensures)

pub returns-else-n-lt32768 : goal.returns-else-n-lt32768
returns-else-n-lt32768 c = ret-minus _ c.args.h (omega arith) (rw c.from-n.ensures at c.magnitude-f.ensures)
