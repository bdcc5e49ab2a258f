-- `astc::astc_decode_block`: the answer fits in 32 bits. Assumes nothing.
use Rattle.answers.specs.ResultLaws.{answered-lt}
use Prim.Native.Nat.{◌<◌}
use mathlib.Core.Path.{◌∙◌}
use native.Mathlib.Omega.{arith}
use Rattle.astc.proofs.astc_decode_block.Goals as goal

pub overflow_cast-result : goal.overflow_cast-result
overflow_cast-result c = let d = c.answer_number in let l : d.result < 35 = rw d.ensures (answered-lt _) in omega (arith, l)

pub returns : goal.returns
returns c =
    let d = c.decode_astc_block-outcome.ensures in
    record { value = c.answer_number.ensures ∙ rw c.footprint.ensures at d.value; out_after = rw c.footprint.ensures at d.out_after }
