-- `astc::astc_decode_image`: the answer fits in 32 bits. Assumes nothing.
use Rattle.answers.specs.ResultLaws.{refused-lt}
use Prim.Native.Nat.{◌<◌}
use mathlib.Core.Path.{◌∙◌}
use native.Mathlib.Omega.{arith}
use Rattle.astc.proofs.astc_decode_image.Goals as goal

pub overflow_cast-result : goal.overflow_cast-result
overflow_cast-result c = let d = c.refusal_number in let l : d.result < 35 = rw d.ensures (refused-lt _) in omega (arith, l)

pub returns : goal.returns
returns c =
    let d = c.decode_astc-outcome.ensures in
    record { value = c.refusal_number.ensures ∙ rw c.shape.ensures at d.value; out_after = rw c.shape.ensures at d.out_after }
