-- `astc::astc_block_channels` meets its contract: options are looked at first, and either answer fits in 32 bits. Assumes nothing.
use Rattle.answers.specs.ResultLaws.{refusal-lt, answered-lt, refused-some}
use Rattle.astc.specs.SurfaceLaws.{optioned, answered}
use Prim.Native.Nat.{◌<◌}
use mathlib.Core.Path.{◌∙◌, refl}
use native.Mathlib.Omega.{arith}
use Rattle.astc.proofs.astc_block_channels.Goals as goal

pub overflow_cast-result : goal.overflow_cast-result
overflow_cast-result c = let d = c.from in let l : d.result < 35 = rw d.ensures (refusal-lt _) in omega (arith, l)

pub returns-in-Err : goal.returns-in-Err
returns-in-Err c = rw c.from.ensures (optioned _ _ _ _ _ _ c.in-Err.ensures (refused-some _))

pub overflow_cast-result-2 : goal.overflow_cast-result-2
overflow_cast-result-2 c = let d = c.answer_number in let l : d.result < 35 = rw d.ensures (answered-lt _) in omega (arith, l)

pub returns : goal.returns
returns c =
    let d = rw c.footprint.ensures at c.decode_channels-outcome.ensures in
    answered _ _ _ c.args.channels.now c.args.floats.now _ c.in_default.ensures _ _ _ refl (c.answer_number.ensures ∙ d.0, d.1, d.2)
