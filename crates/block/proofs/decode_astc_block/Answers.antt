-- `block::decode_astc_block` is refused, or paints the block's words. Assumes nothing.
use Rattle.answers.specs.ResultLaws.{refused-some, passed-answered}
use Rattle.block_refusal.specs.RefusalLaws.{accepted}
use Rattle.block.specs.Entry.{call-refused, painted}
use mathlib.Core.Path.{sym, ◌∙◌}
use Rattle.block.proofs.decode_astc_block.Goals as goal

pub returns-in_err-refusal : goal.returns-in_err-refusal
returns-in_err-refusal c =
    let both = call-refused _ _ _ _ c.in_err-refusal.ensures (refused-some _) in
    record { value = passed-answered c.from_residual.result _ c.from_residual.ensures.1 ∙ both.0; out_after = both.1 }

pub decode_words-requires : goal.decode_words-requires
decode_words-requires c =
    let passed = accepted _ _ _ (sym c.in_ok-refusal.ensures) in
    (passed.sixteen, (passed.listed, passed.room))

pub returns : goal.returns
returns c =
    let both = painted _ _ _ _ _ (sym c.in_ok-refusal.ensures) (c.decode_words.ensures.value, c.decode_words.ensures.out_after) in record { value = both.0; out_after = both.1 }
