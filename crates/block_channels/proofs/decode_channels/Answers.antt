-- `block_channels::decode_channels` meets its contract: a call is refused by its checks, or the block's channels are put. Assumes nothing.
use mathlib.Core.Path.{sym, ◌∙◌}
use Rattle.answers.specs.ResultLaws.{refused-some, passed-answered}
use Rattle.block_channels.specs.ChannelLaws.{call-refused, passed, all-put}
use Rattle.block_channels.proofs.decode_channels.Goals as goal

pub returns-in_err-refusal : goal.returns-in_err-refusal
returns-in_err-refusal c =
    let ends = call-refused _ _ _ _ _ (rw c.room_of.ensures at c.in_err-refusal.ensures) (refused-some _) in
    (passed-answered c.from_residual.result _ c.from_residual.ensures.1 ∙ ends.0, ends.1, ends.2)

pub put_block-requires : goal.put_block-requires
put_block-requires c = passed _ _ _ _ (rw c.room_of.ensures at (sym c.in_ok-refusal.ensures))

pub returns : goal.returns
returns c = all-put _ _ _ _ _ _ _ (rw c.room_of.ensures at (sym c.in_ok-refusal.ensures)) c.put_block.ensures
