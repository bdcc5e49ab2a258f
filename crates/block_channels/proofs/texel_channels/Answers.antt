-- `block_channels::texel_channels` meets its contract: a call is refused by its checks, or the texel is decoded. Assumes nothing.
use mathlib.Core.Path.{sym, ◌∙◌}
use Rattle.answers.specs.ResultLaws.{refused-some}
use Rattle.block_refusal.specs.RefusalLaws.{texel-accepted}
use Rattle.block_channels.specs.ChannelLaws.{texel-refused, texel-told}
use Rattle.block_channels.proofs.texel_channels.Goals as goal

pub texel_at-requires : goal.texel_at-requires
texel_at-requires c = texel-accepted _ _ _ (sym c.in-Ok.ensures)

pub returns-in-Ok : goal.returns-in-Ok
returns-in-Ok c = texel-told _ _ _ _ (sym c.in-Ok.ensures) c.texel_at.ensures

pub returns-in-Err : goal.returns-in-Err
returns-in-Err c = c.refused.ensures ∙ texel-refused _ _ _ _ c.in-Err.ensures (refused-some _)
