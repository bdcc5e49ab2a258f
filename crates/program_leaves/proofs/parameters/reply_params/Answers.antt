-- `program_leaves::reply_params` meets its contract: the parameters are asked for once the block is known not to be void. Assumes nothing.
use mathlib.Core.Path.{sym, ◌∙◌}
use Rattle.program_leaves.proofs.parameters.reply_params.Goals as goal

pub decode_block_params-requires : goal.decode_block_params-requires
decode_block_params-requires c = sym c.is_void.ensures ∙ c.if-is_void.false
