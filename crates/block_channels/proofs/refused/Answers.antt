-- `block_channels::refused` meets its contract. Assumes nothing.
use Rattle.block_channels.proofs.refused.Goals as goal

pub returns : goal.returns
returns c = rw (c.from.ensures, c.texel_of.ensures)
