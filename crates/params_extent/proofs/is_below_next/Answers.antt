-- `params_extent::is_below_next` meets its contract: both numbers are the block's. Assumes nothing.
use Rattle.params_extent.proofs.is_below_next.Goals as goal

pub returns : goal.returns
returns c = rw (c.getbits.ensures.0, c.getbits-2.ensures.0)
