-- `block_ordinary::decode_ordinary` meets its contract, which is that of what it calls: its block and its footprint are equal to those handed
-- over. Assumes nothing.
use Rattle.block_ordinary.proofs.decode_ordinary.Goals as goal

pub put_if_legal-requires : goal.put_if_legal-requires
put_if_legal-requires c = c.requires

pub returns : goal.returns
returns c = c.put_if_legal.ensures
