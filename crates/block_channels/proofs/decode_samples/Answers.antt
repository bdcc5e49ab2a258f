-- `block_channels::decode_samples` meets its contract, which is that of what it calls. Assumes nothing.
use Rattle.block_channels.proofs.decode_samples.Goals as goal

pub decode_ordinary-requires : goal.decode_ordinary-requires
decode_ordinary-requires c =
    record { b_value = c.requires.0; f_value = c.requires.1 }

pub returns : goal.returns
returns c = record { value = c.decode_ordinary.ensures.value; lanes_after = c.decode_ordinary.ensures.lanes_after }
