-- `texels_hdr::paint_hdr`: each channel is that of the definition, and so are the words. Assumes nothing.
use Rattle.texels_hdr.specs.HdrLaws.{channels-wide, as-hdr}
use Rattle.texels_hdr.proofs.paint_hdr.Goals as goal

pub returns : goal.returns
returns c =
    as-hdr _ _ _ _ _ _ _ c.args.d.now.given _ _ _ _ _ _ _ _ c.requires c.starts_of-k.ensures.0 c.channels_of-v.ensures c.hdr_bytes.ensures c.hdr_bytes-2.ensures c.hdr_bytes-3.ensures c.hdr_bytes-4.ensures c.join_all.ensures
