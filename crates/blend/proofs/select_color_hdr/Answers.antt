-- `blend::select_color_hdr` meets its contract: the half's byte. Assumes nothing.
use Rattle.blend.specs.BlendLaws.{hdr-is}
use Rattle.blend.proofs.select_color_hdr.Goals as goal

pub hdr_to_u8-requires : goal.hdr_to_u8-requires
hdr_to_u8-requires c = c.select_half.ensures.1

pub returns : goal.returns
returns c = hdr-is _ _ _ _ _ c.select_half.ensures.0 c.hdr_to_u8.ensures
