-- `blend::hdr_half` meets its contract: the three pieces of the logarithm as one sum. Assumes nothing.
use Rattle.blend.specs.BlendLaws.{half_is}
use Rattle.blend.proofs.hdr_half.Goals as goal

pub returns : goal.returns
returns c = search half_is
