-- `texels_read::samples_at` meets its contract: four lanes. Assumes nothing.
use Rattle.texels_read.specs.ReadLaws.{texel-is}
use Rattle.texels_read.proofs.samples_at.Goals as goal

pub returns : goal.returns
returns c =
    texel-is c.args.lanes.now c.args.i c.sample_of.ensures c.sample_of-2.ensures c.sample_of-3.ensures c.sample_of-4.ensures
