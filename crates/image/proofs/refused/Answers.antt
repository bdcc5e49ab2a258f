-- `image::refused`: the record is the definition's. Assumes nothing.
use Rattle.image.specs.Image.{refused_at}
use Rattle.image.proofs.refused.Goals as goal

pub returns : goal.returns
unfolding refused_at
returns c = rw c.from.ensures
