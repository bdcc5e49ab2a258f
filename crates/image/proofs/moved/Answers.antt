-- `image::moved`: the record is the definition's. Assumes nothing.
use Rattle.image.specs.Image.{moved_by}
use Rattle.image.proofs.moved.Goals as goal

pub returns : goal.returns
unfolding moved_by
returns c = rw c.from.ensures
