-- The product of a byte and a number of six bits fits, and so does the sum.
use Rattle.weights_unquantise.specs.Forms.{plain_of}
use Rattle.weights_unquantise.proofs.plain.Goals as goal

pub returns : goal.returns
unfolding plain_of
returns c = rw c.from-x.ensures at c.raise.ensures
