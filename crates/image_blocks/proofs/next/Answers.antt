-- `image_blocks::next` makes the definition's choice; the numbers of an image's blocks leave room for one more. Assumes nothing.
use Rattle.image_blocks.specs.Spots.{next_row, next-column}
use Rattle.image_blocks.proofs.next.Goals as goal

pub returns-then-at-across : goal.returns-then-at-across
returns-then-at-across c = search next_row

pub returns : goal.returns
returns c = search next-column
