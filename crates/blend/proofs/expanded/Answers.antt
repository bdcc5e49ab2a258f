-- `blend::expanded` meets its contract: the shift loses nothing. Assumes nothing.
use Rattle.blend.specs.BlendLaws.{expanded-is, expand-lt}
use Rattle.blend.proofs.expanded.Goals as goal

pub returns : goal.returns
returns c = (expanded-is c.args.v c.requires, rw (expanded-is c.args.v c.requires) (expand-lt c.args.v c.requires))
