-- Each texel's samples are those of its lanes.
use Rattle.std.proofs.Common.{rules}
use Rattle.texels_numbers.proofs.put_numbers.Goals as goal

pub returns : goal.returns
returns c = c.put_fours.ensures _ (λ i r h e. search rules)
