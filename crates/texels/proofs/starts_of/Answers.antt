-- The start of each channel.
use Rattle.texels.proofs.starts_of.Goals as goal

pub returns : goal.returns
returns c = (
  rw (c.start.ensures.0, c.start-2.ensures.0, c.start-3.ensures.0, c.start-4.ensures.0),
  record { r = c.start.ensures.1; g = c.start-2.ensures.1; b = c.start-3.ensures.1; a = c.start-4.ensures.1 },
)
