-- `texels_numbers::number_of` meets its contract: each arm is told what the sample is. Assumes nothing.
use mathlib.Core.Path.{sym, ap, ◌∙◌}
use Rattle.channels.specs.Channels.{number_of}
use Rattle.texels_numbers.proofs.number_of.Goals as goal

pub returns-in-Half : goal.returns-in-Half
returns-in-Half c = c.float_bits.ensures ∙ sym (ap number_of c.in-Half.is)
