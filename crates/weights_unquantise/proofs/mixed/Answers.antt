-- The form's own steps.
use mathlib.Core.Path.{◌∙◌}
use Rattle.weights_unquantise.specs.Forms.{mixed_of}
use Rattle.weights_unquantise.proofs.mixed.Goals as goal

pub returns : goal.returns
unfolding mixed_of
returns c = c.raise.ensures ∙ rw (c.turn.ensures.0, c.sum.ensures.0, c.from-x.ensures)
