-- `params::accept` meets its contract: each part of the record is the one that its function ensures. Assumes nothing.
use Rattle.params.specs.Params.{legal}
use Rattle.params.proofs.accept.Goals as goal

pub returns : goal.returns
unfolding legal
returns c =
    simp (c.modes_of.ensures, c.channel_of.ensures, c.mode_code-code.ensures.0, c.extra_field-e.ensures.0, c.end_range-endpoint_range.ensures.0, c.from.ensures)
