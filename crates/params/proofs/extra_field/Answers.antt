-- `params::extra_field` meets its contract: the field has ten bits at most. Assumes nothing.
use Rattle.params.specs.Laws.{extra-of}
use Rattle.params.proofs.extra_field.Goals as goal

pub returns : goal.returns
returns c =
    extra-of _ _ _ c.args.k.legal.small (rw c.extra_len-len.ensures at c.getbits.ensures.0)
