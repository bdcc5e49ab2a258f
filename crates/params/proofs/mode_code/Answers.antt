-- `params::mode_code` meets its contract: a law for each of its two ways. Assumes nothing.
use Rattle.params.specs.Laws.{code-alone, code-based}
use Rattle.params.proofs.mode_code.Goals as goal

pub returns-then-k-eq0 : goal.returns-then-k-eq0
returns-then-k-eq0 c = code-alone _ _ c.args.k.legal.small c.if-k-eq0.true

pub returns : goal.returns
returns c =
    code-based _ _ _ c.args.k.legal.small c.if-k-eq0.false c.upper_of.ensures.0
