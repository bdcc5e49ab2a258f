-- The sum's remainder is the closed form.
use Rattle.endpoints_unquantise.specs.Closed.{copied}
use Rattle.endpoints_unquantise.proofs.RepeatByteRule.byte.Goals as goal

pub returns : goal.returns
unfolding copied
returns c = rw c.from-w.ensures
