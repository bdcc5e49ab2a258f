-- The flipped quarter is the closed form.
use Rattle.std.proofs.Common.{◌∙◌}
use Rattle.endpoints_unquantise.specs.Closed.{unpacked, one_shl}
use Rattle.endpoints_unquantise.proofs.RuleByteRule.byte.Goals as goal

pub returns : goal.returns
unfolding unpacked
returns c = c.flip.ensures ∙ rw (c.from-w.ensures, one_shl c.args.self.bits c.requires.bits)
