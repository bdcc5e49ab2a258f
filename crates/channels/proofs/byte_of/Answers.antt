-- `channels::byte_of` meets its contract: the float that is no NaN has the bits that it is made of. Assumes nothing.
use borrow.Author.Rules.{rules}
use Rattle.channels.proofs.Patterns.{ret-nan, no_nan, pattern-no-nan, ret-number}
use Rattle.channels.proofs.byte_of.Goals as goal

pub returns-then-is_nan : goal.returns-then-is_nan
returns-then-is_nan c = search (rules, ret-nan)

pub pattern_byte-requires : goal.pattern_byte-requires
pattern_byte-requires c = pattern-no-nan c.args.x (search rules) (no_nan c.args.x (cc))

pub returns : goal.returns
returns c = ret-number c.args.x _ _ (search rules) (no_nan c.args.x (cc)) c.pattern_byte.ensures
