-- Each range's rule passes the test over all of the range's values.
use native.Mathlib.Omega.{arith}
use borrow.Author.Rules.{rules}
use Rattle.endpoints_unquantise.specs.Closed.{unpacked, same_all, unpacks}
use Rattle.endpoints_unquantise.proofs.Range.quint_rule.Goals as goal

pub returns-in-6 : goal.returns-in-6
unfolding same_all unpacked
returns-in-6 c = unpacks _ _ 6 _ (search rules) tt c.new.ensures c.in-6.is

pub returns-in-9 : goal.returns-in-9
unfolding same_all unpacked
returns-in-9 c = unpacks _ _ 9 _ (search rules) tt c.new-in-9.ensures c.in-9.is

pub returns-in-12 : goal.returns-in-12
unfolding same_all unpacked
returns-in-12 c = unpacks _ _ 12 _ (search rules) tt c.new-in-12.ensures c.in-12.is

pub returns-in-15 : goal.returns-in-15
unfolding same_all unpacked
returns-in-15 c = unpacks _ _ 15 _ (search rules) tt c.new-in-15.ensures c.in-15.is

pub returns-in_default : goal.returns-in_default
unfolding same_all unpacked
returns-in_default c = unpacks _ _ 18 _ (search rules) tt c.new-in_default.ensures (omega arith)
