-- Each range's rule passes the test over all of the range's values.
use native.Mathlib.Omega.{arith}
use borrow.Author.Rules.{rules}
use Rattle.endpoints_unquantise.specs.Closed.{unpacked, same_all, unpacks}
use Rattle.endpoints_unquantise.proofs.Range.trit_rule.Goals as goal

pub returns-in-4 : goal.returns-in-4
unfolding same_all unpacked
returns-in-4 c = unpacks _ _ 4 _ (search rules) tt c.new.ensures c.in-4.is

pub returns-in-7 : goal.returns-in-7
unfolding same_all unpacked
returns-in-7 c = unpacks _ _ 7 _ (search rules) tt c.new-in-7.ensures c.in-7.is

pub returns-in-10 : goal.returns-in-10
unfolding same_all unpacked
returns-in-10 c = unpacks _ _ 10 _ (search rules) tt c.new-in-10.ensures c.in-10.is

pub returns-in-13 : goal.returns-in-13
unfolding same_all unpacked
returns-in-13 c = unpacks _ _ 13 _ (search rules) tt c.new-in-13.ensures c.in-13.is

pub returns-in-16 : goal.returns-in-16
unfolding same_all unpacked
returns-in-16 c = unpacks _ _ 16 _ (search rules) tt c.new-in-16.ensures c.in-16.is

pub returns-in_default : goal.returns-in_default
unfolding same_all unpacked
returns-in_default c = unpacks _ _ 19 _ (search rules) tt c.new-in_default.ensures (omega arith)
