-- Each range's rule passes the test over all of the range's values.
use mathlib.Core.Path.{refl}
use native.Mathlib.Omega.{arith}
use borrow.Author.Rules.{rules}
use Rattle.endpoints_unquantise.specs.Closed.{copied, same_all, repeats}
use Rattle.endpoints_unquantise.proofs.Range.repeat_of.Goals as goal

pub returns-in-5 : goal.returns-in-5
unfolding same_all copied
returns-in-5 c = repeats _ _ 5 _ (search rules) tt refl c.in-5.is

pub returns-in-8 : goal.returns-in-8
unfolding same_all copied
returns-in-8 c = repeats _ _ 8 _ (search rules) tt refl c.in-8.is

pub returns-in-11 : goal.returns-in-11
unfolding same_all copied
returns-in-11 c = repeats _ _ 11 _ (search rules) tt refl c.in-11.is

pub returns-in-14 : goal.returns-in-14
unfolding same_all copied
returns-in-14 c = repeats _ _ 14 _ (search rules) tt refl c.in-14.is

pub returns-in-17 : goal.returns-in-17
unfolding same_all copied
returns-in-17 c = repeats _ _ 17 _ (search rules) tt refl c.in-17.is

pub returns-in_default : goal.returns-in_default
unfolding same_all copied
returns-in_default c = repeats _ _ 20 _ (search rules) tt refl (omega arith)
