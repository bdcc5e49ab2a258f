-- `answers::is_bad` makes the definition's test. Assumes nothing.
use mathlib.Core.Path.{refl}
use Rattle.answers.specs.Answers.{is_bad}
use Rattle.answers.proofs.is_bad.Goals as goal

pub returns : goal.returns
unfolding is_bad
returns c = refl
