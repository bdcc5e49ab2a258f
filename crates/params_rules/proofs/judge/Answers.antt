-- `params_rules::judge` meets its contract: a law for each way out, in the order of the rules. Assumes nothing.
use Rattle.params_rules.specs.RuleLaws.{on-grid, on-many, on-length, on-planes, on-any-ends}
use Rattle.params_rules.proofs.judge.Goals as goal

pub returns-then-f-k : goal.returns-then-f-k
returns-then-f-k c = search on-grid

pub returns-then-k-gt64 : goal.returns-then-k-gt64
returns-then-k-gt64 c = search on-many

pub returns-then-k-lt24 : goal.returns-then-k-lt24
returns-then-k-lt24 c = search on-length

pub returns-then-k-eq4 : goal.returns-then-k-eq4
returns-then-k-eq4 c = search on-planes

pub returns : goal.returns
returns c = search on-any-ends
