-- `half::half_times_255` meets its contract: each need is a lemma of the files above. Assumes nothing.
use Rattle.half.proofs.Halves.{ret-times}
use Rattle.half.proofs.half_times_255.Goals as goal

pub returns : goal.returns
returns c = search ret-times
