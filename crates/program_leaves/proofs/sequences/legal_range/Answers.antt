-- `program_leaves::legal_range` meets its contract: every range of the list is legal. Assumes nothing.
use Rattle.sequence_ranges.specs.RangeLaws.{legal}
use Rattle.program_leaves.proofs.sequences.legal_range.Goals as goal

pub returns : goal.returns
returns c = (c.range_of.ensures, rw c.range_of.ensures (legal c.args.q c.requires))
