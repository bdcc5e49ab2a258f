-- `program_leaves::values_of` meets its contract: a decoded sequence is below its range, and 0 after its values. Assumes nothing.
use Rattle.program_leaves.specs.ValuesIn.{decoded}
use Rattle.program_leaves.proofs.sequences.values_of.Goals as goal

pub returns : goal.returns
returns c =
    decoded _ _ _ _ _ c.legal_range.ensures.0 c.decode_intseq.ensures
