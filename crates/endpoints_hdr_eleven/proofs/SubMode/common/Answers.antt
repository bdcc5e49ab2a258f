-- The sub-modes that the last arm stands for are those of no other arm. Assumes nothing.
use Rattle.std.proofs.Common.{arith}
use Rattle.endpoints_hdr_eleven.specs.Hdr11Laws.{common-rest}
use Rattle.endpoints_hdr_eleven.proofs.SubMode.common.Goals as goal

pub returns-in_default : goal.returns-in_default
returns-in_default c =
    let m = c.args.self in
    (rw c.from-c.ensures (common-rest c.args.v m.number m.one_of_eight (omega arith) (omega arith) (omega arith) (omega arith) (omega arith)), omega arith)
