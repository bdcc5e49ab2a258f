-- The sub-modes that the last arm stands for are those of no other arm. Assumes nothing.
use Rattle.std.proofs.Common.{arith}
use Rattle.endpoints_hdr_eleven.specs.Hdr11Laws.{base-rest, base-out}
use Rattle.endpoints_hdr_eleven.proofs.SubMode.base_eleven.Goals as goal

pub returns-in_default : goal.returns-in_default
returns-in_default c =
    let v = c.args.v in
    let m = c.args.self in
    rw (c.from.ensures, c.from-2.ensures)
    (base-out v m.number _ (omega arith) m.one_of_eight (base-rest v m.number m.one_of_eight (omega arith) (omega arith) (omega arith) (omega arith) (omega arith) (omega arith)))
