-- `endpoints_hdr_seven::parts_of_seven`: each sub-mode is a row of the table. Assumes nothing.
use Rattle.std.proofs.Common.{arith}
use Rattle.endpoints_hdr_seven.specs.HdrLaws.{seven-0, seven-1, seven-2, seven-3, seven-4, seven-5}
use Rattle.endpoints_hdr_seven.proofs.parts_of_seven.Goals as goal

pub returns-in-0 : goal.returns-in-0
returns-in-0 c =
    let e = rw (c.from-r.ensures, c.from-g.ensures, c.from-b.ensures, c.from-s.ensures) at c.seven_by.ensures.0 in
    (seven-0 _ _ _ _ _ _ (omega arith) c.in-0.is e, c.seven_by.ensures.1)

pub returns-in-1 : goal.returns-in-1
returns-in-1 c =
    let e = rw (c.from-r.ensures, c.from-g.ensures, c.from-b.ensures, c.from-s.ensures) at c.seven_by-in-1.ensures.0 in
    (seven-1 _ _ _ _ _ _ (omega arith) c.in-1.is e, c.seven_by-in-1.ensures.1)

pub returns-in-2 : goal.returns-in-2
returns-in-2 c =
    let e = rw (c.from-r.ensures, c.from-g.ensures, c.from-b.ensures, c.from-s.ensures) at c.seven_by-in-2.ensures.0 in
    (seven-2 _ _ _ _ _ _ (omega arith) c.in-2.is e, c.seven_by-in-2.ensures.1)

pub returns-in-3 : goal.returns-in-3
returns-in-3 c =
    let e = rw (c.from-r.ensures, c.from-g.ensures, c.from-b.ensures, c.from-s.ensures) at c.seven_by-in-3.ensures.0 in
    (seven-3 _ _ _ _ _ _ (omega arith) c.in-3.is e, c.seven_by-in-3.ensures.1)

pub returns-in-4 : goal.returns-in-4
returns-in-4 c =
    let e = rw (c.from-r.ensures, c.from-g.ensures, c.from-b.ensures, c.from-s.ensures) at c.seven_by-in-4.ensures.0 in
    (seven-4 _ _ _ _ _ _ (omega arith) c.in-4.is e, c.seven_by-in-4.ensures.1)

pub returns-in_default : goal.returns-in_default
returns-in_default c =
    let e = rw (c.from-r.ensures, c.from-g.ensures, c.from-b.ensures, c.from-s.ensures) at c.seven_by-in_default.ensures.0 in
    (seven-5 _ _ _ _ _ _ (omega arith) (omega arith) e, c.seven_by-in_default.ensures.1)
