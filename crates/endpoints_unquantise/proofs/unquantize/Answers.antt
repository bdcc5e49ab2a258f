-- What either loop fills is the list of the range's bytes.
use native.Mathlib.Omega.{arith}
use Rattle.endpoints_unquantise.specs.Closed.{unpacked, copied, all-filled}
use Rattle.endpoints_unquantise.proofs.unquantize.Goals as goal

pub returns-then-q-eq2 : goal.returns-then-q-eq2
returns-then-q-eq2 c =
    let p = c.requires in
    all-filled (copied c.repeat_of.result) _ _ _ _ _ (omega arith) (omega arith) c.repeat_of.ensures.right p.by_index p.by_index_2 p.out_value c.put_all.ensures

pub returns-else-q-eq2 : goal.returns-else-q-eq2
returns-else-q-eq2 c =
    let p = c.requires in
    all-filled (unpacked c.rule_of.result) _ _ _ _ _ (omega arith) (omega arith) c.rule_of.ensures.right p.by_index p.by_index_2 p.out_value c.put_all-else-q-eq2.ensures
