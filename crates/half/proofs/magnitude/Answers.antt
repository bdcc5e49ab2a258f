-- `half::magnitude` meets its contract: each need is a lemma of the files above. Assumes nothing.
use Rattle.half.proofs.Halves.{ret-inf, ret-nan, ret-tiny, ret-normal, pattern-no-nan, digits_in}
use Rattle.half.proofs.magnitude.Goals as goal

pub int_to_float-result : goal.int_to_float-result
int_to_float-result c = search digits_in

pub float_from_bits-result : goal.float_from_bits-result
float_from_bits-result c = search pattern-no-nan

pub returns-in-31-eq0 : goal.returns-in-31-eq0
returns-in-31-eq0 c = search ret-inf

pub returns-in-31-default : goal.returns-in-31-default
returns-in-31-default c = search ret-nan

pub returns-in-0-default : goal.returns-in-0-default
returns-in-0-default c = search ret-tiny

pub returns-in_default : goal.returns-in_default
returns-in_default c = search ret-normal
