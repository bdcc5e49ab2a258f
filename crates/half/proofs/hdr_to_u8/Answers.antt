-- `half::hdr_to_u8` meets its contract: the product's 2 ^ 23-fold is a whole number, which the casts keep. Assumes nothing.
use lib.Ieee.{of_bits}
use Rattle.half.proofs.Scaled.{from, to, widens, whole_in, no_sign, fits-32, fits_8, ret-hdr}
use Rattle.half.proofs.hdr_to_u8.Goals as goal

pub float_to_float-result : goal.float_to_float-result
float_to_float-result c = search (widens, from, to)

pub float_to_int-result : goal.float_to_int-result
unfolding of_bits
float_to_int-result c = search (whole_in, from, to)

pub overflow_cast-result : goal.overflow_cast-result
unfolding of_bits
overflow_cast-result c = search (no_sign, fits-32, from, to)

pub overflow_cast-result-2 : goal.overflow_cast-result-2
unfolding of_bits
overflow_cast-result-2 c = search (fits_8, from, to)

pub returns : goal.returns
unfolding of_bits
returns c = search ret-hdr
