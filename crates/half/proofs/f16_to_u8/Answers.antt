-- `half::f16_to_u8` meets its contract: a law for each way out. Assumes nothing.
use native.Mathlib.Omega.{arith}
use Rattle.half.proofs.Bytes.{void-plus, void-minus-infinity, void-none}
use Rattle.half.proofs.f16_to_u8.Goals as goal

pub returns-in-0-to-31744 : goal.returns-in-0-to-31744
returns-in-0-to-31744 c = void-plus _ _ (omega arith) c.hdr_to_u8.ensures

pub returns-in-64512 : goal.returns-in-64512
returns-in-64512 c = void-minus-infinity _ (omega arith)

pub returns-in_default : goal.returns-in_default
returns-in_default c = void-none _ (omega arith) (omega arith) (omega arith)
