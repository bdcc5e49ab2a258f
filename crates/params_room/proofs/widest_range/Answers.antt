-- `params_room::widest_range` meets its contract: the closed form was tested at every count and room. Assumes nothing.
use Rattle.params_room.specs.Closed.{out-20, out-trits, out-quints, out-plain}
use native.Mathlib.Omega.{arith}
use Rattle.params_room.proofs.widest_range.Goals as goal

pub returns-then-k-ge8 : goal.returns-then-k-ge8
returns-then-k-ge8 c = (out-20 _ _ _ c.requires c.whole_bits-k.ensures.0 c.if-k-ge8.true, omega arith)

pub returns-then-k-n : goal.returns-then-k-n
returns-then-k-n c =
    (out-trits _ _ _ c.requires c.whole_bits-k.ensures.0 (omega arith) c.if-k-n.true, omega arith)

pub returns-then-k-n-2 : goal.returns-then-k-n-2
returns-then-k-n-2 c =
    (out-quints _ _ _ c.requires c.whole_bits-k.ensures.0 (omega arith) (omega arith) c.if-k-n-2.true, omega arith)

pub returns : goal.returns
returns c =
    (out-plain _ _ _ c.requires c.whole_bits-k.ensures.0 (omega arith) (omega arith) (omega arith), omega arith)
