-- Two words of eight bytes are the sum of sixteen.
use Rattle.std.proofs.Common.{arith}
use Rattle.bits.specs.Bits.{bytes}
use Rattle.block_load.proofs.load.Goals as goal

pub returns : goal.returns
unfolding bytes
returns c = rw (c.from_le_bytes.ensures, c.from_le_bytes-2.ensures) (omega arith)
