-- The low bits of 64 bits are the shorter field.
use mathlib.Core.Path.{◌≡◌, ◌∙◌}
use native.Mathlib.Omega.{arith}
use Rattle.bits.specs.Blocks.{value_of}
use Rattle.bits.specs.BitLaws.{low_bits, bits-lt}
use Rattle.bits.specs.Bits.{bits_at}
use Rattle.bits.proofs.getbits.Goals as goal

pub returns : goal.returns
returns c = let a = c.args in
    let e : c.low.result ≡ bits_at (value_of a.b) a.start a.len =
    c.low.ensures ∙ rw c.from.ensures (low_bits (value_of a.b) a.start 64 a.len (omega arith)) in
    (e, rw e (bits-lt (value_of a.b) a.start a.len))
