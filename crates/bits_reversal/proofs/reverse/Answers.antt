-- The words change places, each reversed.
use mathlib.Core.Path.{sym}
use native.Mathlib.Omega.{arith}
use Rattle.bits_reversal.specs.ReversalLaws.{reversed-words}
use Rattle.bits_reversal.proofs.reverse.Goals as goal

pub returns : goal.returns
returns c = let a = c.args in rw (c.bit_reverse_u64-2.ensures, c.bit_reverse_u64.ensures) (sym (reversed-words a.b.hi a.b.lo (omega arith)))
