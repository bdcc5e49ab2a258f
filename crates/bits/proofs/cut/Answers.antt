-- A field longer than a word is joined of two; past 128 bits there is nothing more.
use mathlib.Core.Path.{◌≡◌, sym, ◌∙◌}
use Prim.Native.Nat.{◌+◌, ◌-◌}
use native.Mathlib.Omega.{arith}
use Rattle.bits.specs.Blocks.{value_of}
use Rattle.bits.specs.BitLaws.{join, bits-longer, words-lt}
use Rattle.bits.proofs.cut.Goals as goal

pub returns-then-len-le128 : goal.returns-then-len-le128
returns-then-len-le128 c =
    let a = c.args in
    let e : (a.len - 64) + 64 ≡ a.len = omega arith in
    rw (c.getbits-then-len-le128.ensures.0, c.from.ensures) (sym (rw e at (join (value_of a.b) a.start 64 (a.len - 64))))

pub returns : goal.returns
returns c =
    let a = c.args in
    rw (c.from-3.ensures, c.from-2.ensures)
    (sym (bits-longer (value_of a.b) a.start 128 a.len (words-lt a.b.hi a.b.lo (omega arith) (omega arith)) (omega arith) ∙ join (value_of a.b) a.start 64 64))
