-- One law of the two words for each place of the start: in the low word, across both, in the high one, past the end.
use mathlib.Core.Path.{sym, subst}
use Prim.Native.Nat.{ℕ, ◌-◌, ◌^◌, ◌<◌}
use native.Mathlib.Omega.{arith}
use Rattle.bits.specs.Blocks.{value_of}
use Rattle.bits.specs.BitLaws.{bits-lt, bits-past, low-only, both_words, high-only, words-lt}
use Rattle.bits.proofs.from.Goals as goal

pub returns-then-start-eq0 : goal.returns-then-start-eq0
returns-then-start-eq0 c = let a = c.args in rw c.if-start-eq0.true (sym (low-only a.b.hi a.b.lo (omega arith)))

pub overflow_add-result : goal.overflow_add-result
overflow_add-result c = let a = c.args in record { fits = subst (λ (n : ℕ). n < 2 ^ 64) (both_words a.b.hi a.b.lo a.start (64 - a.start) (omega arith) (omega arith)) (bits-lt (value_of a.b) a.start 64) }

pub returns-then-start-lt64 : goal.returns-then-start-lt64
returns-then-start-lt64 c = let a = c.args in sym (both_words a.b.hi a.b.lo a.start (64 - a.start) (omega arith) (omega arith))

pub returns-then-start-lt128 : goal.returns-then-start-lt128
returns-then-start-lt128 c =
    let a = c.args in sym (high-only a.b.hi a.b.lo a.start (omega arith) (omega arith) (omega arith))

pub returns : goal.returns
returns c =
    let a = c.args in sym (bits-past (value_of a.b) a.start 64 128 (words-lt a.b.hi a.b.lo (omega arith) (omega arith)) (omega arith))
