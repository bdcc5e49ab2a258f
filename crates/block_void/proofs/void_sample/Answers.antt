-- Bit 9 says which of the two kinds.
use Rattle.block_void.specs.VoidLaws.{sample-half, sample-high}
use mathlib.Core.Path.{sym, ◌∙◌}
use Rattle.block_void.proofs.void_sample.Goals as goal

pub returns-then-getbits-eq1 : goal.returns-then-getbits-eq1
returns-then-getbits-eq1 c = sample-half _ _ _ (sym c.getbits.ensures.0 ∙ c.if-getbits-eq1.true) c.getbits-then-getbits-eq1.ensures.0

pub returns-else-getbits-eq1 : goal.returns-else-getbits-eq1
returns-else-getbits-eq1 c = sample-high _ _ _ (λ z. c.if-getbits-eq1.false (c.getbits.ensures.0 ∙ z)) c.getbits-else-getbits-eq1.ensures.0
