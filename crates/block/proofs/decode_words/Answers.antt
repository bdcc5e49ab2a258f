-- `block::decode_words` meets its contract by the block's kind: a void or a bad one has one word everywhere, a legal one those of its lanes.
-- Assumes nothing.
use Rattle.answers.specs.ResultLaws.{broken-some}
use Rattle.footprint.specs.Sides.{sides-of}
use Rattle.block_void.specs.VoidLaws.{told-void, told-other}
use mathlib.Core.Path.{refl, sym, ◌∙◌}
use Rattle.block.specs.Entry.{words-void, words-bad, words-legal}
use native.Mathlib.Omega.{arith}
use Rattle.block.proofs.decode_words.Goals as goal

pub overflow_mul-n : goal.overflow_mul-n
overflow_mul-n c =
    omega (arith, (sides-of _ c.requires.1.0).texels)

pub returns-then-is_void : goal.returns-then-is_void
returns-then-is_void c =
    let both = words-void _ _ _ c.load-b.ensures _ _ _ _ (told-void _ (sym c.is_void.ensures ∙ c.if-is_void.true)) c.void_color.ensures refl c.fill.ensures in record { value = both.0; out_after = both.1 }

pub decode_ordinary-requires : goal.decode_ordinary-requires
decode_ordinary-requires c = record { b_value = sym c.is_void.ensures ∙ c.if-is_void.false; f_value = c.requires.1.0 }

pub copy-requires : goal.copy-requires
copy-requires c =
    omega (arith, (sides-of _ c.requires.1.0).texels)

pub returns-in-Ok : goal.returns-in-Ok
returns-in-Ok c =
    let both = words-legal _ _ _ c.load-b.ensures _ _ _ _ c.requires.1.0 c.in-Ok.ensures.value refl c.decode_ordinary.ensures.lanes_after c.copy.ensures in record { value = both.0; out_after = both.1 }

pub returns-in-Err : goal.returns-in-Err
returns-in-Err c =
    let both = words-bad _ _ _ c.load-b.ensures _ _ _ _ (told-other _ (sym c.is_void.ensures ∙ c.if-is_void.false)) (λ z. omega (arith, z)) c.in-Err.ensures.value (broken-some _) c.fill-in-Err.ensures in record { value = both.0; out_after = both.1 }
