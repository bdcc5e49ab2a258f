-- `block_channels::put_block` meets its contract by what the block is: a void one or a bad one has the samples of one colour, a legal one those of
-- its lanes. Assumes nothing.
use Rattle.answers.specs.ResultLaws.{broken-some}
use native.Mathlib.Omega.{arith}
use Rattle.footprint.specs.Sides.{sides-of}
use Rattle.block_void.specs.VoidLaws.{told-void}
use mathlib.Core.Path.{refl, sym, ◌∙◌}
use Rattle.block_channels.specs.ChannelLaws.{put-void, put-legal, put-bad}
use Rattle.block_channels.proofs.put_block.Goals as goal

pub overflow_mul-n : goal.overflow_mul-n
overflow_mul-n c =
    omega (arith, (sides-of _ c.requires.1).texels)

pub fill_texels-requires : goal.fill_texels-requires
fill_texels-requires c =
    ((sides-of _ c.requires.1).texels, c.requires.2, c.requires.3)

pub returns-then-is_void : goal.returns-then-is_void
returns-then-is_void c =
    put-void _ _ _ c.load-b.ensures _ _ _ _ _ _ c.void_samples.ensures (told-void _ (sym c.is_void.ensures ∙ c.if-is_void.true)) refl (c.fill_texels.ensures.out_after, c.fill_texels.ensures.floats_after)

pub decode_samples-requires : goal.decode_samples-requires
decode_samples-requires c =
    (sym c.is_void.ensures ∙ c.if-is_void.false, c.requires.1)

pub put_texels-requires : goal.put_texels-requires
put_texels-requires c =
    ((sides-of _ c.requires.1).texels, c.requires.2, c.requires.3)

pub returns-in-Ok : goal.returns-in-Ok
returns-in-Ok c =
    put-legal _ _ _ c.load-b.ensures _ _ _ _ _ _ c.requires.1 c.decode_samples.ensures.lanes_after c.in-Ok.ensures.value refl (c.put_texels.ensures.out_after, c.put_texels.ensures.floats_after)

pub fill_texels-requires-in-Err : goal.fill_texels-requires-in-Err
fill_texels-requires-in-Err c =
    ((sides-of _ c.requires.1).texels, c.requires.2, c.requires.3)

pub returns-in-Err : goal.returns-in-Err
returns-in-Err c =
    put-bad _ _ _ c.load-b.ensures _ _ _ _ _ _ c.magenta.ensures (sym c.is_void.ensures ∙ c.if-is_void.false) c.in-Err.ensures.value (broken-some _) (c.fill_texels-in-Err.ensures.out_after, c.fill_texels-in-Err.ensures.floats_after)
