-- `image_blocks::paint_block` meets its contract by the block's kind: a void or a bad one has one word everywhere, a legal one those of its
-- lanes. Assumes nothing.
use Rattle.answers.specs.ResultLaws.{broken-some}
use Rattle.block_void.specs.VoidLaws.{told-void, told-other}
use mathlib.Core.Path.{refl, sym, ◌∙◌}
use Rattle.image_blocks.specs.Spots.{at-inside}
use Rattle.image_blocks.specs.PaintedLaws.{part-is, void-painted, bad-painted, legal-painted}
use native.Mathlib.Omega.{arith}
use Rattle.image_blocks.proofs.paint_block.Goals as goal

pub fill_block-requires : goal.fill_block-requires
fill_block-requires c =
    (at-inside _ _ c.requires.at c.requires.in_image, c.requires.sized.room)

pub returns-then-is_void : goal.returns-then-is_void
returns-then-is_void c =
    let both = void-painted c.args.«data».now c.args.m.shape _ c.args.at.block c.requires.sized c.requires.in_image _ (part-is c.args.«data».now c.args.at.block) _ c.load-b.ensures
    _ c.requires.at.block c.args.lanes.now c.args.lanes.now _ _ c.requires.all_lanes _ _ (told-void _ (sym c.is_void.ensures ∙ c.if-is_void.true)) c.void_color.ensures refl c.fill_block.ensures in record { value = both.0; all_lanes_after = both.1.0; out_after = both.1.1 }

pub decode_ordinary-requires : goal.decode_ordinary-requires
decode_ordinary-requires c = record { b_value = sym c.is_void.ensures ∙ c.if-is_void.false; f_value = c.requires.sized.footprint }

pub copy_block-requires : goal.copy_block-requires
copy_block-requires c =
    (at-inside _ _ c.requires.at c.requires.in_image, c.requires.sized.room)

pub returns-in-Ok : goal.returns-in-Ok
returns-in-Ok c =
    let both = legal-painted c.args.«data».now c.args.m.shape _ c.args.at.block c.requires.sized c.requires.in_image _ (part-is c.args.«data».now c.args.at.block) _ c.load-b.ensures
    _ c.requires.at.block c.args.lanes.now _ _ _ c.requires.all_lanes _ c.in-Ok.ensures.value c.decode_ordinary.ensures.lanes_after refl c.copy_block.ensures in record { value = both.0; all_lanes_after = both.1.0; out_after = both.1.1 }

pub fill_block-requires-in-Err : goal.fill_block-requires-in-Err
fill_block-requires-in-Err c =
    (at-inside _ _ c.requires.at c.requires.in_image, c.requires.sized.room)

pub returns-in-Err : goal.returns-in-Err
returns-in-Err c =
    let both = bad-painted c.args.«data».now c.args.m.shape _ c.args.at.block c.requires.sized c.requires.in_image _ (part-is c.args.«data».now c.args.at.block) _ c.load-b.ensures
    _ c.requires.at.block c.args.lanes.now _ _ _ c.requires.all_lanes _ c.in-Err.ensures.value c.decode_ordinary.ensures.lanes_after _ (told-other _ (sym c.is_void.ensures ∙ c.if-is_void.false)) (λ z. omega (arith, z)) (broken-some _) c.fill_block-in-Err.ensures in record { value = both.0; all_lanes_after = both.1.0; out_after = both.1.1 }
