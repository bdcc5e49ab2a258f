-- `image_blocks::paint_blocks` meets its contract by its loop: the blocks before the spot are painted, and those that are bad counted.
-- Assumes nothing.
use lib.ListN.{length}
use Rattle.image_shape.specs.Shapes.{total_of}
use Rattle.image_shape.specs.ShapeLaws.{same-sized}
use Rattle.image_window.specs.Places.{some}
use Rattle.image_blocks.specs.Spots.{next-block}
use Rattle.image_blocks.specs.declared.Spot.{Spot}
use Rattle.image_blocks.specs.PaintedLaws.{painting-first, painting-next, painting-last, length-painted}
use Prim.Native.Nat.{◌+◌, ◌<◌}
use mathlib.Core.Path.{refl, ap, ◌∙◌}
use native.Mathlib.Omega.{arith}
use Rattle.image_blocks.proofs.paint_blocks.Goals as goal

pub along-across-requires : goal.along-across-requires
along-across-requires c =
    let bounds = c.args.m.bounds in
    (bounds.width.1, (bounds.sides.column, bounds.sides.width))

pub nonzero_rem-at : goal.nonzero_rem-at
nonzero_rem-at c = omega (arith, c.along-across.ensures.0, some _ c.args.m.bounds)

pub nonzero_div-at : goal.nonzero_div-at
nonzero_div-at c = omega (arith, c.along-across.ensures.0, some _ c.args.m.bounds)

pub loop-init : goal.loop-init
loop-init c = record {
  next = refl;
  painted = painting-first _ _ c.args.first _ _ _ _ c.args.m.bounds c.requires.in_order c.along-across.ensures.0 c.along-across.ensures.1 refl;
}

pub paint_block-requires : goal.paint_block-requires
paint_block-requires c =
    let turn = c.loop.invariant in
    let inside : c.loop.at.block < total_of c.args.m.shape = omega (arith, turn.next, c.requires.in_image) in
    record {
      sized = same-sized _ _ _ _ c.requires.sized (ap length turn.painted.painted ∙ length-painted _ _ _ _ _);
      in_image = inside;
      at = turn.painted.place;
      all_lanes = turn.painted.room;
    }

pub overflow_add-bad : goal.overflow_add-bad
overflow_add-bad c = omega (arith, c.loop.invariant.painted.few, c.bad_of-bad.ensures.1)

pub next-at-requires : goal.next-at-requires
next-at-requires c =
    let turn = c.loop.invariant in
    (omega (arith, turn.next), (turn.painted.place.row, omega (arith, turn.painted.rows, turn.painted.place.column)))

pub loop-preserved : goal.loop-preserved
loop-preserved c =
    let turn = c.loop.invariant in
    record {
      next = ap (λ (at : Spot). at.block) c.next-at.ensures ∙ next-block _ _ ∙ ap (λ n. n + 1) turn.next;
      painted = painting-next _ _ _ _ _ _ _ _ _ _ turn.painted _ _ _ _ _ c.args.m.bounds (omega (arith, turn.next)) c.next-at.ensures c.bad_of-bad.ensures (c.paint_block.ensures.value, (c.paint_block.ensures.all_lanes_after, c.paint_block.ensures.out_after));
    }

pub returns : goal.returns
returns c =
    let turn = c.loop.invariant in
    let both = painting-last _ _ _ _ _ _ _ _ _ _ turn.painted (omega (arith, turn.next)) in record { value = both.0; out_after = both.1 }
