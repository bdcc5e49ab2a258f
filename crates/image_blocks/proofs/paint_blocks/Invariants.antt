-- The spot is that of the next block, the blocks before it are painted, and those of them that are bad counted. Assumes nothing.
use Rattle.image_blocks.specs.PaintedLaws.{Painting}
use mathlib.Core.Path.{◌≡◌}
use Rattle.image_blocks.proofs.paint_blocks.Given as goal

abbrev pub invariant-loop : goal.invariant-loop
invariant-loop l = record {
  next : l.at.block ≡ l.counter;
  painted : Painting l.data l.m.shape l.first l.end l.initial.out l.across l.out l.lanes l.at l.bad;
}
