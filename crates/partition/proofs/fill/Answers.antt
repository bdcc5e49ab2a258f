-- `partition::fill` meets its contract: each turn fills one row more. Assumes nothing.
use Rattle.std.proofs.Common.{◌≡◌, ℕ}
use Rattle.laws.specs.Lists.{put-rows}
use Rattle.partition.specs.PartitionLaws.{row-turn}
use Rattle.partition.proofs.fill.Goals as goal

pub loop-t-init : goal.loop-t-init
loop-t-init g c = put-rows _ _ _

pub loop-t-preserved : goal.loop-t-preserved
loop-t-preserved g c =
    let f : ℕ → ℕ → ℕ = λ s t. g.R.Ramps.in_row (g.R.Ramps.moved c.args.ramps t) s in
    let m : (k : ℕ) → g.R.Ramps.in_row c.moved.result k ≡ f k c.loop-t.t = λ k. rw c.moved.ensures.0 in
    row-turn f _ c.args.f.width c.loop-t.t _ _ _ c.requires.sides.column m c.loop-t.invariant c.fill_row.ensures
