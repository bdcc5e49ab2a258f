-- `program_leaves::reply_partition` meets its contract: the tests bound the number and the parts, and a listed footprint has such sides. Assumes nothing.
use mathlib.Core.Path.{sym, ◌∙◌}
use native.Mathlib.Omega.{arith}
use Rattle.footprint.specs.Sides.{sides-of}
use Rattle.program_leaves.proofs.grids.reply_partition.Goals as goal

pub select_partition-requires : goal.select_partition-requires
select_partition-requires c = (omega arith, ((omega arith, omega arith), sides-of _ (sym c.is_listed.ensures ∙ c.if-is_listed.true)))
