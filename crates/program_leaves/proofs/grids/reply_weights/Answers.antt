-- `program_leaves::reply_weights` meets its contract: a listed footprint has such sides. Assumes nothing.
use mathlib.Core.Path.{sym, ◌∙◌}
use native.Mathlib.Omega.{arith}
use Rattle.footprint.specs.Sides.{sides-of}
use Rattle.program_leaves.proofs.grids.reply_weights.Goals as goal

pub put_inside-requires : goal.put_inside-requires
put_inside-requires c =
    (sides-of _ (sym c.is_listed.ensures ∙ c.if-is_listed.true), omega arith)
