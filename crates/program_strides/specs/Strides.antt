-- An image painted in steps against the image painted whole.
-- Assumes nothing.
use Rattle.std.specs.Prelude.{◌≤◌}
use Rattle.image.specs.declared.Cursor.{Cursor}
use Rattle.program_compare.specs.declared.Came.{Came}
use Rattle.program_strides.specs.declared.Walk.{Walk}

-- an image of at most 10 by 8 blocks and 1280 pixels
pub record CursorBounds (c : Cursor) : Type 0 where
  pub width : c.shape.width ≤ 40
  pub height : c.shape.height ≤ 32
  pub bw : (4 ≤ c.shape.footprint.width) × (c.shape.footprint.width ≤ 12)
  pub bh : (4 ≤ c.shape.footprint.height) × (c.shape.footprint.height ≤ 12)

-- what a walk came to
abbrev pub came_of : Walk → Came
came_of w = record { moving = w.moving; painted = w.painted; bad = w.bad; refused = w.refused }
