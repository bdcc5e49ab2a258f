-- `image_window::window_of`: the block's first column and row, and what is left of the image from there on. Assumes nothing.
use Rattle.image_window.specs.Places.{left_is, top-is, window-is}
use mathlib.Core.Path.{◌∙◌}
use Rattle.image_window.proofs.window_of.Goals as goal

pub left_of-left-requires : goal.left_of-left-requires
left_of-left-requires c = c.requires.column

pub top_of-top-requires : goal.top_of-top-requires
top_of-top-requires c = c.requires.row

pub returns : goal.returns
returns c =
    let i = c.requires in
    window-is _ _ _ _ (c.left_of-left.ensures.0 ∙ left_is _ _ _ i) (c.top_of-top.ensures.0 ∙ top-is _ _ _ i) c.place.ensures c.min.ensures c.min-2.ensures
