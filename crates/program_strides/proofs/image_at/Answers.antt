-- The bytes of an image of at most 80 blocks.
use mathlib.Core.Path.{sym}
use lib.Seq.{length-take-le}
use borrow.Author.Rules.{rules}
use Rattle.program_strides.proofs.image_at.Goals as goal

pub slice_bounds-compare-end : goal.slice_bounds-compare-end
slice_bounds-compare-end c = sym (length-take-le _ _ (search rules))
