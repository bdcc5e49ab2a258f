-- `program_leaves::answer` is safe and ends. Assumes nothing.
use mathlib.Core.Path.{refl}
use Rattle.program_leaves.proofs.answer.Goals as goal

pub slice_bounds-read_full-end : goal.slice_bounds-read_full-end
slice_bounds-read_full-end c = refl
