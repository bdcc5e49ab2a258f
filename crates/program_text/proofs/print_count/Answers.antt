-- `program_text::print_count`: the line is laid out in 64 places, which it fits. Assumes nothing.
use mathlib.Core.Path.{sym}
use lib.Seq.{length-take-le}
use borrow.Author.Rules.{rules}
use Rattle.program_text.proofs.print_count.Goals as goal

pub slice_bounds-write_all-end : goal.slice_bounds-write_all-end
slice_bounds-write_all-end c =
    let l = c.lay_out_count-end in
    sym (length-take-le l.result l.new.line (search rules))
