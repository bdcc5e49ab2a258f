-- `program_listing::list` is safe and ends.
use mathlib.Core.Path.{sym}
use lib.Seq.{length-take-le}
use borrow.Author.Rules.{rules}
use Rattle.program_listing.proofs.list.Goals as goal

pub slice_bounds-write_line-end : goal.slice_bounds-write_line-end
slice_bounds-write_line-end c =
    let l = c.lay_out_record-end in
    sym (length-take-le l.result l.new.line (search rules))
