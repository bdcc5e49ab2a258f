-- The line is that of the answer and of the first word, which are the record's own.
use Rattle.program_listing.proofs.lay_out_record.Goals as goal

pub returns : goal.returns
returns c = record { placed = rw (c.answer_of-answer.ensures.value, c.answer_of-answer.ensures.words_after) at c.lay_out.ensures.placed; upper_bound = c.lay_out.ensures.upper_bound }
