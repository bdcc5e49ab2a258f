-- The record is counted against the answer and the words that the decoder gives of its own block and footprint.
use Rattle.program_replay.proofs.replay_record.Goals as goal

pub returns : goal.returns
returns c = record { value = rw (c.answer_number-answer.ensures, c.decode_astc_block.ensures.value, c.decode_astc_block.ensures.out_after, c.footprint_of-f.ensures) at c.count_record.ensures.value; answers_after = c.count_record.ensures.answers_after }
