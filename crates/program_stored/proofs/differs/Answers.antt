-- Another answer is one way out, and the words of the same answer are the other: a law for each.
use Rattle.program_stored.specs.StoredLaws.{other-answer, same_answer}
use borrow.Author.Rules.{rules}
use borrow.Author.Tests.{ne_eqb}
use Rattle.program_stored.proofs.differs.Goals as goal

pub returns-then-answer-from : goal.returns-then-answer-from
returns-then-answer-from c =
    let s = c.args in
    rw (ne_eqb _ _ c.if-answer-from.true)
    (other-answer s.head.now s.stored.now s.answer c.from.result s.words.now (search rules) c.if-answer-from.true)

pub returns-else-answer-from : goal.returns-else-answer-from
returns-else-answer-from c =
    let s = c.args in
    same_answer s.head.now s.stored.now s.answer c.from.result s.words.now (search rules) _ _ _ c.if-answer-from.false (search rules)
    c.stored_words.ensures c.texels.ensures c.count_differences.ensures
