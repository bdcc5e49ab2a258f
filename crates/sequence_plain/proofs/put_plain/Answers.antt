-- Each store is a field of d, which the shifts reach.
use mathlib.Core.Path.{◌∙◌}
use Rattle.laws.specs.Lists.{put_first, put_step}
use Rattle.sequence_plain.specs.Plain.{plain_from}
use Rattle.sequence_plain.specs.PlainLaws.{plain-first, plain-next}
use Rattle.sequence_plain.proofs.put_plain.Goals as goal

pub returns : goal.returns
returns c =
    let a = c.args in
    let f = plain_from a.b a.d a.i in
    let next = plain-next a.b a.d a.i in
    put_step f a.i 5 _ _ _
    (put_step f a.i 4 _ _ _
    (put_step f a.i 3 _ _ _
    (put_step f a.i 2 _ _ _
    (put_step f a.i 1 _ _ _
    (put_first f a.i _ _ (c.low.ensures ∙ plain-first a.b a.d a.i))
    (c.low-2.ensures ∙ next 1))
    (c.low-3.ensures ∙ next 2))
    (c.low-4.ensures ∙ next 3))
    (c.low-5.ensures ∙ next 4))
    (c.low-6.ensures ∙ next 5)
