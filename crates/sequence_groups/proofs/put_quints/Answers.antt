-- Each store is the group's value at its place: a digit of e above the bits that the shifts reach.
use mathlib.Core.Path.{◌∙◌}
use native.Mathlib.Nat.{le_trans}
use lib.Dec.{lit≤}
use Rattle.laws.specs.Lists.{put_first, put_step}
use Rattle.sequence_ranges.specs.Ranges.{range}
use Rattle.sequence_groups.specs.Sequence.{group_from}
use Rattle.sequence_groups.specs.DigitLaws.{fits-first, fits_next}
use Rattle.sequence_groups.specs.GroupLaws.{value-first, value-next}
use Rattle.sequence_ranges.specs.declared.Kind.TheVariants.{Quints}
use Rattle.sequence_groups.proofs.put_quints.Goals as goal

pub value-requires : goal.value-requires
value-requires c = (le_trans c.requires.1 (lit≤ tt), fits-first Quints c.args.b c.args.d _ c.requires.1 c.quint_digits-e.ensures)

pub value-requires-2 : goal.value-requires-2
value-requires-2 c = (le_trans c.requires.1 (lit≤ tt), fits_next Quints c.args.b c.args.d _ c.requires.1 c.quint_digits-e.ensures 1)

pub value-requires-3 : goal.value-requires-3
value-requires-3 c =
    (le_trans c.requires.1 (lit≤ tt), fits_next Quints c.args.b c.args.d _ c.requires.1 c.quint_digits-e.ensures 2)

pub returns : goal.returns
returns c =
    let a = c.args in
    let p = c.quint_digits-e.ensures in
    let r = range Quints a.b in
    let f = group_from r a.d a.i in
    put_step f a.i 2 _ _ _
    (put_step f a.i 1 _ _ _
    (put_first f a.i _ _ (c.value.ensures ∙ value-first r a.d a.i _ p))
    (c.value-2.ensures ∙ value-next r a.d a.i _ p 1))
    (c.value-3.ensures ∙ value-next r a.d a.i _ p 2)
