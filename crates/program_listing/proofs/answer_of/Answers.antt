-- Both ways out are laws.
use Rattle.program_listing.specs.ListingLaws.{short, whole}
use mathlib.Core.Path.{◌∙◌}
use Rattle.program_listing.proofs.answer_of.Goals as goal

pub returns-then-bytes-ne18 : goal.returns-then-bytes-ne18
returns-then-bytes-ne18 c =
    let s = c.args in
    let both = short s.bytes.now s.words.now c.if-bytes-ne18.true in record { value = c.from.ensures ∙ both.0; words_after = both.1 }

pub returns : goal.returns
returns c =
    let s = c.args in
    let both = whole s.bytes.now s.words.now _ _ _ _ c.from-2.ensures c.from-3.ensures (c.answer_number.ensures ∙ c.decode_astc_block.ensures.value) c.decode_astc_block.ensures.out_after in record { value = both.0; words_after = both.1 }
