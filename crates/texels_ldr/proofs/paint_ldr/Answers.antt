-- Each loop has the endpoints and weights of the definition.
use Prim.Native.Nat.{◌<◌}
use lib.ListN.{get_or}
use Rattle.std.proofs.Common.{rules}
use Rattle.endpoints_colours.specs.Colours.{nothing}
use Rattle.texels.specs.Kinds.{either_of, any_of}
use Rattle.texels_ldr.specs.Plain.{Plain}
use Rattle.texels_ldr.specs.LdrLaws.{as_one, as-planes, as-two, as-four, below_four, plain-two, plain-four, lanes-same}
use Rattle.texels_ldr.proofs.paint_ldr.Goals as goal

pub put_words-requires-in-2-eq1-clause-callable : goal.put_words-requires-in-2-eq1-clause-callable
put_words-requires-in-2-eq1-clause-callable c = λ i h.
    let plain : Plain (either_of (get_or c.args.d.now.partition.now i 0) (get_or c.args.d.now.endpoints 0 nothing) (get_or c.args.d.now.endpoints 1 nothing)) = plain-two _ _ _ c.args.d.now.channel _ _ _ c.args.d.now.given c.requires c.in-2-eq1.is-0 i in
    let light = c.args.d.now.given.light in
    search rules

pub put_words-requires-in_default-clause-callable : goal.put_words-requires-in_default-clause-callable
put_words-requires-in_default-clause-callable c = λ i h.
    let plain : Plain (any_of (get_or c.args.d.now.partition.now i 0) (get_or c.args.d.now.endpoints 0 nothing) (get_or c.args.d.now.endpoints 1 nothing) (get_or c.args.d.now.endpoints 2 nothing) (get_or c.args.d.now.endpoints 3 nothing) nothing) = plain-four _ _ _ c.args.d.now.channel _ _ _ c.args.d.now.given c.requires i in
    let below : get_or c.args.d.now.partition.now i 0 < 4 = below_four _ _ _ c.args.d.now.channel _ _ _ c.args.d.now.given i in
    let light = c.args.d.now.given.light in
    search rules

pub returns-in-1-eq1 : goal.returns-in-1-eq1
returns-in-1-eq1 c = c.put_words.ensures _ (λ i r h e.
    lanes-same r (as_one _ _ _ c.args.d.now.channel _ _ _ c.args.d.now.given c.in-1-eq1.is-0 c.in-1-eq1.is-1 i) (search rules) (search rules))

pub returns-in-1-default : goal.returns-in-1-default
returns-in-1-default c = c.put_words-in-1-default.ensures _ (λ i r h e.
    lanes-same r (as-planes _ _ _ c.args.d.now.channel _ _ _ c.args.d.now.given _ c.starts_of-k.ensures.0 c.in-1-default.is-0 i) (search rules) (search rules))

pub returns-in-2-eq1 : goal.returns-in-2-eq1
returns-in-2-eq1 c = c.put_words-in-2-eq1.ensures _ (λ i r h e.
    lanes-same r (as-two _ _ _ c.args.d.now.channel _ _ _ c.args.d.now.given c.in-2-eq1.is-0 c.in-2-eq1.is-1 i) (search rules) (search rules))

pub returns-in_default : goal.returns-in_default
returns-in_default c = c.put_words-in_default.ensures _ (λ i r h e.
    lanes-same r (as-four _ _ _ c.args.d.now.channel _ _ _ c.args.d.now.given _ c.starts_of-k.ensures.0 i) (search rules) (search rules))
