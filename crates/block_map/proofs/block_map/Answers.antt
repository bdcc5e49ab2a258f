-- `block_map::block_map` meets its contract: a call is refused by its checks, or the block's map is read. Assumes nothing.
use Rattle.answers.specs.ResultLaws.{refused-some}
use Rattle.block_refusal.specs.RefusalLaws.{first-accepted}
use Rattle.block_map.specs.AnswerLaws.{map-refused, map-block}
use mathlib.Core.Path.{sym, ◌∙◌}
use Rattle.block_map.proofs.block_map.Goals as goal

pub load-requires : goal.load-requires
load-requires c = (first-accepted _ _ (sym c.in-Ok.ensures)).0

pub returns-in-Ok : goal.returns-in-Ok
returns-in-Ok c =
    let passed = first-accepted _ _ (sym c.in-Ok.ensures) in
    map-block _ _ _ _ passed.0 passed.1 c.load.ensures c.decode_block_map.ensures

pub returns-in-Err : goal.returns-in-Err
returns-in-Err c = map-refused _ _ c.from.result _ (c.from.ensures ∙ c.in-Err.ensures) (λ z. refused-some c.in-Err.refusal (sym c.from.ensures ∙ z)) c.no_map.ensures
