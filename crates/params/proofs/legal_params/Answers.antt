-- `params::legal_params` meets its contract: a law for each way out, in the order of the checks. Assumes nothing.
use Rattle.answers.specs.ResultLaws.{broken-some}
use Rattle.params_config.specs.Bounds.{small_of}
use Rattle.params_room.specs.RoomLaws.{given}
use Rattle.params.specs.Params.{legal}
use Rattle.params.specs.Laws.{passed-told, out-reserved, out-legal, out-rule}
use mathlib.Core.Path.{refl, sym, ◌∙◌}
use Rattle.params.proofs.legal_params.Goals as goal

pub returns-then-is_reserved-clause-params : goal.returns-then-is_reserved-clause-params
returns-then-is_reserved-clause-params c =
    out-reserved _ _ _ _ _ c.low_config-c.ensures c.requires c.is_reserved.ensures c.if-is_reserved.true refl

pub read_config-config-requires : goal.read_config-config-requires
read_config-config-requires c = sym c.is_reserved.ensures ∙ c.if-is_reserved.false

pub judge-requires : goal.judge-requires
judge-requires c = search small_of

pub returns-in_err-judge-clause-params : goal.returns-in_err-judge-clause-params
returns-in_err-judge-clause-params c =
    passed-told c.from_residual.result _ c.from_residual.ensures.1
    ∙ out-rule _ _ _ _ _ _ _ c.low_config-c.ensures c.requires c.is_reserved.ensures c.if-is_reserved.false c.read_config-config.ensures c.in_err-judge.ensures
    (broken-some _) refl

pub invariant_of-accept : goal.invariant_of-accept
invariant_of-accept c = record { legal = given _ _ _ 0 c.read_config-config.ensures c.in_ok-judge.ensures refl }

pub returns : goal.returns
unfolding legal
returns c = record {
  params = out-legal _ _ _ 0 _ _ _ c.low_config-c.ensures c.requires c.is_reserved.ensures c.if-is_reserved.false c.read_config-config.ensures c.in_ok-judge.ensures refl c.accept.ensures;
  legal = rw c.accept.ensures refl;
}
