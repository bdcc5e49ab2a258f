-- `block_ordinary::put_if_legal` meets its contract by the answer: a legal block's lanes are put, and no other's. Assumes nothing.
use Rattle.answers.specs.ResultLaws.{passed-broken, broken-some}
use Rattle.params.specs.Params.{refused}
use Rattle.block_ordinary.specs.Facts.{ready}
use Rattle.block_ordinary.specs.Parts.{answer-told, lanes-legal, lanes-none}
use mathlib.Core.Path.{sym, ◌∙◌}
use Rattle.block_ordinary.proofs.put_if_legal.Goals as goal

pub returns-in_err-p : goal.returns-in_err-p
unfolding refused
returns-in_err-p c =
    let e = c.in_err-p.ensures.params in
    record { value = passed-broken c.from_residual.result _ c.from_residual.ensures.1 ∙ answer-told _ _ _ e; lanes_after = lanes-none _ _ _ e _ _ (broken-some _) }

pub put_ordinary-requires : goal.put_ordinary-requires
put_ordinary-requires c = ready _ _ _ c.in_ok-p.ensures.params c.in_ok-p.ensures.legal c.requires.f_value

pub returns : goal.returns
returns c =
    let e = c.in_ok-p.ensures.params in
    let z = c.in_ok-p.ensures.legal in
    record { value = sym z ∙ answer-told _ _ _ e; lanes_after = lanes-legal _ _ _ e _ _ _ z c.put_ordinary.ensures }
