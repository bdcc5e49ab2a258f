-- `params_extent::keeps_rules` meets its contract: a law for each way out, in the order of the tests. Assumes nothing.
use Rattle.params_extent.specs.ExtentLaws.{everywhere, not-ones, in_order, out_of_order}
use mathlib.Core.Path.{◌∙◌}
use Rattle.params_extent.proofs.keeps_rules.Goals as goal

pub returns-then-getbits-eq18014398509481983 : goal.returns-then-getbits-eq18014398509481983
returns-then-getbits-eq18014398509481983 c = everywhere _ _ c.getbits.ensures.0 c.if-getbits-eq18014398509481983.true

pub returns-then-getbits-ne3 : goal.returns-then-getbits-ne3
returns-then-getbits-ne3 c =
    not-ones _ _ _ c.if-getbits-eq18014398509481983.false c.getbits.ensures.0 c.getbits-2.ensures.0 c.if-getbits-ne3.true

pub returns-then-is_below_next : goal.returns-then-is_below_next
returns-then-is_below_next c =
    in_order _ _ _ c.if-getbits-eq18014398509481983.false c.getbits.ensures.0 c.getbits-2.ensures.0 c.if-getbits-ne3.false _ c.is_below_next.ensures
    c.if-is_below_next.true _ c.is_below_next-then-is_below_next.ensures

pub returns-else-is_below_next : goal.returns-else-is_below_next
returns-else-is_below_next c =
    c.if-is_below_next.false
    ∙ out_of_order _ _ _ c.if-getbits-eq18014398509481983.false c.getbits.ensures.0 c.getbits-2.ensures.0 c.if-getbits-ne3.false _ c.is_below_next.ensures c.if-is_below_next.false
