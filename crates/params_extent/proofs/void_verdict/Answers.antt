-- `params_extent::void_verdict` meets its contract: the reading is the definition's choice. Assumes nothing.
use Rattle.params_extent.specs.ExtentLaws.{void-crate, void-kept, void-broken}
use Rattle.params_extent.proofs.void_verdict.Goals as goal

pub returns-in-Crate : goal.returns-in-Crate
returns-in-Crate c = void-crate _ _ c.in-Crate.is

pub returns-in-Standard : goal.returns-in-Standard
returns-in-Standard c = void-kept _ _ _ c.in-Standard.is c.keeps_rules.ensures c.if-keeps_rules.true

pub returns-in-Standard-2 : goal.returns-in-Standard-2
returns-in-Standard-2 c = void-broken _ _ _ c.in-Standard-2.is c.keeps_rules.ensures c.if-keeps_rules.false
