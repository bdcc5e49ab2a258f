-- `params_modes::mode_of` meets its contract: a law for each of its two ways. Assumes nothing.
use Rattle.params_modes.specs.ModeLaws.{mode-alone, mode-based}
use Rattle.params_modes.proofs.mode_of.Goals as goal

pub returns-then-m-eq0 : goal.returns-then-m-eq0
returns-then-m-eq0 c = mode-alone _ _ c.args.i c.args.m.coded c.args.m.parts c.if-m-eq0.true

pub returns : goal.returns
returns c = mode-based _ _ c.args.i c.args.m.coded c.args.m.parts _ c.if-m-eq0.false c.class_of.ensures
