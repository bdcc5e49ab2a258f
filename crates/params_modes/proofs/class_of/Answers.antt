-- `params_modes::class_of` meets its contract: a law for each of its two ways. Assumes nothing.
use Rattle.params_modes.specs.ModeLaws.{class-alone, class-based}
use Rattle.params_modes.proofs.class_of.Goals as goal

pub returns-then-m-eq0 : goal.returns-then-m-eq0
returns-then-m-eq0 c = class-alone _ _ c.args.i c.args.m.coded c.if-m-eq0.true

pub returns-else-m-eq0 : goal.returns-else-m-eq0
returns-else-m-eq0 c = class-based _ _ c.args.i c.args.m.coded c.if-m-eq0.false
