-- `params_map::no_map` meets its contract: every number but the answer is 0. Assumes nothing.
use Rattle.params_map.specs.Map.{no_map}
use Rattle.params_map.proofs.no_map.Goals as goal

pub returns : goal.returns
unfolding no_map
returns c = let e = c.default.ensures.1 in simp (e.0, e.1.0, e.1.1.0, e.1.1.1.0, e.1.1.1.1.0, e.1.1.1.1.1.0, e.1.1.1.1.1.1.0, e.1.1.1.1.1.1.1.0, e.1.1.1.1.1.1.1.1)
