-- `astc_numbers::put_numbers`: before turn i the places before i hold the numbers before i. Assumes nothing.
use Rattle.std.proofs.Common.{refl, zero-le}
use Rattle.laws.specs.Lists.{put-none, put-turn}
use Rattle.astc_numbers.proofs.put_numbers.Goals as goal

pub loop-i-init : goal.loop-i-init
loop-i-init c = put-none _ 0 _

pub loop-i-preserved : goal.loop-i-preserved
loop-i-preserved c = put-turn _ _ _ _ _ _ c.loop-i.invariant zero-le refl
