-- Before turn i the first i texels have their numbers, for every function that the calls agree with.
use mathlib.Core.Path.{◌∙◌}
use native.Mathlib.Omega.{arith}
use Rattle.laws.specs.Lists.{put-none, put-end}
use Rattle.texels_numbers.specs.NumberLaws.{four-stores}
use Rattle.texels_numbers.proofs.put_fours.Goals as goal

pub loop-i-init : goal.loop-i-init
loop-i-init g c = λ f same. put-none _ 0 _

pub loop-i-preserved : goal.loop-i-preserved
loop-i-preserved g c = λ f same.
    c.put_four.ensures ∙ four-stores _ c.loop-i.i _ _ _ (c.loop-i.invariant f same) (same _ _ (omega arith) c.four.ensures)

pub returns : goal.returns
returns g c = λ f same. put-end _ _ _ _ _ _ (c.loop-i.invariant f same) (omega arith) (omega arith)
