-- Each number fits in 32 bits, and the list is the definition's.
use mathlib.Core.Path.{refl}
use Rattle.astc_numbers.specs.Numbers.{numbers_of}
use Rattle.astc_numbers.proofs.numbers_of.Goals as goal

pub returns : goal.returns
unfolding numbers_of
returns c = refl
