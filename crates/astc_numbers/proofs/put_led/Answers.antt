-- `astc_numbers::put_led`: its three numbers are the definition's. Assumes nothing.
use Rattle.astc_numbers.specs.Numbers.{led_to}
use Rattle.astc_numbers.specs.NumberLaws.{copied-put}
use mathlib.Core.List.{[], ◌∷◌}
use mathlib.Core.Path.{refl}
use Rattle.astc_numbers.proofs.put_led.Goals as goal

pub returns : goal.returns
unfolding led_to
returns c = rw c.copy_from_slice.ensures.after (copied-put 3 (c.args.next ∷ c.args.painted ∷ c.args.bad ∷ []) _ refl c.requires)
