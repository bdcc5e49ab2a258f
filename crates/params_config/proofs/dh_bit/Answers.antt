-- `params_config::dh_bit` meets its contract by its test. Assumes nothing.
use Rattle.bits.specs.Bits.{bits_at}
use Rattle.params_config.proofs.dh_bit.Goals as goal

pub returns-else-lacks_dh : goal.returns-else-lacks_dh
unfolding bits_at
returns-else-lacks_dh c = simp (← c.lacks_dh.ensures, c.if-lacks_dh.false)
