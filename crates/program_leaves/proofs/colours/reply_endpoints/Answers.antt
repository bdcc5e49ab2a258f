-- `program_leaves::reply_endpoints` meets its contract: four numbers below 16 are modes. Assumes nothing.
use Rattle.program_leaves.specs.ValuesIn.{all-four}
use native.Mathlib.Omega.{arith}
use Rattle.program_leaves.proofs.colours.reply_endpoints.Goals as goal

pub put_modes-requires : goal.put_modes-requires
put_modes-requires c =
    ((omega arith, omega arith), (all-four _ _ _ _ c.mode_at.ensures c.mode_at-2.ensures c.mode_at-3.ensures c.mode_at-4.ensures, (omega arith, omega arith)))
