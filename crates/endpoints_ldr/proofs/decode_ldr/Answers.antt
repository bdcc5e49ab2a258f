-- `endpoints_ldr::decode_ldr`: each arm is an entry of the list of modes, and the last stands for 9 and 13. Assumes nothing.
use native.Mathlib.Omega.{arith}
use Rattle.endpoints_ldr.specs.LdrLaws.{last-modes, mode-0, mode-1, mode-4, mode-5, mode-scaled, mode-direct, mode-offset}
use Rattle.endpoints_ldr.proofs.decode_ldr.Goals as goal

pub returns-in-0 : goal.returns-in-0
returns-in-0 c = search mode-0

pub returns-in-1 : goal.returns-in-1
returns-in-1 c = search mode-1

pub returns-in-4 : goal.returns-in-4
returns-in-4 c = search mode-4

pub returns-in-5 : goal.returns-in-5
returns-in-5 c = search mode-5

pub returns-in-6 : goal.returns-in-6
returns-in-6 c = search mode-scaled

pub returns-in-8 : goal.returns-in-8
returns-in-8 c = search mode-direct

pub returns-in_default : goal.returns-in_default
returns-in_default c =
    mode-offset _ _ _ _ (last-modes c.args.mode c.requires.0 c.requires.1 (omega arith) (omega arith) (omega arith) (omega arith) (omega arith) (omega arith)) c.offset_alphas.ensures c.offset_endpoints.ensures
