-- `endpoints_hdr_modes::decode_hdr`: each arm is an entry of the list of modes, and the last stands for 11, 14 and 15. Assumes nothing.
use Rattle.endpoints_hdr_modes.specs.ModeLaws.{last-modes, mode-2, mode-3, mode-7, mode-11}
use native.Mathlib.Omega.{arith}
use Rattle.endpoints_hdr_modes.proofs.decode_hdr.Goals as goal

pub returns-in-2 : goal.returns-in-2
returns-in-2 c = search mode-2

pub returns-in-3 : goal.returns-in-3
returns-in-3 c = search mode-3

pub returns-in-7 : goal.returns-in-7
returns-in-7 c = search mode-7

pub returns-in_default : goal.returns-in_default
returns-in_default c =
    mode-11 _ _ _ _ (last-modes c.args.mode c.requires.0 c.requires.1 (omega arith) (omega arith) (omega arith)) c.alphas_of.ensures c.decode_endpoints_hdr11.ensures
