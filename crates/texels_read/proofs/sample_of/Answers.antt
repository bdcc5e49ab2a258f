-- `texels_read::sample_of` meets its contract: the top bit tells a half. Assumes nothing.
use native.Mathlib.Omega.{arith}
use Rattle.texels_read.specs.ReadLaws.{lane_byte, lane-half}
use Rattle.texels_read.proofs.sample_of.Goals as goal

pub returns-then-x-lt32768 : goal.returns-then-x-lt32768
returns-then-x-lt32768 c = lane_byte _ c.if-x-lt32768.true

pub returns-else-x-lt32768 : goal.returns-else-x-lt32768
returns-else-x-lt32768 c = lane-half _ _ (omega (arith, c.if-x-lt32768.false)) c.min.ensures
