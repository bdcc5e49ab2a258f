-- At most 10 by 8: blocks of 4 would be more.
use Rattle.program_strides.specs.StridesLaws.{along-fours}
use Prim.Native.Nat.{◌≤◌}
use native.Mathlib.Nat.{mul-le-mul}
use native.Mathlib.Omega.{arith}
use Rattle.program_strides.proofs.shapes.blocks_of.Goals as goal

pub along-across-requires : goal.along-across-requires
along-across-requires c =
    let b = c.args.start.bounds in
    (omega (arith, b.width), (omega (arith, b.bw.0), b.bw.1))

pub along-down-requires : goal.along-down-requires
along-down-requires c =
    let b = c.args.start.bounds in
    (omega (arith, b.height), (omega (arith, b.bh.0), b.bh.1))

pub overflow_mul-result : goal.overflow_mul-result
overflow_mul-result c = omega (arith, mul-le-mul c.along-across.ensures.1 c.along-down.ensures.1)

pub returns : goal.returns
returns c =
    let b = c.args.start.bounds in
    let w : c.along-across.result ≤ 10 = omega (arith, c.along-across.ensures.0, along-fours c.args.start.cursor.shape.width _ b.bw.0, b.width) in
    let h : c.along-down.result ≤ 8 = omega (arith, c.along-down.ensures.0, along-fours c.args.start.cursor.shape.height _ b.bh.0, b.height) in
    mul-le-mul w h
