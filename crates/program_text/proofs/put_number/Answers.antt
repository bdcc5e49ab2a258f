-- The fewest digits are the decimal ones, and at most 20.
use native.Mathlib.Omega.{arith}
use Prim.Native.Nat.{◌≤◌}
use Rattle.program_text.specs.TextLaws.{fewest-most, decimal-is}
use Rattle.program_text.proofs.put_number.Goals as goal

pub put_text-requires : goal.put_text-requires
put_text-requires c =
    let d = c.decimal-count in
    omega (arith, d.ensures.in_bounds.1, fewest-most d.result _ (omega (arith, c.ranges.n.fits)) d.ensures.len)

pub returns : goal.returns
returns c =
    let d = c.decimal-count in
    let p = c.put_text.ensures in
    let small = c.ranges.n.fits in
    let e = decimal-is d.result _ _ small d.ensures.len d.ensures.digits in
    let k : d.result ≤ 20 = fewest-most d.result _ small d.ensures.len in
    record { placed = rw e at p; upper_bound = omega (arith, d.ensures.in_bounds.1, p.next) }
