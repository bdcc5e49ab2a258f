-- `program_leaves::put_planes` meets its contract: products of small numbers. Assumes nothing.
use mathlib.Core.Path.{refl}
use Prim.Native.Nat.{◌≤◌}
use native.Mathlib.Nat.{mul-le-mul, le_trans}
use native.Mathlib.Omega.{arith}
use Rattle.program_leaves.proofs.grids.put_planes.Goals as goal

pub overflow_mul-n : goal.overflow_mul-n
overflow_mul-n c =
    let w : c.args.g.width ≤ 12 = le_trans c.requires.0.wide.1 c.requires.0.sides.width in
    let h : c.args.g.height ≤ 12 = le_trans c.requires.0.high.1 c.requires.0.sides.height in
    let p : c.args.g.planes ≤ 2 = omega arith in
    omega (arith, mul-le-mul w h, mul-le-mul (mul-le-mul w h) p)

pub put_grid-requires : goal.put_grid-requires
put_grid-requires c =
    let p = c.requires in
    let i = p.0 in
    (record { sides = i.sides; wide = i.wide; high = i.high; planes = (omega arith, omega arith); few = omega arith }, (refl, p.1))
