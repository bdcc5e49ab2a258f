-- `program_leaves::put_inside` meets its contract: the tests place the grid inside the footprint. Assumes nothing.
use native.Mathlib.Omega.{arith}
use Rattle.program_leaves.proofs.grids.put_inside.Goals as goal

pub put_planes-requires : goal.put_planes-requires
put_planes-requires c =
    let p = c.requires in
    (record { sides = p.0; wide = (omega arith, omega arith); high = (omega arith, omega arith) }, p.1)
