-- `texels_numbers::put_four` meets its contract: four stores, which leave the length. Assumes nothing.
use Prim.Native.Nat.{◌+◌, ◌*◌}
use native.Mathlib.Omega.{arith}
use lib.ListN.{set, length-set}
use Rattle.texels_numbers.proofs.put_four.Goals as goal

pub bounds-out-i-2 : goal.bounds-out-i-2
bounds-out-i-2 c = rw (length-set c.args.out.now (4 * c.args.i) c.args.k.r) (omega arith)

pub bounds-out-i-3 : goal.bounds-out-i-3
bounds-out-i-3 c = rw (length-set (set c.args.out.now (4 * c.args.i) c.args.k.r) (4 * c.args.i + 1) c.args.k.g, length-set c.args.out.now (4 * c.args.i) c.args.k.r) (omega arith)
