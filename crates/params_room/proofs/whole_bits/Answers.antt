-- `params_room::whole_bits` meets its contract: the product by the inverse is the quotient. Assumes nothing.
use Rattle.params_room.specs.Closed.{whole_bits, closed}
use native.Mathlib.Nat.{mul-le-mul}
use Prim.Native.Nat.{ℕ, ◌*◌, ◌/◌}
use mathlib.Core.Path.{ap}
use native.Mathlib.Omega.{arith}
use Rattle.params_room.proofs.whole_bits.Goals as goal

pub returns : goal.returns
unfolding whole_bits
returns c =
    let p = c.requires in
    let e = ap (λ (i : ℕ). c.args.room * i / 65536) c.inverse.ensures.0 in
    (e, (rw e (closed _ _ p).least, omega (arith, mul-le-mul p.block c.inverse.ensures.1)))
