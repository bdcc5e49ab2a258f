-- `params_room::end_range` meets its contract: the room is what the used bits leave of 128. Assumes nothing.
use Rattle.params_room.specs.Room.{widest}
use Rattle.params_rules.specs.Rules.{used}
use Prim.Native.Nat.{◌-◌}
use mathlib.Core.Path.{◌≡◌, ap, ◌∙◌}
use native.Mathlib.Omega.{arith}
use Rattle.params_room.proofs.end_range.Goals as goal

pub returns : goal.returns
returns c =
    let k = c.args.k in
    let e : 128 - (128 - c.used_bits.result) ≡ used k.config = omega (arith, k.legal.room, c.used_bits.ensures) in
    (c.widest_range.ensures.0 ∙ ap (widest 16 k.config.values) e, c.widest_range.ensures.1)
