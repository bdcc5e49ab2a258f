-- `texels_samples::put_channel`: any texel's partition is one of four, and its ends keep their limits. Assumes nothing.
use Prim.Native.Nat.{◌<◌, ◌≤◌, ◌+◌}
use lib.ListN.{get_or}
use Rattle.std.proofs.Common.{rules}
use native.Mathlib.Omega.{arith}
use Rattle.texels_samples.proofs.put_channel.Goals as goal

pub put_lanes-requires-in_default-clause-callable : goal.put_lanes-requires-in_default-clause-callable
put_lanes-requires-in_default-clause-callable c = λ i h.
    let below : get_or c.args.d.now.partition.now i 0 < 4 = omega (arith, c.args.d.now.given.mapped i, c.args.d.now.given.four) in
    let light : get_or c.args.d.now.weights.now (c.args.x + i) 0 ≤ 64 = c.args.d.now.given.light (c.args.x + i) in
    let limits = c.requires.ends (get_or c.args.d.now.partition.now i 0) below in
    search rules
