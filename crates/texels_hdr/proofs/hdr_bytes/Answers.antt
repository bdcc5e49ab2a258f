-- `texels_hdr::hdr_bytes`: each loop has the numbers of the partitions in use. Assumes nothing.
use mathlib.Core.Path.{◌∙◌}
use Prim.Native.Nat.{◌<◌, ◌+◌}
use lib.ListN.{get_or}
use Rattle.std.proofs.Common.{rules}
use native.Mathlib.Omega.{arith}
use Rattle.texels_hdr.specs.HdrLaws.{at_flat, at_any}
use Rattle.texels_hdr.proofs.hdr_bytes.Goals as goal

pub returns-in-1 : goal.returns-in-1
returns-in-1 c = c.put_bytes.ensures _ (λ i r h e.
    let first : get_or c.args.d.now.partition.now i 0 < 1 = omega (arith, c.args.d.now.given.mapped i, c.in-1.is) in
    let flat = at_flat c.args.v.first c.args.v.second c.args.d.now.weights.now c.args.d.now.partition.now c.args.x i (c.args.d.now.given.light (c.args.x + i)) c.if-a0-b0.true first in
    (search rules) ∙ c.hdr_channel-c.ensures ∙ flat)

pub returns-in_default : goal.returns-in_default
returns-in_default c = c.put_bytes-in_default.ensures _ (λ i r h e.
    let below : get_or c.args.d.now.partition.now i 0 < 4 = omega (arith, c.args.d.now.given.mapped i, c.args.d.now.given.four) in
    let any = at_any c.args.v.first c.args.v.second c.args.d.now.weights.now c.args.d.now.partition.now c.args.x i below in
    (search rules) ∙ any)
