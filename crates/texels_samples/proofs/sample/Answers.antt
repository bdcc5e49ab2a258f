-- `texels_samples::sample` meets its contract: a byte, or a half with the top bit. Assumes nothing.
use native.Mathlib.Omega.{arith}
use Rattle.texels_samples.specs.PlaneLaws.{ldr-limit, hdr-limit, ldr-is, hdr-is}
use Rattle.texels_samples.proofs.sample.Goals as goal

pub select_color_byte-requires : goal.select_color_byte-requires
select_color_byte-requires c =
    let z = c.if-hdr-eq0.true in
    (ldr-limit _ c.args.v0 c.args.v1 c.args.w z c.requires.0, (ldr-limit _ c.args.v0 c.args.v1 c.args.w z c.requires.1, omega (arith, c.from.ensures, c.requires.2)))

pub select_half-requires : goal.select_half-requires
select_half-requires c =
    let n = c.if-hdr-eq0.false in
    (rw c.from-else-hdr-eq0.ensures (hdr-limit _ c.args.v0 c.args.v1 c.args.w n c.requires.0), (rw c.from-else-hdr-eq0-2.ensures (hdr-limit _ c.args.v0 c.args.v1 c.args.w n c.requires.1), omega (arith, c.from-else-hdr-eq0-3.ensures, c.requires.2)))

pub returns-then-hdr-eq0 : goal.returns-then-hdr-eq0
returns-then-hdr-eq0 c = ldr-is _ _ _ _ _ c.if-hdr-eq0.true (rw c.from.ensures at c.select_color_byte.ensures.0)

pub returns-else-hdr-eq0 : goal.returns-else-hdr-eq0
returns-else-hdr-eq0 c =
    hdr-is _ _ _ _ _ c.if-hdr-eq0.false
    (rw (c.from-else-hdr-eq0.ensures, c.from-else-hdr-eq0-2.ensures, c.from-else-hdr-eq0-3.ensures) at c.select_half.ensures.0)
