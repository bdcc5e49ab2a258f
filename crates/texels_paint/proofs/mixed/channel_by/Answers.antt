-- The channel of each mark, within its limit.
use Prim.Native.Nat.{◌<◌}
use Rattle.texels.specs.Texels.{channel_by}
use Rattle.texels.specs.PaintLaws.{limit-of, channel-of}
use native.Mathlib.Omega.{arith}
use Rattle.texels_paint.proofs.mixed.channel_by.Goals as goal

pub select_color_byte-requires : goal.select_color_byte-requires
select_color_byte-requires c =
    let e = c.in-Ldr.is in
    let p = c.requires in
    let a : c.args.v0 < 256 = limit-of e p.0 in
    let b : c.args.v1 < 256 = limit-of e p.1 in
    omega arith

pub hdr_channel-requires : goal.hdr_channel-requires
hdr_channel-requires c =
    let e = c.in-Hdr.is in
    let p = c.requires in
    (limit-of e p.0, limit-of e p.1, p.2)

pub returns-in-Ldr : goal.returns-in-Ldr
unfolding channel_by
returns-in-Ldr c = channel-of _ _ _ c.in-Ldr.is (rw c.from.ensures at c.select_color_byte.ensures.0)

pub returns-in-Hdr : goal.returns-in-Hdr
unfolding channel_by
returns-in-Hdr c = channel-of _ _ _ c.in-Hdr.is c.hdr_channel.ensures
