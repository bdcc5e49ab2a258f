-- The block's window, put by rows.
use Rattle.std.proofs.Common.{rules}
use Rattle.lanes.specs.Lanes.{joined_at}
use Rattle.image_window.specs.Places.{block-lt, window-fits, window-texels}
use Rattle.image_window.specs.MarkLaws.{window-painted}
use mathlib.Core.Path.{refl}
use Rattle.image_window.proofs.copy_block.Goals as goal

pub put_rows-requires : goal.put_rows-requires
put_rows-requires c =
    let p = c.requires in
    let b = c.args.m.bounds in
    let l = block-lt _ _ _ p.0 in
    let e = c.window_of-w.ensures in
    let t = window-texels _ b _ l _ _ e refl b.sides.width b.sides.height in
    let f = window-fits _ b _ l _ _ e refl _ p.1 in
    λ k h. (search rules, (f, λ y x a b. let u = t y a in (search rules, search rules)))

pub returns : goal.returns
returns c =
    let p = c.requires in
    let b = c.args.m.bounds in
    window-painted _ b _ (block-lt _ _ _ p.0) (joined_at c.args.lanes.now) _ _ _ _ c.window_of-w.ensures refl c.put_rows.ensures
