-- `block_channels::texel_at` meets its contract by what the block is. Assumes nothing.
use Rattle.answers.specs.ResultLaws.{broken-some}
use native.Mathlib.Omega.{arith}
use Rattle.footprint.specs.Sides.{sides-of}
use Rattle.block_void.specs.VoidLaws.{told-void}
use mathlib.Core.Path.{refl, sym, ◌∙◌}
use Rattle.block_channels.specs.ChannelLaws.{texel-void, texel-legal, texel-bad}
use Rattle.block_channels.proofs.texel_at.Goals as goal

pub returns-then-is_void : goal.returns-then-is_void
returns-then-is_void c =
    rw c.from.ensures (texel-void _ _ _ c.load-b.ensures _ _ _ _ c.texel_of.ensures c.void_samples.ensures (told-void _ (sym c.is_void.ensures ∙ c.if-is_void.true)) refl)

pub decode_samples-requires : goal.decode_samples-requires
decode_samples-requires c =
    (sym c.is_void.ensures ∙ c.if-is_void.false, c.requires.1)

pub samples_at-requires : goal.samples_at-requires
samples_at-requires c =
    omega (arith, (sides-of _ c.requires.1).texels, c.requires.2)

pub returns-in-Ok : goal.returns-in-Ok
returns-in-Ok c =
    rw c.from-in-Ok.ensures (texel-legal _ _ _ c.load-b.ensures _ _ _ _ c.texel_of-in-Ok.ensures _ c.requires.2 c.requires.1 c.decode_samples.ensures.lanes_after c.in-Ok.ensures.value refl c.samples_at.ensures)

pub returns-in-Err : goal.returns-in-Err
returns-in-Err c =
    rw c.from-in-Err.ensures (texel-bad _ _ _ c.load-b.ensures _ _ _ _ c.texel_of-in-Err.ensures c.magenta.ensures (sym c.is_void.ensures ∙ c.if-is_void.false) c.in-Err.ensures.value (broken-some _))
