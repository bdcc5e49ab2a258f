-- A word of four channels.
use mathlib.Core.Path.{◌∙◌}
use Rattle.texels.specs.Texels.{word_by}
use Rattle.texels_paint.proofs.mixed.texel.Goals as goal

pub returns : goal.returns
unfolding word_by
returns c =
    c.color.ensures ∙ rw (c.channel_by.ensures, c.channel_by-2.ensures, c.channel_by-3.ensures, c.channel_by-4.ensures)
