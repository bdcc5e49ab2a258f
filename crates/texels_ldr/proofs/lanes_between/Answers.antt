-- The lanes of the word, of LDR channels.
use mathlib.Core.Path.{sym, ◌∙◌}
use Rattle.texels_ldr.specs.LdrLaws.{ldr-low, ldr-high}
use Rattle.texels_ldr.proofs.lanes_between.Goals as goal

pub returns : goal.returns
returns c = record {
  low = c.pair.ensures ∙ sym (ldr-low c.args.e c.requires.0 c.args.v.r c.args.v.g c.args.v.b c.args.v.a);
  high = c.pair-2.ensures ∙ sym (ldr-high c.args.e c.requires.0 c.args.v.r c.args.v.g c.args.v.b c.args.v.a);
}
