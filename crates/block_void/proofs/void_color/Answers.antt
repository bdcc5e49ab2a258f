-- The word is that of the samples' bytes.
use Rattle.block_void.specs.VoidLaws.{word-sampled}
use mathlib.Core.Path.{◌∙◌}
use Rattle.block_void.proofs.void_color.Goals as goal

pub returns : goal.returns
returns c =
    (rw (c.sample_byte.ensures, c.sample_byte-2.ensures, c.sample_byte-3.ensures, c.sample_byte-4.ensures, c.void_samples-samples.ensures) at c.color.ensures) ∙ word-sampled _
