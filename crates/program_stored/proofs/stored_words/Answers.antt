-- Each turn fills one word more, and after the last all of them are the definition's.
use native.Mathlib.Omega.{arith}
use Rattle.laws.specs.Lists.{put-none, put-turn, put-end}
use Rattle.footprint.specs.Footprints.{most_texels}
use Rattle.program_stored.specs.Stored.{stored_words}
use Rattle.program_stored.proofs.stored_words.Goals as goal

pub loop-k-init : goal.loop-k-init
loop-k-init c = put-none _ 0 _

pub loop-k-preserved : goal.loop-k-preserved
loop-k-preserved c = put-turn _ 0 c.loop-k.k _ _ _ c.loop-k.invariant (omega arith) c.word_at.ensures

pub returns : goal.returns
unfolding stored_words
returns c = put-end _ 0 c.loop-k.k most_texels _ _ c.loop-k.invariant (omega arith) (omega arith)
