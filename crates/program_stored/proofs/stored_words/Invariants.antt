-- Each turn fills one word more, and after the last all of them are the definition's.
use mathlib.Core.Path.{◌≡◌}
use Prim.Native.Nat.{◌-◌, ◌≤◌}
use lib.ListN.{replicate}
use Rattle.laws.specs.Lists.{put}
use Rattle.footprint.specs.Footprints.{most_texels}
use Rattle.program_stored.specs.Stored.{word_at}
use Rattle.program_stored.proofs.stored_words.Given as goal

abbrev pub invariant-loop-k : goal.invariant-loop-k
invariant-loop-k l = l.words ≡ put (word_at l.stored) 0 l.k (replicate most_texels 0)
