-- A stored record against the decoder: the block of its head, bytes 3 to 18, is decoded anew at the head's footprint, into words that are all markers.
-- Assumes nothing.
use Rattle.std.specs.Prelude.{List, ℕ, get_or, take, drop, replicate}
use Rattle.footprint.specs.Footprints.{footprint, most_texels}
use Rattle.footprint.specs.declared.Footprint.{Footprint}
use Rattle.block_map.specs.Answer.{answer_of}
use Rattle.block.specs.Block.{painted_of}
use Rattle.program_compare.specs.Compare.{marker}
use Rattle.program_stored.specs.Stored.{record_in}
use Rattle.program_stored.specs.declared.Tally.{Tally}

abbrev pub footprint_in : List ℕ → Footprint
footprint_in head = footprint (get_or head 0 0) (get_or head 1 0)

abbrev pub block_in : List ℕ → List ℕ
block_in head = take 16 (drop 3 head)

-- the tally with a whole record, against the block's answer and words
abbrev pub replayed_in : Tally → List ℕ → List ℕ → Tally
replayed_in t head stored =
    let answer = answer_of (block_in head) (footprint_in head) most_texels in
    let words = painted_of (block_in head) (footprint_in head) (replicate most_texels marker) in
    record_in t head stored answer words
