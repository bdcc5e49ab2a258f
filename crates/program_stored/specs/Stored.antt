-- A stored record, and how it is counted. Its head is a footprint's width and height, the answer, and a block's sixteen bytes; four bytes for each
-- texel are stored after it.
-- Assumes nothing.
use Rattle.std.specs.Prelude.{Bool, true, false, cond, List, ℕ, ◌+◌, ◌*◌, eqb, ltb, get_or, set, replicate}
use Rattle.laws.specs.Lists.{put}
use Rattle.footprint.specs.Footprints.{most_texels}
use Rattle.program_compare.specs.Compare.{differences}
use Rattle.program_counts.specs.Counts.{more}
use Rattle.program_stored.specs.declared.Tally.{Tally}

-- the stored word of texel k
abbrev pub word_at : List ℕ → ℕ → ℕ
word_at stored k =
    get_or stored (4 * k) 0 + 0x100 * get_or stored (4 * k + 1) 0 + 0x1_0000 * get_or stored (4 * k + 2) 0 + 0x100_0000 * get_or stored (4 * k + 3) 0

-- all of them, 0 after the last
unfoldable pub stored_words : List ℕ → List ℕ
stored_words stored = put (word_at stored) 0 most_texels (replicate most_texels 0)

-- the texels of a record's footprint
abbrev pub texels_of : List ℕ → ℕ
texels_of head = get_or head 0 0 * get_or head 1 0

-- a decoder gives another answer than is stored, or other words in any place: the stored ones come first, and markers after them
unfoldable pub differs_from : List ℕ → List ℕ → ℕ → List ℕ → Bool
differs_from head stored answer words =
    cond (eqb answer (get_or head 2 0)) (ltb 0 (differences words (stored_words stored) (texels_of head) most_texels)) true

-- the tally at the list's end, or at a malformed record
unfoldable pub closed_at : Tally → Bool → Tally
closed_at t malformed = record {
  running = false;
  blocks = t.blocks;
  words = t.words;
  different = t.different;
  malformed = more t.malformed (cond malformed 1 0);
}

-- the tally with a record of so many words
unfoldable pub counted_in : Tally → ℕ → Bool → Tally
counted_in t words different = record {
  running = true;
  blocks = more t.blocks 1;
  words = more t.words words;
  different = more t.different (cond different 1 0);
  malformed = t.malformed;
}

-- the tally with a whole record, against a decoder's answer and words
abbrev pub record_in : Tally → List ℕ → List ℕ → ℕ → List ℕ → Tally
record_in t head stored answer words = counted_in t (texels_of head) (differs_from head stored answer words)

-- the counts of the answers with the one that is stored
abbrev pub answer_in : List ℕ → List ℕ → List ℕ
answer_in answers head = let a = get_or head 2 0 in set answers a (more (get_or answers a 0) 1)
