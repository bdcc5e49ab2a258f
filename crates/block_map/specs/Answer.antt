-- The answer of a block and its map, of its sixteen bytes s.
-- Assumes nothing.
use Rattle.std.specs.Prelude.{cond, List, ℕ, eqb, length}
use Rattle.bits.specs.Bits.{bytes}
use Rattle.answers.specs.Answers.{legal}
use Rattle.footprint.specs.Footprints.{texels_of}
use Rattle.footprint.specs.declared.Footprint.{Footprint}
use Rattle.params_rules.specs.Fields.{fields_of, answer}
use Rattle.params_map.specs.Map.{no_map, map_of}
use Rattle.params_map.specs.declared.BlockMap.{BlockMap}
use Rattle.block_refusal.specs.Refusal.{block_refusal}

-- the answer, where there is room for so many texels: the refusal, or what the block itself answers
unfoldable pub answer_of : List ℕ → Footprint → ℕ → ℕ
answer_of s foot room = let a = block_refusal (length s) foot room in cond (eqb a 0) (answer (fields_of (bytes 16 s)) foot) a

-- the map takes no output, so none is too short
unfoldable pub map_answer : List ℕ → Footprint → ℕ
map_answer s foot = answer_of s foot (texels_of foot)

-- all its numbers are 0 where the answer is another than 0
unfoldable pub block_map : List ℕ → Footprint → BlockMap
block_map s foot = let a = map_answer s foot in cond (eqb a legal) (map_of (bytes 16 s) foot) (no_map a)
