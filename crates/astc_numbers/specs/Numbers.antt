-- The map of a block as nine numbers and where a step led as three, in outputs that may be too short.
-- Assumes nothing.
use Rattle.std.specs.Prelude.{cond, List, [], ◌∷◌, ℕ, ltb, get_or, length}
use Rattle.laws.specs.Lists.{put}
use Rattle.answers.specs.Answers.{block_length, output_too_short}
use Rattle.params_map.specs.declared.BlockMap.{BlockMap}

-- the largest endpoint value; start and length of low configuration, endpoints, extra and weights
unfoldable pub numbers_of : BlockMap → List ℕ
numbers_of m = m.top ∷ m.low_at ∷ m.low_len ∷ m.end_at ∷ m.end_len ∷ m.extra_at ∷ m.extra_len ∷ m.weight_at ∷ m.weight_len ∷ []

-- fewer than nine places are 22, after the map's own refusals and before the block's answer
unfoldable pub map_answer_in : BlockMap → ℕ → ℕ
map_answer_in m room = cond (ltb m.answer block_length) (cond (ltb room 9) output_too_short m.answer) m.answer

-- what the output holds after it was `out`
unfoldable pub map_in : BlockMap → List ℕ → List ℕ
map_in m out = cond (ltb (map_answer_in m (length out)) block_length) (put (λ (k : ℕ). get_or (numbers_of m) k 0) 0 9 out) out

-- a step's next block, the blocks painted, and how many of them break a rule
unfoldable pub led_to : ℕ → ℕ → ℕ → List ℕ
led_to next painted bad = next ∷ painted ∷ bad ∷ []
