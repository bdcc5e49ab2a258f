-- The checks of a call for a block, in their order: its bytes, its footprint, then the room for its texels or the one texel asked for.
-- Assumes nothing.
use Rattle.std.specs.Prelude.{cond, not, ℕ, eqb, ltb}
use Rattle.answers.specs.Answers.{block_length, not_listed, output_too_short, no_position}
use Rattle.footprint.specs.Footprints.{texels_of, listed}
use Rattle.footprint.specs.declared.Footprint.{Footprint}

-- 0, or why every call with so many bytes and this footprint is refused
unfoldable pub first_refusal : ℕ → Footprint → ℕ
first_refusal len foot = cond (not (eqb len 16)) block_length (cond (not (listed foot)) not_listed 0)

-- and why one for all texels is, with room for so many
unfoldable pub block_refusal : ℕ → Footprint → ℕ → ℕ
block_refusal len foot room = let a = first_refusal len foot in cond (eqb a 0) (cond (ltb room (texels_of foot)) output_too_short 0) a

-- and one for the texel t alone
unfoldable pub texel_refusal : ℕ → Footprint → ℕ → ℕ
texel_refusal len foot t = let a = first_refusal len foot in cond (eqb a 0) (cond (ltb t (texels_of foot)) 0 no_position) a
