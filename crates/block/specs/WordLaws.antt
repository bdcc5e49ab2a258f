-- The words of a block by its kind: all that callers need to know of it. v is the number of its bytes s.
-- Assumes nothing.
use Rattle.std.specs.Prelude.{◌≡◌, refl, Bool, true, false, cond, List, ℕ, ◌*◌, ◌<◌, eqb, length}
use Rattle.std.proofs.Math.Path.{sym}
use Rattle.std.proofs.Common.{ap, ◌∙◌, suc-ne-zero}
use borrow.Author.Tests.{eq-eqb, ne_eqb}
use Rattle.laws.specs.Lists.{put, length-put}
use Rattle.footprint.specs.Footprints.{texels_of, listed}
use Rattle.footprint.specs.Sides.{sides-of}
use Rattle.footprint.specs.declared.Footprint.{Footprint}
use Rattle.lanes.specs.Lanes.{most_lanes, lane_at, joined_at, eights}
use Rattle.lanes.specs.LaneLaws.{joined_is}
use Rattle.params_rules.specs.Fields.{fields_of}
use Rattle.params_rules.specs.FieldLaws.{answer-void, void-alone}
use Rattle.params.specs.Params.{params_of}
use Rattle.params.specs.Laws.{answer-is}
use Rattle.block_void.specs.Void.{void_answer, void_word}
use Rattle.block_void.specs.VoidLaws.{void-true, void-false}
use Rattle.block_map.specs.Answer.{map_answer}
use Rattle.block_map.specs.AnswerLaws.{map-answer}
use Rattle.block_ordinary.specs.Ordinary.{ordinary_word, block_answer, lanes_in, lanes_of}
use Rattle.block.specs.Block.{block_bits, magenta, colour_of, word_of_params, block_word, word_at}

module _ (s : List ℕ) (foot : Footprint) (v : ℕ) (ev : v ≡ block_bits s) where
  -- ---- the answer
  pub answer_at : (a : ℕ) → a ≡ block_answer v foot → a ≡ block_answer (block_bits s) foot
  answer_at a e = e ∙ ap (λ (x : ℕ). block_answer x foot) ev

  pub answer-mapped : length s ≡ 16 → listed foot ≡ true → (a : ℕ) → a ≡ block_answer v foot → a ≡ map_answer s foot
  answer-mapped h l a e = answer_at a e ∙ sym (map-answer s foot h l)

  -- ---- a block that is not legal has one word, which its answer tells
  word-one : (a : ℕ) → block_answer v foot ≡ a → (a ≡ 0 → ⊥) → (t : ℕ) → colour_of a v ≡ word_at s foot t
  unfolding word_at block_word word_of_params
  word-one a e n t = rw (← ev, answer-is (fields_of v) foot, e, ne_eqb a 0 n)

  pub word-void : (a w : ℕ) → a ≡ void_answer v → w ≡ void_word v → a ≡ 1 → (a ≡ block_answer v foot) × ((t : ℕ) → w ≡ word_at s foot t)
  unfolding colour_of
  word-void a w e f z =
      let told : block_answer v foot ≡ 1 = answer-void v foot (void-true v a e z) in
      (z ∙ sym told, λ t. f ∙ word-one 1 told (suc-ne-zero 0) t)

  pub word-bad : (b a : ℕ) → b ≡ void_answer v → (b ≡ 1 → ⊥) → a ≡ block_answer v foot → (a ≡ 0 → ⊥) → (t : ℕ) → magenta ≡ word_at s foot t
  unfolding colour_of
  word-bad b a d h e n t = rw (ne_eqb a 1 (λ z. void-alone v foot (void-false v b d h) (sym e ∙ z))) at (word-one a (sym e) n t)

  -- ---- a legal one has its words in its lanes
  pub word-legal : listed foot ≡ true → (before lanes : List ℕ) → length before ≡ most_lanes → lanes ≡ lanes_of v foot before → block_answer v foot ≡ 0
      → (t : ℕ) → t < texels_of foot → joined_at lanes t ≡ word_at s foot t
  unfolding word_at block_word word_of_params lanes_in
  word-legal l before lanes n e z t h =
      let p = params_of v foot in
      let y : p.answer ≡ 0 = answer-is (fields_of v) foot ∙ z in
      let d : lanes ≡ put (lane_at (ordinary_word p v foot)) 0 (2 * eights (texels_of foot)) before = e ∙ rw (eq-eqb p.answer 0 y) in
      rw (← ev, d, eq-eqb p.answer 0 y) (joined_is (ordinary_word p v foot) (texels_of foot) t before n (sides-of foot l).texels h)

pub lanes-length : (v : ℕ) (foot : Footprint) (before lanes : List ℕ) → lanes ≡ lanes_of v foot before → length lanes ≡ length before
unfolding lanes_in
lanes-length v foot before lanes e = ap length e ∙ go (eqb (params_of v foot).answer 0)
  where
    go : (t : Bool) → length (cond t (put (lane_at (ordinary_word (params_of v foot) v foot)) 0 (2 * eights (texels_of foot)) before) before) ≡ length before
    go true = length-put _ 0 (2 * eights (texels_of foot)) before
    go false = refl
