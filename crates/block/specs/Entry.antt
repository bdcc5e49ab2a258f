-- The entry point's ways out, and the words that it paints.
-- Assumes nothing.
use Rattle.std.specs.Prelude.{◌≡◌, refl, Bool, true, false, cond, List, ℕ, ◌+◌, ◌≤◌, ◌<◌, ltb, length, replicate}
use Rattle.std.proofs.Common.{sym, ap, ◌∙◌, zero-add}
use Rattle.std.proofs.lemmas.List.{length-replicate}
use borrow.Author.Tests.{lt-ltb, le-ltb}
use Rattle.laws.specs.Lists.{put, put_at, length-put, put_same, put_at-first}
use Rattle.footprint.specs.Footprints.{texels_of, listed}
use Rattle.footprint.specs.declared.Footprint.{Footprint}
use Rattle.lanes.specs.Lanes.{most_lanes, joined_at}
use Rattle.params_rules.specs.Fields.{fields_of}
use Rattle.params_rules.specs.FieldLaws.{answer_lt}
use Rattle.block_refusal.specs.Refusal.{block_refusal}
use Rattle.block_refusal.specs.RefusalLaws.{refusal-large}
use Rattle.block_map.specs.Answer.{answer_of}
use Rattle.block_map.specs.AnswerLaws.{answer-refused, answer-accepted}
use Rattle.block_void.specs.Void.{void_answer, void_word}
use Rattle.block_ordinary.specs.Ordinary.{block_answer, lanes_of}
use Rattle.block.specs.Block.{block_bits, magenta, word_at, painted_of}
use Rattle.block.specs.WordLaws.{answer_at, word-void, word-bad, word-legal}

-- ---- the words that are painted, v being the number of the block's bytes s
module _ (s : List ℕ) (foot : Footprint) (v : ℕ) (ev : v ≡ block_bits s) (out now : List ℕ) where
  abbrev Painted : ℕ → Type 0
  Painted a = (a ≡ block_answer (block_bits s) foot) × (now ≡ put (word_at s foot) 0 (texels_of foot) out)

  -- by g, which has the block's words
  painted-by : (g : ℕ → ℕ) (a : ℕ) → a ≡ block_answer v foot → ((t : ℕ) → t < texels_of foot → g t ≡ word_at s foot t) → now ≡ put_at g 0 (texels_of foot) out → Painted a
  painted-by g a e same p = (answer_at s foot v ev a e, p ∙ put_at-first _ (texels_of foot) out ∙ put_same _ _ 0 (texels_of foot) out (λ k x y. same k y))

  pub words-void : (a w : ℕ) → a ≡ void_answer v → w ≡ void_word v → a ≡ 1 → now ≡ put_at (λ (i : ℕ). w) 0 (texels_of foot) out → Painted a
  words-void a w e f z p = let d = word-void s foot v ev a w e f z in painted-by (λ (i : ℕ). w) a d.0 (λ t h. d.1 t) p

  pub words-bad : (b a : ℕ) → b ≡ void_answer v → (b ≡ 1 → ⊥) → a ≡ block_answer v foot → (a ≡ 0 → ⊥) → now ≡ put_at (λ (i : ℕ). magenta) 0 (texels_of foot) out → Painted a
  words-bad b a d h e n p = painted-by (λ (i : ℕ). magenta) a e (λ t l. word-bad s foot v ev b a d h e n t) p

  pub words-legal : (a : ℕ) (lanes : List ℕ) → listed foot ≡ true → a ≡ block_answer v foot → a ≡ 0 → lanes ≡ lanes_of v foot (replicate most_lanes 0)
      → now ≡ put_at (λ (i : ℕ). joined_at lanes (0 + i)) 0 (texels_of foot) out → Painted 0
  words-legal a lanes l e z d p =
      painted-by (λ (i : ℕ). joined_at lanes (0 + i)) 0 (sym z ∙ e)
      (λ k h. ap (joined_at lanes) (zero-add k) ∙ word-legal s foot v ev l (replicate most_lanes 0) lanes (length-replicate {A = ℕ} most_lanes 0) d (sym e ∙ z) k h) p

-- ---- the ways out
module _ (s : List ℕ) (foot : Footprint) (out : List ℕ) where
  abbrev Answered : ℕ → List ℕ → Type 0
  Answered a now = (a ≡ answer_of s foot (length out)) × (now ≡ painted_of s foot out)

  pub call-refused : (a : ℕ) → a ≡ block_refusal (length s) foot (length out) → (a ≡ 0 → ⊥) → Answered a out
  unfolding painted_of
  call-refused a e n =
      let r = answer-refused s foot (length out) a e n in
      let l : 20 ≤ a = rw (← e) at (refusal-large (length s) foot (length out) (λ z. n (e ∙ z))) in
      rw (r, le-ltb a 20 l) (refl, refl)

  pub painted : (a : ℕ) (now : List ℕ) → block_refusal (length s) foot (length out) ≡ 0 → Painted s foot (block_bits s) refl out now a → Answered a now
  unfolding painted_of
  painted a now z d = rw (answer-accepted s foot (length out) z, lt-ltb (block_answer (block_bits s) foot) 20 (answer_lt (fields_of (block_bits s)) foot)) d

-- what is painted has the length of what was there
pub length-painted : (s : List ℕ) (foot : Footprint) (out : List ℕ) → length (painted_of s foot out) ≡ length out
unfolding painted_of
length-painted s foot out = go (ltb (answer_of s foot (length out)) 20)
  where
    go : (t : Bool) → length (cond t (put (word_at s foot) 0 (texels_of foot) out) out) ≡ length out
    go true = length-put (word_at s foot) 0 (texels_of foot) out
    go false = refl
