-- What is painted on every block that is void, reserved or breaks a rule, at a listed footprint with room.
-- Assumes nothing.
use Rattle.std.specs.Prelude.{◌≡◌, refl, Bool, true, false, ◌||◌, List, ◌⊎◌, ℕ, ◌≤◌, ◌<◌, eqb, length}
use Rattle.std.proofs.Common.{◌∙◌, ⊎_elim, arith}
use borrow.Author.Tests.{eq-eqb, ne_eqb, lt-ltb}
use Rattle.laws.specs.Lists.{put, put_same}
use Rattle.bits.specs.Bits.{bits_at, bytes}
use Rattle.footprint.specs.Footprints.{texels_of}
use Rattle.footprint.specs.declared.Footprint.{Footprint}
use Rattle.params_low.specs.Low.{is_void, low_of}
use Rattle.params_low.specs.LowLaws.{low-bits-are}
use Rattle.params_config.specs.Config.{is_reserved}
use Rattle.params_rules.specs.Fields.{fields_of, answer}
use Rattle.params_rules.specs.FieldLaws.{answer-void, told-reserved}
use Rattle.params.specs.Params.{params_of}
use Rattle.params.specs.Laws.{answer-is}
use Rattle.block_void.specs.Void.{void_word}
use Rattle.block_refusal.specs.RefusalLaws.{Accepted, not-refused}
use Rattle.block_map.specs.Answer.{answer_of}
use Rattle.block_map.specs.AnswerLaws.{answer-accepted}
use Rattle.block.specs.Block.{magenta, colour_of, word_of_params, block_word, word_at, painted_of}

-- ---- what is stated
-- the answer a, and the word w at every texel
pub record OneColour (s : List ℕ) (foot : Footprint) (out : List ℕ) (a w : ℕ) : Type 0 where
  pub answer : answer_of s foot (length out) ≡ a
  pub words : painted_of s foot out ≡ put (λ (t : ℕ). w) 0 (texels_of foot) out

-- byte 0 is 0xFC and bit 8 is 1
abbrev pub Void : ℕ → Type 0
Void v = bits_at v 0 9 ≡ 0x1fc

-- bits 0 to 3 all 0, or bits 0 and 1 both 0 with bits 6, 7, 8 all 1
abbrev pub Reserved : ℕ → Type 0
Reserved v = (bits_at v 0 4 ≡ 0) ⊎ ((bits_at v 0 2 ≡ 0) × (bits_at v 6 3 ≡ 7))

void-is : (v : ℕ) → Void v → is_void v ≡ true
unfolding is_void
void-is v h = eq-eqb (bits_at v 0 9) 0x1fc h

not-void-is : (v : ℕ) → (Void v → ⊥) → is_void v ≡ false
unfolding is_void
not-void-is v h = ne_eqb (bits_at v 0 9) 0x1fc h

or-true : (b : Bool) → b || true ≡ true
or-true true = refl
or-true false = refl

reserved-is : (v : ℕ) → Reserved v → is_reserved (low_of v) ≡ true
unfolding is_reserved
reserved-is v r =
    rw (low-bits-are v 0 4 (omega arith), low-bits-are v 0 2 (omega arith), low-bits-are v 6 3 (omega arith))
    (⊎_elim (λ z. rw (eq-eqb (bits_at v 0 4) 0 z)) (λ z. rw (eq-eqb (bits_at v 0 2) 0 z.0, eq-eqb (bits_at v 6 3) 7 z.1) (or-true (eqb (bits_at v 0 4) 0))) r)

-- ---- one colour
module _ (s : List ℕ) (foot : Footprint) (out : List ℕ) (h : Accepted (length s) foot (length out)) where
  answer-in : answer_of s foot (length out) ≡ answer (fields_of (bytes 16 s)) foot
  answer-in = answer-accepted s foot (length out) (not-refused (length s) foot (length out) h)

  -- a block that is not legal has one word, which its answer tells
  one-colour : (a : ℕ) → answer (fields_of (bytes 16 s)) foot ≡ a → (a ≡ 0 → ⊥) → a < 20 → OneColour s foot out a (colour_of a (bytes 16 s))
  unfolding painted_of word_at block_word word_of_params
  one-colour a e n l =
      let p : (params_of (bytes 16 s) foot).answer ≡ a = answer-is (fields_of (bytes 16 s)) foot ∙ e in
      record { answer = answer-in ∙ e; words = rw (answer-in, e, lt-ltb a 20 l) (put_same _ _ 0 (texels_of foot) out (λ k x y. rw (p, ne_eqb a 0 n))) }

  -- ---- the theorems
  pub void-painted : Void (bytes 16 s) → OneColour s foot out 1 (void_word (bytes 16 s))
  unfolding colour_of
  void-painted v = one-colour 1 (answer-void (bytes 16 s) foot (void-is (bytes 16 s) v)) (λ z. omega arith) (omega arith)

  pub refused-painted : (a : ℕ) → answer (fields_of (bytes 16 s)) foot ≡ a → 10 ≤ a → a < 20 → OneColour s foot out a magenta
  unfolding colour_of
  refused-painted a e l k = rw (ne_eqb a 1 (λ z. omega arith)) at (one-colour a e (λ z. omega arith) k)

  pub reserved-painted : Reserved (bytes 16 s) → (Void (bytes 16 s) → ⊥) → OneColour s foot out 10 magenta
  reserved-painted r n =
      refused-painted 10 (told-reserved (bytes 16 s) foot (is_void (bytes 16 s)) refl (not-void-is (bytes 16 s) n) _ refl _ refl (reserved-is (bytes 16 s) r)) (omega arith) (omega arith)
