-- What the answer of a void block tells, and the two kinds of samples, and the word by them.
-- Assumes nothing.
use Rattle.std.specs.Prelude.{◌≡◌, Bool, ℕ, ◌+◌, ◌*◌, eqb}
use Rattle.std.proofs.Math.Path.{refl}
use Rattle.std.proofs.Common.{sym, ◌∙◌, suc-ne-zero}
use Rattle.std.proofs.Math.Bool.{true, false, cond}
use borrow.Author.Tests.{eq-eqb, ne_eqb}
use Rattle.bits.specs.Bits.{bits_at}
use Rattle.half.specs.Half.{void_byte_of}
use Rattle.params_low.specs.Low.{is_void}
use Rattle.blend.specs.Blend.{word_of}
use Rattle.channels.specs.declared.Sample.{Sample}
use Rattle.channels.specs.declared.Sample.TheVariants.{Byte, Half}
use Rattle.block_void.specs.Void.{void_answer, void_word, void_sample, void_samples}

-- ---- the answer
pub told-void : (v : ℕ) → is_void v ≡ true → 1 ≡ void_answer v
unfolding void_answer
told-void v h = rw h

pub told-other : (v : ℕ) → is_void v ≡ false → 0 ≡ void_answer v
unfolding void_answer
told-other v h = rw h

module _ (v a : ℕ) (e : a ≡ void_answer v) where
  pub void-true : a ≡ 1 → is_void v ≡ true
  unfolding void_answer
  void-true z = go (is_void v) (sym e ∙ z)
    where
      go : (t : Bool) → cond {A = ℕ} t 1 0 ≡ 1 → t ≡ true
      go true x = refl
      go false x = absurd (suc-ne-zero 0 (sym x))

  pub void-false : (a ≡ 1 → ⊥) → is_void v ≡ false
  unfolding void_answer
  void-false n = go (is_void v) (λ z. n (e ∙ z))
    where
      go : (t : Bool) → (cond {A = ℕ} t 1 0 ≡ 1 → ⊥) → t ≡ false
      go true x = absurd (x refl)
      go false x = refl

-- ---- the colour
pub void-halves : (v x r g b a w : ℕ) → x ≡ bits_at v 9 1 → x ≡ 1 → r ≡ void_byte_of (bits_at v 64 16) → g ≡ void_byte_of (bits_at v 80 16) → b ≡ void_byte_of (bits_at v 96 16)
    → a ≡ void_byte_of (bits_at v 112 16) → w ≡ word_of r g b a → w ≡ void_word v
unfolding void_word
void-halves v x r g b a w e h er eg eb ea ew = ew ∙ rw (er, eg, eb, ea, eq-eqb (bits_at v 9 1) 1 (sym e ∙ h))

pub void-bytes : (v x r g b a w : ℕ) → x ≡ bits_at v 9 1 → (x ≡ 1 → ⊥) → r ≡ bits_at v 72 8 → g ≡ bits_at v 88 8 → b ≡ bits_at v 104 8 → a ≡ bits_at v 120 8
    → w ≡ word_of r g b a → w ≡ void_word v
unfolding void_word
void-bytes v x r g b a w e h er eg eb ea ew = ew ∙ rw (er, eg, eb, ea, ne_eqb (bits_at v 9 1) 1 (λ z. h (e ∙ z)))

-- ---- its samples
module _ (v x : ℕ) (e : x ≡ bits_at v 9 1) (r g b a : Sample) where
  pub samples-halves : x ≡ 1 → r ≡ Half (bits_at v 64 16) → g ≡ Half (bits_at v 80 16) → b ≡ Half (bits_at v 96 16) → a ≡ Half (bits_at v 112 16)
      → record { r = r; g = g; b = b; a = a } ≡ void_samples v
  unfolding void_sample
  samples-halves h er eg eb ea = rw (er, eg, eb, ea, eq-eqb (bits_at v 9 1) 1 (sym e ∙ h))

  pub samples-bytes : (x ≡ 1 → ⊥) → r ≡ Byte (bits_at v 72 8) → g ≡ Byte (bits_at v 88 8) → b ≡ Byte (bits_at v 104 8) → a ≡ Byte (bits_at v 120 8)
      → record { r = r; g = g; b = b; a = a } ≡ void_samples v
  unfolding void_sample
  samples-bytes h er eg eb ea = rw (er, eg, eb, ea, ne_eqb (bits_at v 9 1) 1 (λ z. h (e ∙ z)))

-- ---- its samples
module _ (v k x : ℕ) where
  pub sample-half : bits_at v 9 1 ≡ 1 → x ≡ bits_at v (64 + 16 * k) 16 → Half x ≡ void_sample v k
  unfolding void_sample
  sample-half h e = rw (e, eq-eqb (bits_at v 9 1) 1 h)

  pub sample-high : (bits_at v 9 1 ≡ 1 → ⊥) → x ≡ bits_at v (72 + 16 * k) 8 → Byte x ≡ void_sample v k
  unfolding void_sample
  sample-high h e = rw (e, ne_eqb (bits_at v 9 1) 1 h)

-- ---- the colour
-- a channel's byte: a half goes as the original reads it
abbrev pub sample_byte : Sample → ℕ
sample_byte (Byte byte) = byte
sample_byte (Half pattern) = void_byte_of pattern

-- the word is that of the samples
pub word-sampled : (v : ℕ) → word_of (sample_byte (void_sample v 0)) (sample_byte (void_sample v 1)) (sample_byte (void_sample v 2)) (sample_byte (void_sample v 3)) ≡ void_word v
unfolding void_word void_sample
word-sampled v = go (eqb (bits_at v 9 1) 1)
  where
    one : Bool → ℕ → ℕ
    one t k = sample_byte (cond t (Half (bits_at v (64 + 16 * k) 16)) (Byte (bits_at v (72 + 16 * k) 8)))

    go : (t : Bool) → word_of (one t 0) (one t 1) (one t 2) (one t 3)
        ≡ cond t (word_of (void_byte_of (bits_at v 64 16)) (void_byte_of (bits_at v 80 16)) (void_byte_of (bits_at v 96 16)) (void_byte_of (bits_at v 112 16)))
        (word_of (bits_at v 72 8) (bits_at v 88 8) (bits_at v 104 8) (bits_at v 120 8))
    go true = refl
    go false = refl
