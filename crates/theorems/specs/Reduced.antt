-- The word of a texel is its channels reduced, of every block at a listed footprint, legal, void, reserved or illegal; and the numbers and marks that
-- C reads mean the channels that are answered.
-- Assumes nothing.
use Rattle.std.specs.Prelude.{◌≡◌, refl, Bool, true, false, cond, List, ℕ, ◌+◌, ◌*◌, ◌≤◌, ◌<◌, eqb, length}
use Rattle.std.proofs.Common.{sym, ap, ◌∙◌, arith, eq-eqb, ne_eqb}
use Rattle.std.proofs.Math.Decide.{ℕ_discrete}
use Rattle.std.specs.Float.{binary32}
use Rattle.std.specs.Float.Ieee.{of_bits}
use Rattle.std.proofs.Math.ListN.{get_or}
use Rattle.bits.specs.Bits.{bits_at, bytes}
use Rattle.bits.specs.BitLaws.{bits-lt}
use Rattle.answers.specs.Answers.{void_extent}
use Rattle.footprint.specs.Footprints.{texels_of, listed}
use Rattle.footprint.specs.declared.Footprint.{Footprint}
use Rattle.half.specs.Half.{void_byte_of}
use Rattle.blend.specs.Blend.{hdr_half, word_of}
use Rattle.blend.specs.BlendLaws.{hdr-half-lt}
use Rattle.channels.specs.Channels.{finite, channel_of, number_of, mark_of, texel_of, reduced_by}
use Rattle.channels.specs.ChannelLaws.{hdr-reduced, void-reduced, finite-byte, bits-float}
use Rattle.channels.specs.declared.Sample.{Sample}
use Rattle.channels.specs.declared.Sample.TheVariants.{Byte as SampleByte, Half}
use Rattle.channels.specs.declared.Samples.{Samples}
use Rattle.channels.specs.declared.Channel.{Channel}
use Rattle.channels.specs.declared.Channel.TheVariants.{Byte, Float}
use Rattle.channels.specs.declared.Texel.{Texel}
use Rattle.channels.specs.declared.Rule.{Rule}
use Rattle.channels.specs.declared.Rule.TheVariants.{Ordinary, Void}
use Rattle.endpoints_colours.specs.Bounds.{InLimits, limit}
use Rattle.endpoints_colours.specs.Colours.{nothing, mark_of as ends_mark, first_of, second_of}
use Rattle.endpoints_colours.specs.declared.Mark.{Mark}
use Rattle.endpoints_colours.specs.declared.Mark.TheVariants.{Ldr, Hdr}
use Rattle.endpoints_colours.specs.declared.Endpoints.{Endpoints}
use Rattle.params_rules.specs.Fields.{fields_of, answer}
use Rattle.params.specs.Params.{params_of, ends_field, weights_field}
use Rattle.params.specs.Laws.{answer-is}
use Rattle.params.specs.declared.Params.{Params}
use Rattle.texels.specs.Texels.{blend_by, blended_at, crate_reduction, sample_of, weight_at, texel_word, texel_sample}
use Rattle.texels_samples.specs.PlaneLaws.{ends-lt}
use Rattle.block_void.specs.Void.{void_word, void_sample, void_samples}
use Rattle.block_ordinary.specs.Ordinary.{ordinary_word, ordinary_sample}
use Rattle.block_ordinary.specs.Facts.{Facts, ready}
use Rattle.block_ordinary.specs.Parts.{ends-within, weights-light}
use Rattle.block.specs.Block.{magenta, colour_of, word_of_params, block_word, word_at}
use Rattle.block_refusal.specs.RefusalLaws.{texel-not-refused}
use Rattle.block_channels.specs.BlockChannels.{magenta_samples, samples_by, ordinary_samples, block_samples, texel_answered}

-- ---- what is stated
-- by whose rule the floats of a block are reduced, by its answer
abbrev pub rule_of : ℕ → Rule
rule_of a = cond (eqb a void_extent) Void Ordinary

-- the word of four channels, each reduced to a byte
abbrev pub word_from : Rule → Texel → ℕ
word_from rule x = word_of (reduced_by rule x.r) (reduced_by rule x.g) (reduced_by rule x.b) (reduced_by rule x.a)

-- the channel that a number of C with its mark means
abbrev pub meant_by : ℕ → ℕ → Channel
meant_by mark n = cond (eqb mark 0) (Byte n) (Float (of_bits binary32 n))

-- ---- an ordinary block
channel-reduced : (m : Mark) (v0 v1 w : ℕ) → v0 < limit m → v1 < limit m → w ≤ 64
    → crate_reduction m (blend_by m v0 v1 w) ≡ reduced_by Ordinary (channel_of (sample_of m (blend_by m v0 v1 w)))
channel-reduced Ldr v0 v1 w h l b = refl
channel-reduced Hdr v0 v1 w h l b = sym (hdr-reduced (finite (hdr_half v0 v1 w)) ∙ finite-byte (hdr_half v0 v1 w) (hdr-half-lt v0 v1 w h l b))

module _ (ends : List Endpoints) (weights map : List ℕ) (planes channel t : ℕ) (within : (i : ℕ) → InLimits (get_or ends i nothing)) (light : (i : ℕ) → get_or weights i 0 ≤ 64) where
  texel-reduced : (k : ℕ) → k < 4
      → crate_reduction (blended_at ends weights map planes channel t k).mark (blended_at ends weights map planes channel t k).value ≡ reduced_by Ordinary (channel_of (texel_sample ends weights map planes channel t k))
  unfolding texel_sample
  texel-reduced k h =
      let e = get_or ends (get_or map t 0) nothing in
      let l = ends-lt e k h (within (get_or map t 0)) in
      channel-reduced (ends_mark e k) (first_of e k) (second_of e k) (weight_at weights planes channel t k) l.0 l.1 (light _)

  word-reduced : texel_word ends weights map planes channel t
      ≡ word_of (reduced_by Ordinary (channel_of (texel_sample ends weights map planes channel t 0))) (reduced_by Ordinary (channel_of (texel_sample ends weights map planes channel t 1))) (reduced_by Ordinary (channel_of (texel_sample ends weights map planes channel t 2)))
      (reduced_by Ordinary (channel_of (texel_sample ends weights map planes channel t 3)))
  unfolding texel_word
  word-reduced = rw (texel-reduced 0 (omega arith), texel-reduced 1 (omega arith), texel-reduced 2 (omega arith), texel-reduced 3 (omega arith))

ordinary-reduced : (p : Params) (v : ℕ) (foot : Footprint) (t : ℕ) → Facts p → ordinary_word p v foot t ≡ word_from Ordinary (texel_of (ordinary_samples p v foot t))
unfolding ordinary_word ordinary_sample
ordinary-reduced p v foot t f = word-reduced _ _ _ _ _ t (ends-within p foot f (ends_field p v)) (weights-light p foot f (weights_field p v))

-- ---- a void block
sample-reduced : (b : Bool) (h n : ℕ) → reduced_by Void (channel_of (cond b (Half h) (SampleByte n))) ≡ cond b (void_byte_of h) n
sample-reduced true h n = void-reduced h
sample-reduced false h n = refl

either-word : (b : Bool) (x0 x1 x2 x3 y0 y1 y2 y3 : ℕ) → cond b (word_of x0 x1 x2 x3) (word_of y0 y1 y2 y3) ≡ word_of (cond b x0 y0) (cond b x1 y1) (cond b x2 y2) (cond b x3 y3)
either-word true x0 x1 x2 x3 y0 y1 y2 y3 = refl
either-word false x0 x1 x2 x3 y0 y1 y2 y3 = refl

colour-reduced : (v : ℕ) → void_word v ≡ word_from Void (texel_of (void_samples v))
unfolding void_word void_sample
colour-reduced v =
    let b = eqb (bits_at v 9 1) 1 in
    either-word b _ _ _ _ _ _ _ _
    ∙ rw (
      sample-reduced b (bits_at v 64 16) (bits_at v 72 8),
      sample-reduced b (bits_at v 80 16) (bits_at v 88 8),
      sample-reduced b (bits_at v 96 16) (bits_at v 104 8),
      sample-reduced b (bits_at v 112 16) (bits_at v 120 8),
    )

-- ---- the theorem
-- a block that is not legal
one-reduced : (a v : ℕ) → colour_of a v ≡ word_from (rule_of a) (texel_of (samples_by a v))
unfolding colour_of
one-reduced a v = go (eqb a 1)
  where
    go : (b : Bool) → cond b (void_word v) magenta ≡ word_from (cond b Void Ordinary) (texel_of (cond b (void_samples v) magenta_samples))
    go true = colour-reduced v
    go false = refl

pub reduced-word : (v : ℕ) (foot : Footprint) (t : ℕ) → listed foot ≡ true → block_word v foot t ≡ word_from (rule_of (answer (fields_of v) foot)) (texel_of (block_samples v foot t))
unfolding block_word word_of_params block_samples
reduced-word v foot t l = rw (← (answer-is (fields_of v) foot)) (go (ℕ_discrete p.answer 0))
  where
    p : Params
    p = params_of v foot

    go : Dec (p.answer ≡ 0)
        → cond (eqb p.answer 0) (ordinary_word p v foot t) (colour_of p.answer v) ≡ word_from (rule_of p.answer) (texel_of (cond (eqb p.answer 0) (ordinary_samples p v foot t) (samples_by p.answer v)))
    go (yes z) = rw (eq-eqb p.answer 0 z, ne_eqb p.answer 1 (λ y. omega arith)) (ordinary-reduced p v foot t (ready p v foot refl z l).facts)
    go (no n) = rw (ne_eqb p.answer 0 n) (one-reduced p.answer v)

-- the same of the two calls: the word that `decode_astc_block` paints is what `texel_channels` answers, reduced
pub word-reduces : (s : List ℕ) (foot : Footprint) (t : ℕ) → length s ≡ 16 → listed foot ≡ true → t < texels_of foot
    → word_at s foot t ≡ word_from (rule_of (texel_answered s foot t).answer) (texel_answered s foot t).texel
unfolding word_at texel_answered
word-reduces s foot t h l b = rw (texel-not-refused (length s) foot t h l b) (reduced-word (bytes 16 s) foot t l)

-- ---- numbers and marks
-- of a sample whose half is a pattern of 16 bits
abbrev Short : Sample → Type 0
Short (SampleByte b) = Unit {0}
Short (Half h) = h < 65536

meant : (s : Sample) → Short s → meant_by (mark_of s) (number_of s) ≡ channel_of s
meant (SampleByte b) h = refl
meant (Half h) l = ap Float (bits-float h l)

ordinary-short : (m : Mark) (c : ℕ) → Short (sample_of m c)
ordinary-short Ldr c = tt
ordinary-short Hdr c = omega arith

texel-short : (ends : List Endpoints) (weights map : List ℕ) (planes channel t k : ℕ) → Short (texel_sample ends weights map planes channel t k)
unfolding texel_sample
texel-short ends weights map planes channel t k = let c = blended_at ends weights map planes channel t k in ordinary-short c.mark c.value

void-short : (v k : ℕ) → Short (void_sample v k)
unfolding void_sample
void-short v k = go (eqb (bits_at v 9 1) 1)
  where
    go : (b : Bool) → Short (cond b (Half (bits_at v (64 + 16 * k) 16)) (SampleByte (bits_at v (72 + 16 * k) 8)))
    go true = bits-lt v (64 + 16 * k) 16
    go false = tt

pub record Meant (s : Samples) : Type 0 where
  pub r : meant_by (mark_of s.r) (number_of s.r) ≡ channel_of s.r
  pub g : meant_by (mark_of s.g) (number_of s.g) ≡ channel_of s.g
  pub b : meant_by (mark_of s.b) (number_of s.b) ≡ channel_of s.b
  pub a : meant_by (mark_of s.a) (number_of s.a) ≡ channel_of s.a

-- of every texel of every block
pub numbers-meant : (v : ℕ) (foot : Footprint) (t : ℕ) → Meant (block_samples v foot t)
unfolding block_samples ordinary_sample
numbers-meant v foot t = go (eqb (params_of v foot).answer 0) (eqb (params_of v foot).answer 1)
  where
    all : (f : ℕ → Sample) → ((k : ℕ) → Short (f k)) → Meant (record { r = f 0; g = f 1; b = f 2; a = f 3 })
    all f h = record { r = meant (f 0) (h 0); g = meant (f 1) (h 1); b = meant (f 2) (h 2); a = meant (f 3) (h 3) }

    go : (b c : Bool) → Meant (cond b (ordinary_samples (params_of v foot) v foot t) (cond c (void_samples v) magenta_samples))
    go true c = all (λ (k : ℕ). ordinary_sample (params_of v foot) v foot t k) (λ k. texel-short _ _ _ _ _ t k)
    go false true = all (void_sample v) (void-short v)
    go false false = record { r = refl; g = refl; b = refl; a = refl }
