-- The laws of a block's channels: what its lanes and its one colour come to, and the ways out of the entry points.
-- Assumes nothing.
use Rattle.std.specs.Prelude.{◌≡◌, true, false, ℕ, ◌+◌, ◌*◌, ◌≤◌, ◌<◌, get_or, length, replicate}
use Rattle.std.proofs.Math.Path.{refl, ap}
use Rattle.std.proofs.Common.{sym, ◌∙◌, arith}
use mathlib.Core.List.{List}
use Rattle.std.proofs.lemmas.List.{length-replicate}
use borrow.Author.Tests.{eq-eqb, ne_eqb, lt-ltb, le-ltb}
use Rattle.laws.specs.Lists.{put, put_same}
use Rattle.footprint.specs.Footprints.{texels_of, most_texels, listed}
use Rattle.footprint.specs.Sides.{sides-of}
use Rattle.footprint.specs.declared.Footprint.{Footprint}
use Rattle.blend.specs.Blend.{crate_byte}
use Rattle.channels.specs.Channels.{marks_of, texel_of}
use Rattle.channels.specs.declared.Samples.{Samples}
use Rattle.channels.specs.declared.Texel.{Texel}
use Rattle.endpoints_colours.specs.declared.Mark.{Mark}
use Rattle.endpoints_colours.specs.declared.Mark.TheVariants.{Ldr, Hdr}
use Rattle.endpoints_colours.specs.declared.Endpoints.{Endpoints}
use Rattle.lanes.specs.Lanes.{most_lanes}
use Rattle.lanes.specs.declared.Form.TheVariants.{Samples as SamplesForm}
use Rattle.params_low.specs.Low.{is_void}
use Rattle.params_rules.specs.Fields.{fields_of, answer}
use Rattle.params_rules.specs.FieldLaws.{answer_lt, answer-void, void-alone}
use Rattle.params.specs.Params.{params_of}
use Rattle.params.specs.Laws.{answer-is}
use Rattle.texels.specs.Texels.{blended_at, sample_of, texel_sample}
use Rattle.texels.specs.Samples.{lane_by, texel_lane, samples_in}
use Rattle.texels.specs.SampleLaws.{sample-at}
use Rattle.texels_read.specs.Read.{sample_in, texel_in}
use Rattle.texels_read.specs.ReadLaws.{read_byte, read-half}
use Rattle.texels_numbers.specs.Numbers.{four_of, numbers_by, numbers_from, marks_from, numbers_in}
use Rattle.texels_numbers.specs.NumberLaws.{fours-same}
use Rattle.block_void.specs.Void.{void_answer, void_samples}
use Rattle.block_void.specs.VoidLaws.{void-true}
use Rattle.block_refusal.specs.Refusal.{block_refusal, texel_refusal}
use Rattle.block_refusal.specs.RefusalLaws.{accepted, refusal-large}
use Rattle.block_map.specs.Answer.{answer_of}
use Rattle.block_map.specs.AnswerLaws.{answer-refused, answer-accepted}
use Rattle.block_ordinary.specs.Ordinary.{ordinary_sample, ordinary_lane, lanes_in}
use Rattle.block.specs.Block.{block_bits}
use Rattle.block_channels.specs.BlockChannels.{magenta_samples, samples_by, block_samples, number_at, marks_at, room_of, numbers_of, marks_in, answered_at, refused_by, texel_answered}
use Rattle.block_channels.specs.declared.Answered.{Answered}

-- ---- samples are read from lanes as they were put
read-sample : (m : Mark) (c : ℕ) → sample_in (lane_by m c) ≡ sample_of m c
unfolding crate_byte
read-sample Ldr c = read_byte (crate_byte c) (omega arith)
read-sample Hdr c = read-half c

read-texel : (ends : List Endpoints) (weights map : List ℕ) (planes channel t k : ℕ) → sample_in (texel_lane ends weights map planes channel t k) ≡ texel_sample ends weights map planes channel t k
unfolding texel_lane texel_sample
read-texel ends weights map planes channel t k = let c = blended_at ends weights map planes channel t k in read-sample c.mark c.value

-- ---- by the block's kind
module _ (v : ℕ) (foot : Footprint) where
  pub samples-one : (a : ℕ) → answer (fields_of v) foot ≡ a → (a ≡ 0 → ⊥) → (t : ℕ) → block_samples v foot t ≡ samples_by a v
  unfolding block_samples
  samples-one a e n t = rw (answer-is (fields_of v) foot, e, ne_eqb a 0 n)

  pub samples-void : (a : ℕ) → a ≡ void_answer v → a ≡ 1 → (a ≡ answer (fields_of v) foot) × ((t : ℕ) → block_samples v foot t ≡ void_samples v)
  samples-void a e z =
      let d : answer (fields_of v) foot ≡ 1 = answer-void v foot (void-true v a e z) in
      (z ∙ sym d, λ t. samples-one 1 d (λ x. omega arith) t)

  pub samples-bad : (a : ℕ) → is_void v ≡ false → a ≡ answer (fields_of v) foot → (a ≡ 0 → ⊥) → (t : ℕ) → block_samples v foot t ≡ magenta_samples
  samples-bad a h e n t = samples-one a (sym e) n t ∙ rw (ne_eqb a 1 (λ z. void-alone v foot h (sym e ∙ z)))

  read-ordinary : (t k : ℕ) → sample_in (ordinary_lane (params_of v foot) v foot t k) ≡ ordinary_sample (params_of v foot) v foot t k
  unfolding ordinary_lane ordinary_sample
  read-ordinary t k = read-texel _ _ _ _ _ t k

  module _ (l : listed foot ≡ true) (lanes : List ℕ) (d : lanes ≡ lanes_in SamplesForm v foot (replicate most_lanes 0)) (z : 0 ≡ answer (fields_of v) foot) where
    told : (params_of v foot).answer ≡ 0
    told = answer-is (fields_of v) foot ∙ sym z

    lane-is : (t k : ℕ) → t < texels_of foot → k < 4 → sample_in (get_or lanes (most_texels * k + t) 0) ≡ ordinary_sample (params_of v foot) v foot t k
    unfolding lanes_in
    lane-is t k h b =
        let f = ordinary_lane (params_of v foot) v foot in
        let e : lanes ≡ samples_in (texels_of foot) f (replicate most_lanes 0) = d ∙ rw (eq-eqb (params_of v foot).answer 0 told) in
        ap (λ (x : List ℕ). sample_in (get_or x (most_texels * k + t) 0)) e
        ∙ ap sample_in (sample-at (texels_of foot) f (replicate most_lanes 0) t k (length-replicate {A = ℕ} most_lanes 0) (sides-of foot l).texels h b)
        ∙ read-ordinary t k

    pub samples-legal : (t : ℕ) → t < texels_of foot → texel_in lanes t ≡ block_samples v foot t
    unfolding block_samples
    samples-legal t h =
        rw (eq-eqb (params_of v foot).answer 0 told, lane-is t 0 h (omega arith), lane-is t 1 h (omega arith), lane-is t 2 h (omega arith), lane-is t 3 h (omega arith))

-- ---- what is put, v being the number of the bytes s
module _ (s : List ℕ) (foot : Footprint) (v : ℕ) (ev : v ≡ block_bits s) where
  answer-in : (a : ℕ) → a ≡ answer (fields_of v) foot → a ≡ answer (fields_of (block_bits s)) foot
  answer-in a e = e ∙ ap (λ (x : ℕ). answer (fields_of x) foot) ev

  samples-in : (x : Samples) (t : ℕ) → x ≡ block_samples v foot t → x ≡ block_samples (block_bits s) foot t
  samples-in x t e = e ∙ ap (λ (y : ℕ). block_samples y foot t) ev

  module _ (out floats now marks : List ℕ) where
    abbrev Put : ℕ → Type 0
    Put a =
        (a ≡ answer (fields_of (block_bits s)) foot) × (now ≡ put (number_at s foot) 0 (4 * texels_of foot) out) × (marks ≡ put (marks_at s foot) 0 (texels_of foot) floats)

    put-by : (f : ℕ → Samples) (a : ℕ) → a ≡ answer (fields_of v) foot → ((t : ℕ) → t < texels_of foot → f t ≡ block_samples v foot t)
        → now ≡ put (numbers_by f) 0 (4 * texels_of foot) out → marks ≡ put (λ (t : ℕ). marks_of (f t)) 0 (texels_of foot) floats → Put a
    put-by f a e same h k = (
      answer-in a e,
      h ∙ fours-same _ _ (texels_of foot) out (λ t l. ap four_of (samples-in (f t) t (same t l))),
      k ∙ put_same _ _ 0 (texels_of foot) floats (λ t j l. ap marks_of (samples-in (f t) t (same t l))),
    )

    abbrev Filled : Samples → Type 0
    Filled x = (now ≡ put (numbers_in x) 0 (4 * texels_of foot) out) × (marks ≡ put (λ (t : ℕ). marks_of x) 0 (texels_of foot) floats)

    pub put-void : (x : Samples) (a : ℕ) → x ≡ void_samples v → a ≡ void_answer v → a ≡ 1 → Filled x → Put a
    put-void x a e d z h =
        let k = samples-void v foot a d z in
        put-by (λ (t : ℕ). x) a k.0 (λ t l. e ∙ sym (k.1 t)) h.0 h.1

    pub put-bad : (x : Samples) (a : ℕ) → x ≡ magenta_samples → is_void v ≡ false → a ≡ answer (fields_of v) foot → (a ≡ 0 → ⊥) → Filled x → Put a
    put-bad x a e k d n h = put-by (λ (t : ℕ). x) a d (λ t l. e ∙ sym (samples-bad v foot a k d n t)) h.0 h.1

    pub put-legal : (lanes : List ℕ) (a : ℕ) → listed foot ≡ true → lanes ≡ lanes_in SamplesForm v foot (replicate most_lanes 0) → a ≡ answer (fields_of v) foot → a ≡ 0
        → (now ≡ put (numbers_from lanes) 0 (4 * texels_of foot) out) × (marks ≡ put (marks_from lanes) 0 (texels_of foot) floats) → Put 0
    put-legal lanes a l d e z h =
        let y : 0 ≡ answer (fields_of v) foot = sym z ∙ e in
        put-by (texel_in lanes) 0 y (samples-legal v foot l lanes d y) h.0 h.1

  -- one texel, by value
  module _ (t a : ℕ) (x : Samples) (y : Texel) (ey : y ≡ texel_of x) where
    abbrev Texel-is : ℕ → Type 0
    Texel-is a = record { answer = a; texel = y } ≡ answered_at s foot t

    texel-by : a ≡ answer (fields_of v) foot → x ≡ block_samples v foot t → Texel-is a
    texel-by e h = rw (answer-in a e, ey, samples-in x t h)

    pub texel-void : x ≡ void_samples v → a ≡ void_answer v → a ≡ 1 → Texel-is a
    texel-void e d z =
        let k = samples-void v foot a d z in
        texel-by k.0 (e ∙ sym (k.1 t))

    pub texel-bad : x ≡ magenta_samples → is_void v ≡ false → a ≡ answer (fields_of v) foot → (a ≡ 0 → ⊥) → Texel-is a
    texel-bad e k d n = texel-by d (e ∙ sym (samples-bad v foot a k d n t))

    pub texel-legal : (lanes : List ℕ) → t < texels_of foot → listed foot ≡ true → lanes ≡ lanes_in SamplesForm v foot (replicate most_lanes 0) → a ≡ answer (fields_of v) foot → a ≡ 0
        → x ≡ texel_in lanes t → Texel-is 0
    texel-legal lanes h l d e z q =
        let k : 0 ≡ answer (fields_of v) foot = sym z ∙ e in
        rw z at (texel-by e (q ∙ samples-legal v foot l lanes d k t h))

-- ---- the call for all texels
-- one that is not refused has room in both outputs
pub passed : (len : ℕ) (foot : Footprint) (places marks : ℕ) → block_refusal len foot (room_of places marks) ≡ 0
    → (len ≡ 16) × (listed foot ≡ true) × (4 * texels_of foot ≤ places) × (texels_of foot ≤ marks)
passed len foot places marks z =
    let c = accepted len foot (room_of places marks) z in
    (c.sixteen, c.listed, omega (arith, c.room), omega (arith, c.room))

-- its ways out
module _ (s : List ℕ) (foot : Footprint) (out floats : List ℕ) where
  abbrev Ends : ℕ → List ℕ → List ℕ → Type 0
  Ends a now marks = (a ≡ answer_of s foot (room_of (length out) (length floats))) × (now ≡ numbers_of s foot (length floats) out) × (marks ≡ marks_in s foot (length out) floats)

  pub call-refused : (a : ℕ) → a ≡ block_refusal (length s) foot (room_of (length out) (length floats)) → (a ≡ 0 → ⊥) → Ends a out floats
  unfolding numbers_of marks_in
  call-refused a e n =
      let room = room_of (length out) (length floats) in
      let l : 20 ≤ a = rw (← e) at (refusal-large (length s) foot room (λ z. n (e ∙ z))) in
      rw (answer-refused s foot room a e n, le-ltb a 20 l) (refl, refl, refl)

  pub all-put : (a : ℕ) (now marks : List ℕ) → block_refusal (length s) foot (room_of (length out) (length floats)) ≡ 0 → Put s foot (block_bits s) refl out floats now marks a → Ends a now marks
  unfolding numbers_of marks_in
  all-put a now marks z d =
      rw (answer-accepted s foot (room_of (length out) (length floats)) z, lt-ltb (answer (fields_of (block_bits s)) foot) 20 (answer_lt (fields_of (block_bits s)) foot)) d

-- ---- and for one
module _ (s : List ℕ) (foot : Footprint) (t : ℕ) where
  pub texel-refused : (a : ℕ) → a ≡ texel_refusal (length s) foot t → (a ≡ 0 → ⊥) → refused_by a ≡ texel_answered s foot t
  unfolding texel_answered
  texel-refused a e n = rw (sym e, ne_eqb a 0 n)

  pub texel-told : (r : Answered) → texel_refusal (length s) foot t ≡ 0 → r ≡ answered_at s foot t → r ≡ texel_answered s foot t
  unfolding texel_answered
  texel-told r z e = e ∙ rw z
