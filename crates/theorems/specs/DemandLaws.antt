-- Demand 3 of docs/SCOPE.md, proved.
-- Assumes nothing.
use Rattle.std.specs.Prelude.{◌≡◌, refl, ltb, get_or, length}
use Rattle.std.proofs.Common.{sym, ◌∙◌, ⊎_elim}
use Rattle.std.proofs.Math.Path.{ap}
use Rattle.std.proofs.Math.Bool.{cond}
use mathlib.Core.List.{List}
use Prim.Native.Nat.{ℕ, zero, suc, ◌≤◌, ◌<◌}
use native.Mathlib.Omega.{arith}
use borrow.Author.Tests.{eq-eqb, lt-ltb, le-ltb}
use Rattle.laws.specs.Lists.{put_same}
use Rattle.bits.specs.Bits.{bits_at, bytes}
use Rattle.params_low.specs.Low.{conf_len}
use Rattle.params_config.specs.Config.{partitions_of, config_of}
use Rattle.params_rules.specs.Fields.{fields_of, answer}
use Rattle.params_rules.specs.FieldLaws.{ordinary}
use Rattle.params_room.specs.RoomLaws.{range-is}
use Rattle.params_map.specs.Map.{legal_map, map_of}
use Rattle.params_map.specs.MapLaws.{InOrder, Mapped, map-legal, in_order}
use Rattle.params_map.specs.declared.BlockMap.{BlockMap}
use Rattle.params.specs.Params.{legal, params_of, ends_field, weights_field}
use Rattle.params.specs.Laws.{SameParams, answer-is, legal-is, one_answer, local}
use Rattle.params.specs.declared.Params.{Params}
use Rattle.endpoints_colours.specs.Colours.{mark_of, first_of, second_of}
use Rattle.endpoints_colours.specs.Bounds.{limit, InLimits}
use Rattle.endpoints_colours.specs.declared.Mark.{Mark}
use Rattle.endpoints_colours.specs.declared.Mark.TheVariants.{Ldr}
use Rattle.endpoints_colours.specs.declared.Endpoints.{Endpoints}
use Rattle.blend.specs.BlendLaws.{Between, ldr-within}
use Rattle.texels.specs.Texels.{channel_by, word_by}
use Rattle.texels.specs.TexelLaws.{texel-is}
use Rattle.texels.specs.PaintLaws.{channel-byte, low-lane, high_lane, limit-of}
use Rattle.footprint.specs.Footprints.{texels_of}
use Rattle.footprint.specs.declared.Footprint.{Footprint}
use Rattle.block_ordinary.specs.Ordinary.{ordinary_word, ordinary_sample}
use Rattle.block_ordinary.specs.Facts.{Facts, ready}
use Rattle.block_ordinary.specs.Parts.{ends-within, weights-light}
use Rattle.block_map.specs.Answer.{answer_of, map_answer, block_map}
use Rattle.block_map.specs.AnswerLaws.{LegalMap, legal-map}
use Rattle.channels.specs.Channels.{marks_of}
use Rattle.texels_numbers.specs.Numbers.{four_of}
use Rattle.texels_numbers.specs.NumberLaws.{fours-same}
use Rattle.block_channels.specs.BlockChannels.{block_samples, room_of, numbers_of, marks_in}
use Rattle.block.specs.Block.{word_of_params, block_word, word_at, painted_of}
use Rattle.theorems.specs.Demands.{In, Stated, WidestRange, channel_in, infilled, ends_at, InBounds}

-- ---- the fields stand one after the other
module _ (m : BlockMap) (f : InOrder m) where
  -- the field in which bit k stands, if any
  field_at : ℕ → ℕ
  field_at k = cond (ltb k m.end_at) 0 (cond (ltb k m.extra_at) 1 (cond (ltb k m.weight_at) 2 3))

  field_is : (i k : ℕ) → In m i k → i ≡ field_at k
  unfolding field_at
  field_is zero k h = rw (lt-ltb k m.end_at (omega (arith, f.first, f.ends, h.1)))
  field_is (suc zero) k h = rw (le-ltb k m.end_at h.0, lt-ltb k m.extra_at (omega (arith, f.extra, h.1)))
  field_is (suc (suc zero)) k h =
      rw (le-ltb k m.end_at (omega (arith, f.extra, h.0)), le-ltb k m.extra_at h.0, lt-ltb k m.weight_at (omega (arith, f.weights, h.1)))
  field_is (suc (suc (suc zero))) k h =
      rw (le-ltb k m.end_at (omega (arith, f.extra, f.weights, h.0)), le-ltb k m.extra_at (omega (arith, f.weights, h.0)), le-ltb k m.weight_at h.0)
  field_is (suc (suc (suc (suc i)))) k h = absurd (no h.1)
    where
      no : k < 0 → ⊥
      no l = omega arith

  field-within : (i k : ℕ) → In m i k → k < 128
  field-within zero k h = omega (arith, f.first, f.ends, f.extra, f.weights, f.last, h.1)
  field-within (suc zero) k h = omega (arith, f.extra, f.weights, f.last, h.1)
  field-within (suc (suc zero)) k h = omega (arith, f.weights, f.last, h.1)
  field-within (suc (suc (suc zero))) k h = omega (arith, f.last, h.1)
  field-within (suc (suc (suc (suc i)))) k h = omega (arith, h.1)

-- ---- the range
range-fits : (v : ℕ) (foot : Footprint) → (params_of v foot).answer ≡ 0 → WidestRange (map_of v foot) (params_of v foot).config.values (params_of v foot).endpoint_range
unfolding legal legal_map
range-fits v foot e =
    let t = fields_of v in
    let a : answer t foot ≡ 0 = sym (answer-is t foot) ∙ e in
    let w = range-is _ foot (ordinary t foot a).rules in
    rw (map-legal t foot a, legal-is t foot a)
    (record {
      least = w.least;
      most = w.most;
      top = refl;
      length = refl;
      fits = omega (arith, w.fits);
      widest = λ r x y. omega (arith, w.fits, w.best r x y);
    })

-- ---- starts and lengths
config-stated : (c : ℕ) (m : BlockMap) → m ≡ legal_map (config_of c) → InOrder m → Stated m (config_of c)
unfolding legal_map config_of partitions_of conf_len
config-stated c m e o = record {
  low-start = o.first;
  low-length = rw e;
  ends-start = rw e;
  extra-length = rw e;
  extra-end = o.weights;
  weights-length = rw e;
  weights-end = o.last;
}

stated-is : (v : ℕ) (foot : Footprint) → (params_of v foot).answer ≡ 0 → InOrder (map_of v foot) → Stated (map_of v foot) (params_of v foot).config
unfolding legal
stated-is v foot e o =
    let t = fields_of v in
    let a : answer t foot ≡ 0 = sym (answer-is t foot) ∙ e in
    rw (legal-is t foot a) (config-stated t.low (map_of v foot) (map-legal t foot a) o)

-- ---- LDR channels
ldr-channel : (m : Mark) (e0 e1 w : ℕ) → m ≡ Ldr → e0 < limit m → e1 < limit m → w ≤ 64 → Between e0 e1 (channel_by m e0 e1 w)
unfolding channel_by
ldr-channel m e0 e1 w p h l k =
    let h' : e0 < 256 = limit-of p h in
    let l' : e1 < 256 = limit-of p l in
    rw p (ldr-within e0 e1 w (omega arith) (omega arith) k)

module _ (e : Endpoints) (r g b a : ℕ) where
  red-of : channel_in (word_by e r g b a) 0 ≡ channel_by e.color e.r0 e.r1 r
  unfolding bits_at
  red-of = omega (arith, high_lane e r g b a, channel-byte e.color e.r0 e.r1 r)

  green-of : channel_in (word_by e r g b a) 1 ≡ channel_by e.color e.g0 e.g1 g
  unfolding bits_at
  green-of = omega (arith, low-lane e r g b a, channel-byte e.color e.b0 e.b1 b, channel-byte e.color e.g0 e.g1 g)

  blue-of : channel_in (word_by e r g b a) 2 ≡ channel_by e.color e.b0 e.b1 b
  unfolding bits_at
  blue-of = omega (arith, low-lane e r g b a, channel-byte e.color e.b0 e.b1 b)

  alpha-of : channel_in (word_by e r g b a) 3 ≡ channel_by e.alpha e.a0 e.a1 a
  unfolding bits_at
  alpha-of = omega (arith, high_lane e r g b a, channel-byte e.color e.r0 e.r1 r, channel-byte e.alpha e.a0 e.a1 a)

  between_ends : InLimits e → r ≤ 64 → g ≤ 64 → b ≤ 64 → a ≤ 64 → (c : ℕ) → c < 4 → mark_of e c ≡ Ldr → Between (first_of e c) (second_of e c) (channel_in (word_by e r g b a) c)
  between_ends w hr hg hb ha zero l m = rw red-of (ldr-channel e.color _ _ r m w.r0 w.r1 hr)
  between_ends w hr hg hb ha (suc zero) l m = rw green-of (ldr-channel e.color _ _ g m w.g0 w.g1 hg)
  between_ends w hr hg hb ha (suc (suc zero)) l m = rw blue-of (ldr-channel e.color _ _ b m w.b0 w.b1 hb)
  between_ends w hr hg hb ha (suc (suc (suc zero))) l m = rw alpha-of (ldr-channel e.alpha _ _ a m w.a0 w.a1 ha)
  between_ends w hr hg hb ha (suc (suc (suc (suc c)))) l m = absurd (no l)
    where
      no : suc (suc (suc (suc c))) < 4 → ⊥
      no h = omega arith

-- the word of a legal block
legal-word : (p : Params) (v : ℕ) (foot : Footprint) (t : ℕ) → p.answer ≡ 0 → word_of_params p v foot t ≡ ordinary_word p v foot t
unfolding word_of_params
legal-word p v foot t z = rw (eq-eqb p.answer 0 z)

block-word : (v : ℕ) (foot : Footprint) (t : ℕ) → (params_of v foot).answer ≡ 0 → block_word v foot t ≡ ordinary_word (params_of v foot) v foot t
unfolding block_word
block-word v foot t z = legal-word (params_of v foot) v foot t z

channels-within : (s : List ℕ) (foot : Footprint) → (params_of (bytes 16 s) foot).answer ≡ 0 → Facts (params_of (bytes 16 s) foot) → (t c : ℕ) → c < 4 → mark_of (ends_at s foot t) c ≡ Ldr
    → Between (first_of (ends_at s foot t) c) (second_of (ends_at s foot t) c) (channel_in (word_at s foot t) c)
unfolding word_at ordinary_word
channels-within s foot z f t c h m =
    let p = params_of (bytes 16 s) foot in
    let w : (i : ℕ) → get_or (infilled s foot) i 0 ≤ 64 = weights-light p foot f (weights_field p (bytes 16 s)) in
    rw (block-word (bytes 16 s) foot t z, texel-is p.config.planes p.channel _ _ _ t)
    (between_ends (ends_at s foot t) _ _ _ _ (ends-within p foot f (ends_field p (bytes 16 s)) _) (w _) (w _) (w _) (w _) c h m)

-- ---- locality
ordinary-same : (p : Params) (v w : ℕ) (foot : Footprint) (t : ℕ) → ends_field p v ≡ ends_field p w → weights_field p v ≡ weights_field p w → ordinary_word p v foot t ≡ ordinary_word p w foot t
unfolding ordinary_word
ordinary-same p v w foot t e f = rw (e, f)

word_same : (v w : ℕ) (foot : Footprint) (t : ℕ) → (params_of v foot).answer ≡ 0 → SameParams v w foot → block_word v foot t ≡ block_word w foot t
word_same v w foot t z b =
    let p = params_of v foot in
    let y : (params_of w foot).answer ≡ 0 = rw b.params at z in
    block-word v foot t z
    ∙ ordinary-same p v w foot t b.ends b.weights
    ∙ ap (λ (q : Params). ordinary_word q w foot t) b.params
    ∙ sym (block-word w foot t y)

sample-same : (p : Params) (v w : ℕ) (foot : Footprint) (t k : ℕ) → ends_field p v ≡ ends_field p w → weights_field p v ≡ weights_field p w → ordinary_sample p v foot t k ≡ ordinary_sample p w foot t k
unfolding ordinary_sample
sample-same p v w foot t k e f = rw (e, f)

samples-same : (v w : ℕ) (foot : Footprint) (t : ℕ) → (params_of v foot).answer ≡ 0 → SameParams v w foot → block_samples v foot t ≡ block_samples w foot t
unfolding block_samples
samples-same v w foot t z b =
    let p = params_of v foot in
    let same : (k : ℕ) → ordinary_sample p v foot t k ≡ ordinary_sample p w foot t k = λ k. sample-same p v w foot t k b.ends b.weights in
    rw (← b.params, eq-eqb p.answer 0 z, same 0, same 1, same 2, same 3)

module _ (s s' : List ℕ) (foot : Footprint) (l : LegalMap s foot) (h : length s' ≡ 16) (b : SameParams (bytes 16 s) (bytes 16 s') foot) where
  answer-same : (room : ℕ) → answer_of s foot room ≡ answer_of s' foot room
  unfolding answer_of
  answer-same room = rw (l.sixteen, h, b.fields)

  map_same : block_map s foot ≡ block_map s' foot
  unfolding map_answer block_map
  map_same = rw (answer-same (texels_of foot), b.fields)

  legal-answer : (params_of (bytes 16 s) foot).answer ≡ 0
  legal-answer = answer-is (fields_of (bytes 16 s)) foot ∙ l.answer

  painted_same : (out : List ℕ) → painted_of s foot out ≡ painted_of s' foot out
  unfolding painted_of word_at
  painted_same out =
      rw (answer-same (length out))
      (ap (λ (x : List ℕ). cond (ltb (answer_of s' foot (length out)) 20) x out)
      (put_same _ _ 0 (texels_of foot) out (λ k x y. word_same (bytes 16 s) (bytes 16 s') foot k legal-answer b)))

  numbers-same : (marks : ℕ) (out : List ℕ) → numbers_of s foot marks out ≡ numbers_of s' foot marks out
  unfolding numbers_of
  numbers-same marks out =
      rw (answer-same (room_of (length out) marks))
      (ap (λ (x : List ℕ). cond (ltb (answer_of s' foot (room_of (length out) marks)) 20) x out)
      (fours-same _ _ (texels_of foot) out (λ t x. ap four_of (samples-same (bytes 16 s) (bytes 16 s') foot t legal-answer b))))

  marks-same : (places : ℕ) (floats : List ℕ) → marks_in s foot places floats ≡ marks_in s' foot places floats
  unfolding marks_in
  marks-same places floats =
      rw (answer-same (room_of places (length floats)))
      (ap (λ (x : List ℕ). cond (ltb (answer_of s' foot (room_of places (length floats))) 20) x floats)
      (put_same _ _ 0 (texels_of foot) floats (λ t x y. ap marks_of (samples-same (bytes 16 s) (bytes 16 s') foot t legal-answer b))))

-- the bits that a map names are those of its fields
mapped-bits : (m : BlockMap) (v w : ℕ) → ((i k : ℕ) → In m i k → bits_at v k 1 ≡ bits_at w k 1) → (k : ℕ) → Mapped m k → bits_at v k 1 ≡ bits_at w k 1
mapped-bits m v w h k = ⊎_elim (λ a. h 0 k a) (⊎_elim (λ a. h 1 k a) (⊎_elim (λ a. h 2 k a) (λ a. h 3 k a)))

-- ---- the theorem
pub demand-3 : (s : List ℕ) (foot : Footprint) → (block_map s foot).answer ≡ 0 → InBounds s foot
demand-3 s foot z =
    let l = legal-map s foot z in
    let v = bytes 16 s in
    let p = params_of v foot in
    let m = map_of v foot in
    let a : p.answer ≡ 0 = answer-is (fields_of v) foot ∙ l.answer in
    let f : InOrder m = in_order v foot (one_answer v foot ∙ a) in
    let k : Facts p = (ready p v foot refl a l.listed).facts in
    record {
      within = rw l.map (field-within m f);
      disjoint = rw l.map (λ i j x a b. field_is m f i x a ∙ sym (field_is m f j x b));
      stated = rw l.map (stated-is v foot a f);
      range = rw l.map (range-fits v foot a);
      weights = weights-light p foot k (weights_field p v);
      channels = channels-within s foot a k;
      local = λ s' h same.
          let b : SameParams v (bytes 16 s') foot = local v (bytes 16 s') foot a (mapped-bits m v (bytes 16 s') (rw l.map at same)) in
          record { answer = answer-same s s' foot l h b; map = map_same s s' foot l h b; words = painted_same s s' foot l h b; numbers = numbers-same s s' foot l h b; marks = marks-same s s' foot l h b };
    }
