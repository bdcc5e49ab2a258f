-- The parts of a legal block, as the code makes them one from the other.
-- Assumes nothing.
use Rattle.std.specs.Prelude.{◌≡◌, Bool, cond, List, ℕ, ◌*◌, ◌≤◌, ◌<◌, ltb, replicate}
use Rattle.std.proofs.Math.Path.{refl}
use Rattle.std.proofs.Common.{ap, ◌∙◌, arith}
use Rattle.std.proofs.Math.Bool.{true, false}
use Rattle.std.proofs.Math.Decide.{dec_lt}
use Rattle.std.proofs.Math.Dec.{eqb}
use Rattle.std.proofs.Math.ListN.{get_or, get_or-eq_default}
use Rattle.std.proofs.lemmas.List.{get_or-replicate, length-replicate}
use borrow.Author.Tests.{eq-eqb, ne_eqb, eqb-false}
use Rattle.laws.specs.Lists.{put, zeros-at}
use Rattle.laws.specs.Numbers.{choice}
use Rattle.bits.specs.Bits.{bits_at, reversed}
use Rattle.sequence_ranges.specs.Ranges.{range_of, levels, most, total_of}
use Rattle.sequence_ranges.specs.RangeLaws.{legal}
use Rattle.sequence_ranges.specs.declared.Range.{Range}
use Rattle.sequence_groups.specs.Sequence.{values_of}
use Rattle.sequence_groups.specs.SequenceLaws.{values-lt, values-past}
use Rattle.footprint.specs.Footprints.{texels_of, most_texels, most_weights}
use Rattle.footprint.specs.declared.Footprint.{Footprint}
use Rattle.lanes.specs.Lanes.{lane_at, eights}
use Rattle.lanes.specs.declared.Form.{Form}
use Rattle.lanes.specs.declared.Form.TheVariants.{Words, Samples}
use Rattle.params_rules.specs.Fields.{fields_of, answer}
use Rattle.params.specs.Params.{params_of, ends_field, weights_field}
use Rattle.params.specs.Laws.{answer-is}
use Rattle.params.specs.declared.Params.{Params}
use Rattle.endpoints_unquantise.specs.Unquantised.{endpoint_values}
use Rattle.endpoints_unquantise.specs.Bounds.{values-lt as endpoint-values-lt}
use Rattle.endpoints.specs.Endpoints.{endpoints_list}
use Rattle.endpoints.specs.Bounds.{partition-within}
use Rattle.endpoints_colours.specs.declared.Endpoints.{Endpoints}
use Rattle.endpoints_colours.specs.Colours.{nothing}
use Rattle.endpoints_colours.specs.Bounds.{InLimits}
use Rattle.weights.specs.WeightsGiven.{WeightsGiven}
use Rattle.weights.specs.Bounds.{weights-le}
use Rattle.weights.specs.Weights.{weights_of}
use Rattle.partition.specs.Partition.{partition_at}
use Rattle.partition.specs.PartitionLaws.{partition-below}
use Rattle.texels.specs.PaintGiven.{PaintGiven}
use Rattle.texels.specs.Texels.{texel_word}
use Rattle.texels.specs.Samples.{texel_lane, samples_in}
use Rattle.block_ordinary.specs.Ordinary.{ends_of, grid_of, count_of, weights_in, partitions_in, ordinary_word, ordinary_lane, form_of, lanes_in}
use Rattle.block_ordinary.specs.Facts.{Facts, Ready}

-- ---- a range that a call is given
pub range-legal : (q : ℕ) (r : Range) → q < 21 → r ≡ range_of q → r.bits ≤ most r.kind
range-legal q r h e = rw e (legal q h)

pub below : (q w n : ℕ) (r : Range) (seq : List ℕ) → r ≡ range_of q → seq ≡ values_of r w n → (i : ℕ) → get_or seq i 0 < levels (range_of q)
below q w n r seq e d i = rw (d, e) (values-lt (range_of q) w n i)

pub past : (w n : ℕ) (r : Range) (seq : List ℕ) → seq ≡ values_of r w n → (i : ℕ) → n ≤ i → get_or seq i 0 ≡ 0
past w n r seq d i h = rw d (values-past r w n i h)

module _ (p : Params) (v : ℕ) (f : Facts p) (r : Range) (seq : List ℕ) where
  -- ---- the endpoints
  pub ends_is : (ev : List ℕ) (e : List Endpoints) → r ≡ range_of p.endpoint_range → seq ≡ values_of r (bits_at v p.config.low_len (total_of r p.config.values)) p.config.values
      → ev ≡ endpoint_values p.endpoint_range seq → e ≡ endpoints_list p.config.parts p.modes ev → e ≡ ends_of p (ends_field p v)
  unfolding ends_of
  ends_is ev e a b c d = d ∙ rw (c, b, a, f.ends-len)

-- ---- the weights
module _ (p : Params) (foot : Footprint) (v : ℕ) (k : Ready p foot) (r : Range) (seq : List ℕ) where
  pub weights-given : (out : List ℕ) → r ≡ range_of p.config.weight_range → seq ≡ values_of r (bits_at (reversed 128 v) 0 (total_of r (count_of p))) (count_of p) → out ≡ replicate most_weights 0
      → WeightsGiven (grid_of p foot) p.config.weight_range seq out
  weights-given out a b z = record {
    fits = k.fits;
    encoded = record { range = k.facts.weight-range; below = below p.config.weight_range _ (count_of p) r seq a b; past = past _ (count_of p) r seq b };
    clear = z;
  }

  pub weights-is : (out : List ℕ) → r ≡ range_of p.config.weight_range → seq ≡ values_of r (bits_at (reversed 128 v) 0 (total_of r (count_of p))) (count_of p)
      → out ≡ weights_of (grid_of p foot) p.config.weight_range seq → out ≡ weights_in p foot (weights_field p v)
  unfolding weights_in
  weights-is out a b c = c ∙ rw (b, a, k.facts.weights-len)

-- ---- the partitions
pub partitions-one : (p : Params) (foot : Footprint) (out : List ℕ) → out ≡ replicate most_texels 0 → p.config.parts ≡ 1 → out ≡ partitions_in p foot
unfolding partitions_in
partitions-one p foot out e h = e ∙ rw (eq-eqb p.config.parts 1 h)

pub partitions-more : (p : Params) (foot : Footprint) (out s : List ℕ) → s ≡ replicate most_texels 0 → (p.config.parts ≡ 1 → ⊥)
    → out ≡ put (partition_at p.config.number p.config.parts foot) 0 (texels_of foot) s → out ≡ partitions_in p foot
unfolding partitions_in
partitions-more p foot out s e h d = d ∙ rw (e, ne_eqb p.config.parts 1 h)

-- ---- what painting asks
zeros-are : (n i : ℕ) → ◌≡◌ {A = ℕ} (get_or (replicate n 0) i 0) 0
zeros-are n i = go (dec_lt i n)
  where
    go : Dec (i < n) → ◌≡◌ {A = ℕ} (get_or (replicate n 0) i 0) 0
    go (yes h) = get_or-replicate n i 0 0 h
    go (no h) = get_or-eq_default (replicate n 0) 0 (rw (length-replicate {A = ℕ} n 0) (omega arith))

module _ (p : Params) (foot : Footprint) (f : Facts p) where
  pub ends-within : (field i : ℕ) → InLimits (get_or (ends_of p field) i nothing)
  unfolding ends_of
  ends-within field i =
      partition-within p.config.parts p.modes _ (endpoint-values-lt p.endpoint_range _ f.most (values-lt (range_of p.endpoint_range) field p.config.values)) i

  pub weights-light : (field i : ℕ) → get_or (weights_in p foot field) i 0 ≤ 64
  unfolding weights_in
  weights-light field i =
      weights-le (grid_of p foot) p.config.weight_range _
      (record { range = f.weight-range; below = values-lt (range_of p.config.weight_range) field (count_of p); past = values-past (range_of p.config.weight_range) field (count_of p) }) i

  partitions-below : texels_of foot ≤ most_texels → (i : ℕ) → get_or (partitions_in p foot) i 0 < p.config.parts
  unfolding partitions_in
  partitions-below n i = go (eqb p.config.parts 1) refl
    where
      go : (t : Bool) → eqb p.config.parts 1 ≡ t
          → get_or (cond t (replicate most_texels 0) (put (partition_at p.config.number p.config.parts foot) 0 (texels_of foot) (replicate most_texels 0))) i 0 < p.config.parts
      go true e = omega (arith, f.part, zeros-are most_texels i)
      go false e =
          rw (zeros-at (partition_at p.config.number p.config.parts foot) (texels_of foot) most_texels i n)
          (choice (ltb i (texels_of foot)) _ 0 (partition-below p.config.number p.config.parts foot i (omega (arith, f.part, eqb-false p.config.parts 1 e)) f.parts) (omega (arith, f.part)))

  pub paint-given : (n : ℕ) (ends : List Endpoints) (w parts : List ℕ) (field field' : ℕ) → n ≡ texels_of foot → texels_of foot ≤ most_texels → ends ≡ ends_of p field → w ≡ weights_in p foot field' → parts ≡ partitions_in p foot
      → PaintGiven n p.config.parts p.config.planes ends w parts
  paint-given n ends w parts field field' q h a b c = record {
    few = rw q h;
    some = f.part;
    four = f.parts;
    dual = f.planes;
    within = λ i. rw a (ends-within field i);
    light = λ i. rw b (weights-light field' i);
    mapped = λ i. rw c (partitions-below h i);
  }

-- what was put is the block's, by the form
module _ (p : Params) (v : ℕ) (foot : Footprint) (n : ℕ) (ends : List Endpoints) (w parts s out : List ℕ) (a : ends ≡ ends_of p (ends_field p v)) (b : w ≡ weights_in p foot (weights_field p v))
    (c : parts ≡ partitions_in p foot) (e : n ≡ texels_of foot) (form : Form) where
  pub words-put : form ≡ Words → out ≡ put (lane_at (texel_word ends w parts p.config.planes p.channel)) 0 (2 * eights n) s → out ≡ form_of form p v foot s
  unfolding ordinary_word
  words-put q d = d ∙ rw (q, a, b, c, e)

  pub samples-put : form ≡ Samples → out ≡ samples_in n (texel_lane ends w parts p.config.planes p.channel) s → out ≡ form_of form p v foot s
  unfolding ordinary_lane
  samples-put q d = d ∙ rw (q, a, b, c, e)

-- ---- the code has put the lanes of a legal block, or none
module _ (p : Params) (v : ℕ) (foot : Footprint) (q : p ≡ params_of v foot) where
  pub answer-told : p.answer ≡ answer (fields_of v) foot
  answer-told = ap (λ (x : Params). x.answer) q ∙ answer-is (fields_of v) foot

  pub lanes-legal : (form : Form) (s out : List ℕ) → p.answer ≡ 0 → out ≡ form_of form p v foot s → out ≡ lanes_in form v foot s
  unfolding lanes_in
  lanes-legal form s out z d = rw (← q, eq-eqb p.answer 0 z) d

  pub lanes-none : (form : Form) (s : List ℕ) → (p.answer ≡ 0 → ⊥) → s ≡ lanes_in form v foot s
  unfolding lanes_in
  lanes-none form s n = rw (← q, ne_eqb p.answer 0 n)
