-- Each public promise of the layers below the block allows one outcome (Tight says what that means).
-- Assumes nothing.
use Rattle.std.specs.Prelude.{◌≡◌, Bool, List, ℕ, ◌+◌, ◌*◌, ◌/◌, ◌^◌, ◌≤◌, ◌<◌, Float, Result, IfOk, get_or}
use Rattle.std.proofs.Common.{sym, ◌∙◌}
use Rattle.laws.specs.Lists.{put, put_at}
use Rattle.answers.specs.Answers.{is_bad}
use Rattle.answers.specs.Results.{verdict_number, refused, broken, answered}
use Rattle.answers.specs.ResultLaws.{one-verdict, one-broken}
use Rattle.answers.specs.declared.Refusal.{Refusal}
use Rattle.answers.specs.declared.Rule.{Rule as BrokenRule}
use Rattle.answers.specs.declared.Verdict.{Verdict}
use Rattle.options.specs.Base.{base}
use Rattle.options.specs.declared.Options.{Options}
use Rattle.options.specs.declared.Reading.{Reading}
use Rattle.footprint.specs.Footprints.{texels_of, listed}
use Rattle.footprint.specs.declared.Footprint.{Footprint}
use Rattle.lanes.specs.Lanes.{lane_at, joined_at, eights as eights_of}
use Rattle.bits.specs.Bits.{bits_at, reversed}
use Rattle.bits.specs.Blocks.{value_of}
use Rattle.bits.specs.declared.Block.{Block}
use Rattle.sequence_ranges.specs.Digits.{trit_table, quint_table}
use Rattle.sequence_ranges.specs.Ranges.{range, range_of, total_of}
use Rattle.sequence_ranges.specs.declared.Kind.TheVariants.{Trits, Quints}
use Rattle.sequence_ranges.specs.declared.Range.{Range}
use Rattle.sequence_groups.specs.Sequence.{values_of, group_from}
use Rattle.sequence_plain.specs.Plain.{plain_from}
use Rattle.half.specs.Half.{half, product_of, hdr_byte_of, void_byte_of}
use Rattle.params_low.specs.Low.{is_void, low_of}
use Rattle.params_modes.specs.Modes.{modes_of, values_to}
use Rattle.params_modes.specs.declared.Modes.{Modes}
use Rattle.params_config.specs.Ranges.{cost}
use Rattle.params_config.specs.Config.{is_reserved, config_of}
use Rattle.params_config.specs.declared.Config.{Config}
use Rattle.params_rules.specs.Rules.{extra_len, used, verdict}
use Rattle.params_room.specs.Room.{end_range}
use Rattle.params_room.specs.declared.Legal.{Legal}
use Rattle.params_map.specs.Map.{no_map, map_of}
use Rattle.params_map.specs.declared.BlockMap.{BlockMap}
use Rattle.params_extent.specs.Extent.{extent_in, void_verdict}
use Rattle.params.specs.Params.{params_of, told as params_told}
use Rattle.params.specs.Laws.{one-told}
use Rattle.params.specs.declared.Params.{Params}
use Rattle.endpoints_unquantise.specs.Unquantised.{endpoint_values}
use Rattle.endpoints_colours.specs.declared.Endpoints.{Endpoints}
use Rattle.endpoints_colours.specs.declared.Values.{Values}
use Rattle.endpoints_rules.specs.Hdr.{seven_of}
use Rattle.endpoints_rules.specs.Modes.{endpoints_of}
use Rattle.endpoints_rules.specs.declared.Seven.{Seven}
use Rattle.endpoints_hdr_seven.specs.HdrLaws.{Below}
use Rattle.endpoints_hdr_eleven.specs.Hdr11Laws.{eleven_of, ElevenBounds}
use Rattle.endpoints_hdr_eleven.specs.declared.Eleven.{Eleven}
use Rattle.endpoints.specs.Endpoints.{endpoints_list}
use Rattle.weights_unquantise.specs.Unquantise.{weight_of}
use Rattle.weights_unquantise.specs.Forms.{each}
use Rattle.weights_grid.specs.Grids.{step_of, placed}
use Rattle.weights_grid.specs.declared.Grid.{Grid}
use Rattle.weights_infill.specs.Infill.{infill_of}
use Rattle.weights.specs.Weights.{weights_of}
use Rattle.partition_ramps.specs.Ramps.{hash52}
use Rattle.partition_ramps.specs.Held.{ramp_of}
use Rattle.partition_ramps.specs.declared.Ramp.{Ramp}
use Rattle.partition.specs.Partition.{partition_at}
use Rattle.blend.specs.Blend.{ldr_channel, hdr_half, hdr_channel, word_of}
use Rattle.channels.specs.Channels.{texel_of, marks_of, reduced_by}
use Rattle.channels.specs.declared.Channel.{Channel}
use Rattle.channels.specs.declared.Rule.{Rule}
use Rattle.channels.specs.declared.Samples.{Samples}
use Rattle.channels.specs.declared.Texel.{Texel}
use Rattle.texels.specs.Texels.{texel_word}
use Rattle.texels.specs.Samples.{texel_lane, samples_in}
use Rattle.texels_read.specs.Read.{texel_in}
use Rattle.texels_numbers.specs.Numbers.{numbers_from, marks_from, numbers_in}
use Rattle.texels.specs.Kinds.{starts_of, Ahead, either_of, any_of}
use Rattle.texels.specs.declared.Starts.{Starts}
use Rattle.texels.specs.declared.block.BlockData.{BlockData}
use Rattle.theorems.specs.Tight.{Tight, TightBoth, TightBlock, one, told, both, block}

-- ---- answers
pub is-bad : (a : ℕ) → Tight Bool (λ r. r ≡ is_bad a)
is-bad a = one Bool (is_bad a)

pub refusal-number : (outcome : Result (Unit {0}) Refusal) → Tight ℕ (λ r. r ≡ refused outcome)
refusal-number outcome = one ℕ (refused outcome)

pub answer-number : (outcome : Result Verdict Refusal) → Tight ℕ (λ r. r ≡ answered outcome)
answer-number outcome = one ℕ (answered outcome)

-- ---- options
pub no-options : Tight Options (λ r. r ≡ base)
no-options = one Options base

-- ---- footprint
pub is-listed : (f : Footprint) → Tight Bool (λ r. r ≡ listed f)
is-listed f = one Bool (listed f)

-- ---- lanes
pub eights : (n : ℕ) → Tight ℕ (λ r. r ≡ eights_of n)
eights n = one ℕ (eights_of n)

pub word : (lanes : List ℕ) (i : ℕ) → Tight ℕ (λ r. r ≡ joined_at lanes i)
word lanes i = one ℕ (joined_at lanes i)

pub copy : (lanes : List ℕ) (from to n : ℕ) (o : List ℕ) → Tight (List ℕ) (λ out. out ≡ put_at (λ (i : ℕ). joined_at lanes (from + i)) to n o)
copy lanes from to n o = one (List ℕ) (put_at (λ (i : ℕ). joined_at lanes (from + i)) to n o)

pub fill : (w to n : ℕ) (o : List ℕ) → Tight (List ℕ) (λ out. out ≡ put_at (λ (i : ℕ). w) to n o)
fill w to n o = one (List ℕ) (put_at (λ (i : ℕ). w) to n o)

-- ---- bits
pub getbits : (b : Block) (start len : ℕ) → Tight ℕ (λ r. (r ≡ bits_at (value_of b) start len) × (r < 2 ^ len))
getbits b start len r s p q = p.0 ∙ sym q.0

pub cut : (b : Block) (start len : ℕ) → TightBlock (λ r. value_of r ≡ bits_at (value_of b) start len)
cut b start len = block (bits_at (value_of b) start len)

pub skip : (b : Block) (n : ℕ) → TightBlock (λ r. value_of r ≡ value_of b / 2 ^ n)
skip b n = block (value_of b / 2 ^ n)

pub bit-reverse-u64 : (x : ℕ) → Tight ℕ (λ r. r ≡ reversed 64 x)
bit-reverse-u64 x = one ℕ (reversed 64 x)

pub reverse : (b : Block) → TightBlock (λ r. value_of r ≡ reversed 128 (value_of b))
reverse b = block (reversed 128 (value_of b))

-- ---- sequence
pub trits : Tight (List ℕ) (λ r. r ≡ trit_table)
trits = one (List ℕ) trit_table

pub quints : Tight (List ℕ) (λ r. r ≡ quint_table)
quints = one (List ℕ) quint_table

pub range-of : (q : ℕ) → Tight Range (λ r. r ≡ range_of q)
range-of q = one Range (range_of q)

pub total : (r : Range) (n : ℕ) → Tight ℕ (λ s. s ≡ total_of r n)
total r n = one ℕ (total_of r n)

pub put-trits : (b d i : ℕ) (o : List ℕ) → Tight (List ℕ) (λ out. out ≡ put (group_from (range Trits b) d i) i (i + 5) o)
put-trits b d i o = one (List ℕ) (put (group_from (range Trits b) d i) i (i + 5) o)

pub put-quints : (b d i : ℕ) (o : List ℕ) → Tight (List ℕ) (λ out. out ≡ put (group_from (range Quints b) d i) i (i + 3) o)
put-quints b d i o = one (List ℕ) (put (group_from (range Quints b) d i) i (i + 3) o)

pub clear : (n : ℕ) (o : List ℕ) → Tight (List ℕ) (λ out. out ≡ put (λ (k : ℕ). 0) n (n + 5) o)
clear n o = one (List ℕ) (put (λ (k : ℕ). 0) n (n + 5) o)

pub put-plain : (b d i : ℕ) (o : List ℕ) → Tight (List ℕ) (λ out. out ≡ put (plain_from b d i) i (i + 6) o)
put-plain b d i o = one (List ℕ) (put (plain_from b d i) i (i + 6) o)

pub decode : (w : Block) (r : Range) (n : ℕ) → Tight (List ℕ) (λ out. out ≡ values_of r (value_of w) n)
decode w r n = one (List ℕ) (values_of r (value_of w) n)

pub decode-intseq : (b : Block) (offset : ℕ) (r : Range) (n : ℕ) → Tight (List ℕ) (λ out. out ≡ values_of r (bits_at (value_of b) offset (total_of r n)) n)
decode-intseq b offset r n = one (List ℕ) (values_of r (bits_at (value_of b) offset (total_of r n)) n)

pub decode-intseq-reverse : (b : Block) (r : Range) (n : ℕ) → Tight (List ℕ) (λ out. out ≡ values_of r (bits_at (reversed 128 (value_of b)) 0 (total_of r n)) n)
decode-intseq-reverse b r n = one (List ℕ) (values_of r (bits_at (reversed 128 (value_of b)) 0 (total_of r n)) n)

-- ---- half: a float of the logic is a value, and every NaN is one
pub fp16-ieee-to-fp32-value : (h : ℕ) → Tight Float (λ r. r ≡ half h)
fp16-ieee-to-fp32-value h = one Float (half h)

pub half-times-255 : (h : ℕ) → Tight Float (λ r. r ≡ product_of h)
half-times-255 h = one Float (product_of h)

pub hdr-to-u8 : (h : ℕ) → Tight ℕ (λ r. r ≡ hdr_byte_of h)
hdr-to-u8 h = one ℕ (hdr_byte_of h)

pub f16-to-u8 : (h : ℕ) → Tight ℕ (λ r. r ≡ void_byte_of h)
f16-to-u8 h = one ℕ (void_byte_of h)

-- ---- channels
pub texel-of : (s : Samples) → Tight Texel (λ r. r ≡ texel_of s)
texel-of s = one Texel (texel_of s)

pub reduced : (c : Channel) (rule : Rule) → Tight ℕ (λ r. r ≡ reduced_by rule c)
reduced c rule = one ℕ (reduced_by rule c)

-- ---- params
pub is-void : (b : Block) → Tight Bool (λ r. r ≡ is_void (value_of b))
is-void b = one Bool (is_void (value_of b))

pub low-config : (b : Block) → Tight ℕ (λ r. r ≡ low_of (value_of b))
low-config b = one ℕ (low_of (value_of b))

pub modes-of : (m : Modes) → Tight (List ℕ) (λ r. r ≡ modes_of m.parts m.base m.code)
modes-of m = one (List ℕ) (modes_of m.parts m.base m.code)

pub values-of : (m : Modes) → Tight ℕ (λ r. r ≡ values_to m.base m.code m.parts)
values-of m = one ℕ (values_to m.base m.code m.parts)

pub range-bits : (q n : ℕ) → Tight ℕ (λ r. r ≡ cost q n)
range-bits q n = one ℕ (cost q n)

pub is-reserved : (c : ℕ) → Tight Bool (λ r. r ≡ is_reserved c)
is-reserved c = one Bool (is_reserved c)

pub read-config : (c : ℕ) → Tight Config (λ r. r ≡ config_of c)
read-config c = one Config (config_of c)

pub extra-len : (k : Config) → Tight ℕ (λ r. r ≡ extra_len k)
extra-len k = one ℕ (extra_len k)

pub used-bits : (k : Config) → Tight ℕ (λ r. r ≡ used k)
used-bits k = one ℕ (used k)

pub judge : (k : Config) (f : Footprint) → Tight (Result (Unit {0}) BrokenRule) (λ r. broken r ≡ verdict k f)
judge k f = told (Result (Unit {0}) BrokenRule) broken one-broken (verdict k f)

pub end-range : (k : Legal) → Tight ℕ (λ r. (r ≡ end_range k.config) × (r < 21))
end-range k r s p q = p.0 ∙ sym q.0

pub no-map : (a : ℕ) → Tight BlockMap (λ r. r ≡ no_map a)
no-map a = one BlockMap (no_map a)

pub decode-block-map : (b : Block) (f : Footprint) → Tight BlockMap (λ r. r ≡ map_of (value_of b) f)
decode-block-map b f = one BlockMap (map_of (value_of b) f)

pub legal-params : (b : Block) (f : Footprint) → Tight (Result Params BrokenRule) (λ r. (params_told r ≡ params_of (value_of b) f) × (IfOk r (λ p. p.answer ≡ 0)))
legal-params b f r s p q = one-told r s (p.0 ∙ sym q.0) p.1 q.1

pub decode-block-params : (b : Block) (f : Footprint) → Tight Params (λ r. r ≡ params_of (value_of b) f)
decode-block-params b f = one Params (params_of (value_of b) f)

pub void-verdict : (reading : Reading) (b : Block) → Tight Verdict (λ r. verdict_number r ≡ void_verdict reading (extent_in (value_of b)))
void-verdict reading b = told Verdict verdict_number one-verdict (void_verdict reading (extent_in (value_of b)))

-- ---- endpoints
pub endpoints-unquantize : (q : ℕ) (seq : List ℕ) → Tight (List ℕ) (λ out. out ≡ endpoint_values q seq)
endpoints-unquantize q seq = one (List ℕ) (endpoint_values q seq)

pub decode-ldr : (m : ℕ) (v : Values) → Tight Endpoints (λ r. r ≡ endpoints_of m v)
decode-ldr m v = one Endpoints (endpoints_of m v)

pub parts-of-seven : (m v0 v1 v2 v3 : ℕ) → Tight Seven (λ r. (r ≡ seven_of m v0 v1 v2 v3) × (Below 4096 r))
parts-of-seven m v0 v1 v2 v3 r s p q = p.0 ∙ sym q.0

pub parts-of-eleven : (m : ℕ) (v : Values) → Tight Eleven (λ r. (r ≡ eleven_of m v) × (ElevenBounds r))
parts-of-eleven m v r s p q = p.0 ∙ sym q.0

pub decode-hdr : (m : ℕ) (v : Values) → Tight Endpoints (λ r. r ≡ endpoints_of m v)
decode-hdr m v = one Endpoints (endpoints_of m v)

pub decode-endpoints : (parts : ℕ) (modes ev : List ℕ) → Tight (List Endpoints) (λ r. r ≡ endpoints_list parts modes ev)
decode-endpoints parts modes ev = one (List Endpoints) (endpoints_list parts modes ev)

-- ---- weights
pub weights-unquantize : (n q : ℕ) (seq o : List ℕ) → Tight (List ℕ) (λ out. out ≡ each (weight_of q) seq n o)
weights-unquantize n q seq o = one (List ℕ) (each (weight_of q) seq n o)

pub step-of : (n : ℕ) → Tight ℕ (λ r. (r ≡ step_of n) × (r ≤ 342))
step-of n r s p q = p.0 ∙ sym q.0

pub place : (d s m : ℕ) → Tight ℕ (λ r. (r ≡ placed d m s) × (r < 1024))
place d s m x y p q = p.0 ∙ sym q.0

pub infill : (g : Grid) (wv : List ℕ) → Tight (List ℕ) (λ out. out ≡ infill_of g (λ (k : ℕ). get_or wv k 0))
infill g wv = one (List ℕ) (infill_of g (λ (k : ℕ). get_or wv k 0))

pub fill-down : (g : Grid) (wv : List ℕ) → Tight (List ℕ) (λ out. out ≡ infill_of g (λ (k : ℕ). get_or wv k 0))
fill-down = infill

pub decode-weights : (g : Grid) (q : ℕ) (seq : List ℕ) → Tight (List ℕ) (λ out. out ≡ weights_of g q seq)
decode-weights g q seq = one (List ℕ) (weights_of g q seq)

-- ---- partition
pub hash : (seed : ℕ) → Tight ℕ (λ r. r ≡ hash52 seed)
hash seed = one ℕ (hash52 seed)

pub ramp-of : (seed parts i scale : ℕ) → Tight Ramp (λ k. k ≡ ramp_of seed parts i scale)
ramp-of seed parts i scale = one Ramp (ramp_of seed parts i scale)

pub select-partition : (number parts : ℕ) (f : Footprint) (s : List ℕ) → Tight (List ℕ) (λ out. out ≡ put (partition_at number parts f) 0 (texels_of f) s)
select-partition number parts f s = one (List ℕ) (put (partition_at number parts f) 0 (texels_of f) s)

-- ---- blend
pub color : (r g b a : ℕ) → Tight ℕ (λ w. w ≡ word_of r g b a)
color r g b a = one ℕ (word_of r g b a)

pub select-color : (v0 v1 weight : ℕ) → Tight ℕ (λ r. r ≡ ldr_channel v0 v1 weight)
select-color v0 v1 weight = one ℕ (ldr_channel v0 v1 weight)

pub select-color-byte : (v0 v1 weight : ℕ) → Tight ℕ (λ r. (r ≡ ldr_channel v0 v1 weight) × (r ≤ 255))
select-color-byte v0 v1 weight r s p q = p.0 ∙ sym q.0

pub select-color-hdr : (v0 v1 weight : ℕ) → Tight ℕ (λ r. r ≡ hdr_channel v0 v1 weight)
select-color-hdr v0 v1 weight = one ℕ (hdr_channel v0 v1 weight)

pub select-half : (v0 v1 weight : ℕ) → Tight ℕ (λ r. (r ≡ hdr_half v0 v1 weight) × (r < 32768))
select-half v0 v1 weight r s p q = p.0 ∙ sym q.0

-- ---- texels
pub starts-of : (planes channel : ℕ) → Tight Starts (λ r. (r ≡ starts_of planes channel) × Ahead r)
starts-of planes channel r s p q = p.0 ∙ sym q.0

pub either : (p a b : ℕ) → Tight ℕ (λ r. r ≡ either_of p a b)
either p a b = one ℕ (either_of p a b)

pub any : (p a b c d : ℕ) → Tight ℕ (λ r. r ≡ any_of p a b c d 0)
any p a b c d = one ℕ (any_of p a b c d 0)

pub hdr-channel : (v0 v1 w : ℕ) → Tight ℕ (λ r. r ≡ hdr_channel v0 v1 w)
hdr-channel v0 v1 w = one ℕ (hdr_channel v0 v1 w)

-- LDR texels, HDR texels and texels of both have one promise
module _ (d : BlockData) (s : List ℕ) where
  pub applicate-color : Tight (List ℕ) (λ out. out ≡ put (lane_at (texel_word d.endpoints d.weights.now d.partition.now d.planes d.channel)) 0 (2 * eights_of d.n) s)
  applicate-color = one (List ℕ) (put (lane_at (texel_word d.endpoints d.weights.now d.partition.now d.planes d.channel)) 0 (2 * eights_of d.n) s)

  pub paint-ldr : Tight (List ℕ) (λ out. out ≡ put (lane_at (texel_word d.endpoints d.weights.now d.partition.now d.planes d.channel)) 0 (2 * eights_of d.n) s)
  paint-ldr = applicate-color

  pub paint-hdr : Tight (List ℕ) (λ out. out ≡ put (lane_at (texel_word d.endpoints d.weights.now d.partition.now d.planes d.channel)) 0 (2 * eights_of d.n) s)
  paint-hdr = applicate-color

  pub put-samples : Tight (List ℕ) (λ out. out ≡ samples_in d.n (texel_lane d.endpoints d.weights.now d.partition.now d.planes d.channel) s)
  put-samples = one (List ℕ) (samples_in d.n (texel_lane d.endpoints d.weights.now d.partition.now d.planes d.channel) s)

pub samples-at : (lanes : List ℕ) (i : ℕ) → Tight Samples (λ r. r ≡ texel_in lanes i)
samples-at lanes i = one Samples (texel_in lanes i)

module _ (n : ℕ) (o f : List ℕ) where
  pub put-texels : (lanes : List ℕ) → TightBoth (List ℕ) (List ℕ) (λ out floats. (out ≡ put (numbers_from lanes) 0 (4 * n) o) × (floats ≡ put (marks_from lanes) 0 n f))
  put-texels lanes = both (List ℕ) (List ℕ) (put (numbers_from lanes) 0 (4 * n) o) (put (marks_from lanes) 0 n f)

  pub fill-texels : (s : Samples) → TightBoth (List ℕ) (List ℕ) (λ out floats. (out ≡ put (numbers_in s) 0 (4 * n) o) × (floats ≡ put (λ (i : ℕ). marks_of s) 0 n f))
  fill-texels s = both (List ℕ) (List ℕ) (put (numbers_in s) 0 (4 * n) o) (put (λ (i : ℕ). marks_of s) 0 n f)
