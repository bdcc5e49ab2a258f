-- Demand 3 of docs/SCOPE.md: a legal block never leaves its bounds, in the terms of the map that is reported. DemandLaws has the proof.
-- Assumes nothing.
use Rattle.std.specs.Prelude.{◌≡◌, cond, List, [], ◌∷◌, ℕ, ◌+◌, ◌-◌, ◌*◌, ◌≤◌, ◌<◌, eqb, get_or, length}
use Rattle.bits.specs.Bits.{bits_at, bytes}
use Rattle.sequence_ranges.specs.Ranges.{top_of}
use Rattle.params_config.specs.Ranges.{cost}
use Rattle.params_config.specs.Config.{extra_mode_bits}
use Rattle.params_config.specs.declared.Config.{Config}
use Rattle.params_map.specs.declared.BlockMap.{BlockMap}
use Rattle.params.specs.Params.{params_of, ends_field, weights_field}
use Rattle.params.specs.declared.Params.{Params}
use Rattle.endpoints_colours.specs.Colours.{nothing, mark_of, first_of, second_of}
use Rattle.endpoints_colours.specs.declared.Mark.TheVariants.{Ldr}
use Rattle.endpoints_colours.specs.declared.Endpoints.{Endpoints}
use Rattle.blend.specs.BlendLaws.{Between}
use Rattle.footprint.specs.declared.Footprint.{Footprint}
use Rattle.block_ordinary.specs.Ordinary.{ends_of, weights_in, partitions_in}
use Rattle.block_map.specs.Answer.{answer_of, block_map}
use Rattle.block.specs.Block.{word_at, painted_of}
use Rattle.block_channels.specs.BlockChannels.{numbers_of, marks_in}

-- ---- the fields of a map: 0 is the low configuration, 1 the endpoints, 2 the extra field, 3 the weights
abbrev pub start_of : BlockMap → ℕ → ℕ
start_of m i = get_or (m.low_at ∷ m.end_at ∷ m.extra_at ∷ m.weight_at ∷ []) i 0

abbrev pub length_of : BlockMap → ℕ → ℕ
length_of m i = get_or (m.low_len ∷ m.end_len ∷ m.extra_len ∷ m.weight_len ∷ []) i 0

-- bit k stands in field i
abbrev pub In : BlockMap → ℕ → ℕ → Type 0
In m i k = (start_of m i ≤ k) × (k < start_of m i + length_of m i)

-- bit k of sixteen bytes
abbrev pub bit_of : List ℕ → ℕ → ℕ
bit_of s k = bits_at (bytes 16 s) k 1

-- ---- the endpoints' range: q, in which n values stand between the low configuration and the extra field, and no wider one does
pub record WidestRange (m : BlockMap) (n q : ℕ) : Type 0 where
  pub least : 4 ≤ q
  pub most : q ≤ 20
  pub top : m.top ≡ top_of q
  pub length : m.end_len ≡ cost q n
  pub fits : m.end_at + cost q n ≤ m.extra_at
  pub widest : (r : ℕ) → q < r → r ≤ 20 → m.extra_at < m.end_at + cost r n

-- ---- where each field starts, and how long it is, by what the low configuration k says
pub record Stated (m : BlockMap) (k : Config) : Type 0 where
  -- the low configuration: 17 bits with one partition, and else 29
  pub low-start : m.low_at ≡ 0
  pub low-length : m.low_len ≡ cond (eqb k.parts 1) 17 29
  -- the endpoints follow; WidestRange has their length
  pub ends-start : m.end_at ≡ m.low_len
  -- the extra field, directly below the weights: mode bits, and two for the channel of a second plane
  pub extra-length : m.extra_len ≡ extra_mode_bits k.parts k.base + 2 * (k.planes - 1)
  pub extra-end : m.extra_at + m.extra_len ≡ m.weight_at
  -- the weights, which end at bit 127
  pub weights-length : m.weight_len ≡ cost k.weight_range (k.width * k.height * k.planes)
  pub weights-end : m.weight_at + m.weight_len ≡ 128

-- ---- a channel of a word: 0 to 3 for red, green, blue and alpha
abbrev pub channel_in : ℕ → ℕ → ℕ
channel_in w c = bits_at w (get_or (16 ∷ 8 ∷ 0 ∷ 24 ∷ []) c 0) 8

-- ---- the parts of the block s
abbrev pub params : List ℕ → Footprint → Params
params s foot = params_of (bytes 16 s) foot

abbrev pub infilled : List ℕ → Footprint → List ℕ
infilled s foot = weights_in (params s foot) foot (weights_field (params s foot) (bytes 16 s))

-- the endpoints of the partition of texel t
abbrev pub ends_at : List ℕ → Footprint → ℕ → Endpoints
ends_at s foot t = get_or (ends_of (params s foot) (ends_field (params s foot) (bytes 16 s))) (get_or (partitions_in (params s foot) foot) t 0) nothing

-- ---- what two blocks share at a footprint, whatever the room and the output
pub record SameOutcome (s s' : List ℕ) (foot : Footprint) : Type 0 where
  pub answer : (room : ℕ) → answer_of s foot room ≡ answer_of s' foot room
  pub map : block_map s foot ≡ block_map s' foot
  pub words : (out : List ℕ) → painted_of s foot out ≡ painted_of s' foot out
  pub numbers : (marks : ℕ) (out : List ℕ) → numbers_of s foot marks out ≡ numbers_of s' foot marks out
  pub marks : (places : ℕ) (floats : List ℕ) → marks_in s foot places floats ≡ marks_in s' foot places floats

-- ---- the demand
pub record InBounds (s : List ℕ) (foot : Footprint) : Type 0 where
  -- its fields lie within the 128 bits, and share no bit
  pub within : (i k : ℕ) → In (block_map s foot) i k → k < 128
  pub disjoint : (i j k : ℕ) → In (block_map s foot) i k → In (block_map s foot) j k → i ≡ j
  -- each of them stands where it should, as long as it should be
  pub stated : Stated (block_map s foot) (params s foot).config
  -- its endpoint range is the widest that fits
  pub range : WidestRange (block_map s foot) (params s foot).config.values (params s foot).endpoint_range
  -- infilled weights are in 0..64
  pub weights : (i : ℕ) → get_or (infilled s foot) i 0 ≤ 64
  -- LDR channels lie between their endpoints
  pub channels : (t c : ℕ) → c < 4 → mark_of (ends_at s foot t) c ≡ Ldr
      → Between (first_of (ends_at s foot t) c) (second_of (ends_at s foot t) c) (channel_in (word_at s foot t) c)
  -- no bit outside the map changes anything
  pub local : (s' : List ℕ) → length s' ≡ 16 → ((i k : ℕ) → In (block_map s foot) i k → bit_of s k ≡ bit_of s' k) → SameOutcome s s' foot
