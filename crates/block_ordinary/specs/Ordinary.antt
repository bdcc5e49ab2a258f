-- The words and the samples of an ordinary block's texels. v is the block's number of 128 bits, read by whole fields alone: the low configuration, the extra
-- field, the endpoints and the weights.
-- Assumes nothing.
use Rattle.std.specs.Prelude.{cond, List, ℕ, ◌*◌, eqb, replicate}
use Rattle.laws.specs.Lists.{put}
use Rattle.sequence_ranges.specs.Ranges.{range_of}
use Rattle.sequence_groups.specs.Sequence.{values_of}
use Rattle.footprint.specs.Footprints.{texels_of, most_texels}
use Rattle.footprint.specs.declared.Footprint.{Footprint}
use Rattle.lanes.specs.Lanes.{lane_at, eights}
use Rattle.lanes.specs.declared.Form.{Form}
use Rattle.lanes.specs.declared.Form.TheVariants.{Words, Samples}
use Rattle.params_rules.specs.Fields.{fields_of, answer}
use Rattle.params.specs.Params.{params_of, ends_field, weights_field}
use Rattle.params.specs.declared.Params.{Params}
use Rattle.endpoints_unquantise.specs.Unquantised.{endpoint_values}
use Rattle.endpoints.specs.Endpoints.{endpoints_list}
use Rattle.endpoints_colours.specs.declared.Endpoints.{Endpoints}
use Rattle.weights.specs.Weights.{weights_of}
use Rattle.weights_grid.specs.declared.Grid.{Grid}
use Rattle.partition.specs.Partition.{partition_at}
use Rattle.channels.specs.declared.Sample.{Sample}
use Rattle.texels.specs.Texels.{texel_word, texel_sample}
use Rattle.texels.specs.Samples.{texel_lane, samples_in}

-- ---- a legal block, of its parameters p and two more fields
-- the endpoints of its partitions, from the endpoint field
unfoldable pub ends_of : Params → ℕ → List Endpoints
ends_of p field = endpoints_list p.config.parts p.modes (endpoint_values p.endpoint_range (values_of (range_of p.endpoint_range) field p.config.values))

abbrev pub grid_of : Params → Footprint → Grid
grid_of p foot = record { footprint = foot; width = p.config.width; height = p.config.height; planes = p.config.planes }

abbrev pub count_of : Params → ℕ
count_of p = p.config.width * p.config.height * p.config.planes

-- the weights of its texels, from the weight field, which is read from its top bit downwards
unfoldable pub weights_in : Params → Footprint → ℕ → List ℕ
weights_in p foot field = weights_of (grid_of p foot) p.config.weight_range (values_of (range_of p.config.weight_range) field (count_of p))

-- the partition of each of its texels: the first where there is one alone
unfoldable pub partitions_in : Params → Footprint → List ℕ
partitions_in p foot =
    cond (eqb p.config.parts 1) (replicate most_texels 0) (put (partition_at p.config.number p.config.parts foot) 0 (texels_of foot) (replicate most_texels 0))

-- ---- the word of texel t
unfoldable pub ordinary_word : Params → ℕ → Footprint → ℕ → ℕ
ordinary_word p v foot t =
    texel_word (ends_of p (ends_field p v)) (weights_in p foot (weights_field p v)) (partitions_in p foot) p.config.planes p.channel t

-- and the sample of its channel k
unfoldable pub ordinary_sample : Params → ℕ → Footprint → ℕ → ℕ → Sample
ordinary_sample p v foot t k =
    texel_sample (ends_of p (ends_field p v)) (weights_in p foot (weights_field p v)) (partitions_in p foot) p.config.planes p.channel t k

-- and the lane that it stands in
unfoldable pub ordinary_lane : Params → ℕ → Footprint → ℕ → ℕ → ℕ
ordinary_lane p v foot t k =
    texel_lane (ends_of p (ends_field p v)) (weights_in p foot (weights_field p v)) (partitions_in p foot) p.config.planes p.channel t k

-- ---- the code's step
-- what the block answers at a listed footprint
abbrev pub block_answer : ℕ → Footprint → ℕ
block_answer v foot = answer (fields_of v) foot

-- the lanes h with those of a legal block's texels, to the next multiple of 8: their words, or their samples
abbrev pub form_of : Form → Params → ℕ → Footprint → List ℕ → List ℕ
form_of Words p v foot h = put (lane_at (ordinary_word p v foot)) 0 (2 * eights (texels_of foot)) h
form_of Samples p v foot h = samples_in (texels_of foot) (ordinary_lane p v foot) h

-- the same of any block: one that is not legal puts none
unfoldable pub lanes_in : Form → ℕ → Footprint → List ℕ → List ℕ
lanes_in form v foot h =
    let p = params_of v foot in
    cond (eqb p.answer 0) (form_of form p v foot h) h

-- those of words
abbrev pub lanes_of : ℕ → Footprint → List ℕ → List ℕ
lanes_of v foot h = lanes_in Words v foot h
