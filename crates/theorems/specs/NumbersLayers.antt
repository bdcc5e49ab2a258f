-- Promises of the layers as statements on the numbers and lists of their definitions alone: each allows one outcome (Tight says what that means). Beside
-- the other promises stands the same of what the functions give and take today: results, and values of types that hold what is asked of them.
-- Assumes nothing.
use Rattle.std.specs.Prelude.{◌≡◌, List, ℕ, ◌*◌, ◌<◌}
use Rattle.std.proofs.Common.{sym, ◌∙◌}
use Rattle.laws.specs.Lists.{put}
use Rattle.options.specs.Base.{base}
use Rattle.options.specs.declared.Reading.{Reading}
use Rattle.footprint.specs.declared.Footprint.{Footprint}
use Rattle.lanes.specs.Lanes.{lane_at, eights as eights_of}
use Rattle.bits.specs.Blocks.{value_of}
use Rattle.bits.specs.declared.Block.{Block}
use Rattle.sequence_ranges.specs.Ranges.{range}
use Rattle.sequence_ranges.specs.declared.Kind.TheVariants.{Plain}
use Rattle.sequence_groups.specs.Sequence.{values_of}
use Rattle.params_modes.specs.Modes.{modes_of, values_to}
use Rattle.params_config.specs.declared.Config.{Config}
use Rattle.params_rules.specs.Rules.{verdict}
use Rattle.params_room.specs.Room.{end_range}
use Rattle.params_extent.specs.Extent.{extent_in, void_verdict}
use Rattle.endpoints_colours.specs.declared.Endpoints.{Endpoints}
use Rattle.texels.specs.Texels.{texel_word}
use Rattle.texels.specs.Samples.{texel_lane, samples_in}
use Rattle.theorems.specs.Tight.{Tight, one, both}

pub decode-plain-by : (w : Block) (b n : ℕ) → Tight (List ℕ) (λ out. out ≡ values_of (range Plain b) (value_of w) n)
decode-plain-by w b n = one (List ℕ) (values_of (range Plain b) (value_of w) n)

pub modes-of : (parts base code : ℕ) → Tight (List ℕ) (λ r. r ≡ modes_of parts base code)
modes-of parts base code = one (List ℕ) (modes_of parts base code)

pub values-of : (parts base code : ℕ) → Tight ℕ (λ r. r ≡ values_to base code parts)
values-of parts base code = one ℕ (values_to base code parts)

pub judge : (k : Config) (f : Footprint) → Tight ℕ (λ r. r ≡ verdict k f)
judge k f = one ℕ (verdict k f)

pub end-range : (k : Config) → Tight ℕ (λ r. (r ≡ end_range k) × (r < 21))
end-range k r s p q = p.0 ∙ sym q.0

pub void-verdict : (reading : Reading) (b : Block) → Tight ℕ (λ r. r ≡ void_verdict reading (extent_in (value_of b)))
void-verdict reading b = one ℕ (void_verdict reading (extent_in (value_of b)))

-- LDR texels, HDR texels and texels of both have one promise
module _ (n planes channel : ℕ) (ends : List Endpoints) (w partitions s : List ℕ) where
  pub applicate-color : Tight (List ℕ) (λ out. out ≡ put (lane_at (texel_word ends w partitions planes channel)) 0 (2 * eights_of n) s)
  applicate-color = one (List ℕ) (put (lane_at (texel_word ends w partitions planes channel)) 0 (2 * eights_of n) s)

  pub paint-ldr : Tight (List ℕ) (λ out. out ≡ put (lane_at (texel_word ends w partitions planes channel)) 0 (2 * eights_of n) s)
  paint-ldr = applicate-color

  pub paint-hdr : Tight (List ℕ) (λ out. out ≡ put (lane_at (texel_word ends w partitions planes channel)) 0 (2 * eights_of n) s)
  paint-hdr = applicate-color

pub put-samples : (n planes channel : ℕ) (ends : List Endpoints) (w partitions s : List ℕ) → Tight (List ℕ) (λ out. out ≡ samples_in n (texel_lane ends w partitions planes channel) s)
put-samples n planes channel ends w partitions s = one (List ℕ) (samples_in n (texel_lane ends w partitions planes channel) s)
