-- The samples of a texel, from the lanes of a block, where those of channel k stand from lane 144 * k on.
-- Assumes nothing.
use Rattle.std.specs.Prelude.{cond, List, ℕ, ◌+◌, ◌-◌, ◌*◌, ◌%◌, ltb, get_or}
use Rattle.footprint.specs.Footprints.{most_texels}
use Rattle.channels.specs.Channels.{finite}
use Rattle.channels.specs.declared.Sample.{Sample}
use Rattle.channels.specs.declared.Sample.TheVariants.{Byte, Half}
use Rattle.channels.specs.declared.Samples.{Samples}

-- the sample that a lane holds
unfoldable pub sample_in : ℕ → Sample
sample_in x = cond (ltb x 32768) (Byte (x % 256)) (Half (finite (x - 32768)))

-- channel k of texel i, from the lanes
abbrev pub channel_in : List ℕ → ℕ → ℕ → Sample
channel_in lanes i k = sample_in (get_or lanes (most_texels * k + i) 0)

abbrev pub texel_in : List ℕ → ℕ → Samples
texel_in lanes i = record { r = channel_in lanes i 0; g = channel_in lanes i 1; b = channel_in lanes i 2; a = channel_in lanes i 3 }
