-- The samples of texels in lanes: those of each channel stand together, for as many texels as the largest footprint has.
-- Assumes nothing.
use Rattle.std.specs.Prelude.{List, ℕ, ◌+◌}
use Rattle.laws.specs.Lists.{put_at}
use Rattle.blend.specs.Blend.{crate_byte}
use Rattle.endpoints_colours.specs.declared.Mark.{Mark}
use Rattle.endpoints_colours.specs.declared.Mark.TheVariants.{Ldr, Hdr}
use Rattle.endpoints_colours.specs.declared.Endpoints.{Endpoints}
use Rattle.lanes.specs.Lanes.{eights}
use Rattle.texels.specs.Texels.{blended_at}

-- a blended channel as a lane: its byte where it is LDR, and else its half, which has no sign, with the top bit
abbrev pub lane_by : Mark → ℕ → ℕ
lane_by Ldr c = crate_byte c
lane_by Hdr h = 32768 + h

-- channel k of texel i
unfoldable pub texel_lane : List Endpoints → List ℕ → List ℕ → ℕ → ℕ → ℕ → ℕ → ℕ
texel_lane ends weights partitions planes channel i k =
    let c = blended_at ends weights partitions planes channel i k in
    lane_by c.mark c.value

-- the lanes s with those of one channel, f 0, f 1, .., to the next multiple of 8, from place `at` on
abbrev pub channel_in : ℕ → ℕ → (ℕ → ℕ) → List ℕ → List ℕ
channel_in at n f s = put_at f at (eights n) s

-- the lanes s with those of n texels, f i k that of channel k of texel i
unfoldable pub samples_in : ℕ → (ℕ → ℕ → ℕ) → List ℕ → List ℕ
samples_in n f s =
    channel_in 432 n (λ (i : ℕ). f i 3) (channel_in 288 n (λ (i : ℕ). f i 2) (channel_in 144 n (λ (i : ℕ). f i 1) (channel_in 0 n (λ (i : ℕ). f i 0) s)))
