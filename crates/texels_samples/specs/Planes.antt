-- One channel after the other: its ends in each partition, and its sample in each texel.
-- Assumes nothing.
use Rattle.std.specs.Prelude.{cond, List, [], ◌∷◌, ℕ, ◌+◌, ◌<◌, eqb, get_or}
use Rattle.blend.specs.Blend.{ldr_channel, hdr_half}
use Rattle.endpoints_colours.specs.Colours.{nothing, mark_of, first_of, second_of}
use Rattle.endpoints_colours.specs.declared.Mark.{Mark}
use Rattle.endpoints_colours.specs.declared.Mark.TheVariants.{Ldr, Hdr}
use Rattle.endpoints_colours.specs.declared.Endpoints.{Endpoints}
use Rattle.texels.specs.Kinds.{any_of}
use Rattle.texels_samples.specs.declared.Pair.{Pair}

-- a mark as a number, and how large ends of it are
abbrev pub hdr_of : Mark → ℕ
hdr_of Ldr = 0
hdr_of Hdr = 1

abbrev pub limit_by : ℕ → ℕ
limit_by hdr = cond (eqb hdr 0) 256 4096

-- the sample between two ends, as a lane
unfoldable pub sample_lane : ℕ → ℕ → ℕ → ℕ → ℕ
sample_lane hdr v0 v1 w = cond (eqb hdr 0) (ldr_channel v0 v1 w) (32768 + hdr_half v0 v1 w)

-- the ends of channel k
abbrev pub pair_of : Endpoints → ℕ → Pair
pair_of e k = record { hdr = hdr_of (mark_of e k); first = first_of e k; second = second_of e k }

abbrev pub pairs_of : List Endpoints → ℕ → List Pair
pairs_of ends k =
    pair_of (get_or ends 0 nothing) k ∷ pair_of (get_or ends 1 nothing) k ∷ pair_of (get_or ends 2 nothing) k ∷ pair_of (get_or ends 3 nothing) k ∷ []

-- what partition p has
abbrev pub no_pair : Pair
no_pair = record { hdr = 0; first = 0; second = 0 }

abbrev pub pick : List Pair → (Pair → ℕ) → ℕ → ℕ
pick s φ p = any_of p (φ (get_or s 0 no_pair)) (φ (get_or s 1 no_pair)) (φ (get_or s 2 no_pair)) (φ (get_or s 3 no_pair)) 0

abbrev pub hdr_in : List Pair → ℕ → ℕ
hdr_in s p = pick s (λ (e : Pair). e.hdr) p

abbrev pub first_in : List Pair → ℕ → ℕ
first_in s p = pick s (λ (e : Pair). e.first) p

abbrev pub second_in : List Pair → ℕ → ℕ
second_in s p = pick s (λ (e : Pair). e.second) p

-- ends within their limits
abbrev pub PairsInLimits : List Pair → Type 0
PairsInLimits s = (p : ℕ) → p < 4 → (first_in s p < limit_by (hdr_in s p)) × (second_in s p < limit_by (hdr_in s p))

-- the lane of texel i, whose weights start at x
abbrev pub any_at : List Pair → List ℕ → List ℕ → ℕ → ℕ → ℕ
any_at s weights partitions x i = sample_lane (hdr_in s (get_or partitions i 0)) (first_in s (get_or partitions i 0)) (second_in s (get_or partitions i 0)) (get_or weights (x + i) 0)
