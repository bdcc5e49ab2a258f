-- One HDR channel after the other: its numbers in each partition, and a texel's word of its four channels.
-- Assumes nothing.
use Rattle.std.specs.Prelude.{List, [], ◌∷◌, ℕ, ◌+◌, ◌<◌, get_or}
use Rattle.blend.specs.Blend.{hdr_channel, word_of}
use Rattle.endpoints_colours.specs.Colours.{nothing}
use Rattle.endpoints_colours.specs.declared.Endpoints.{Endpoints}
use Rattle.texels_hdr.specs.declared.Channels.{Channels}
use Rattle.texels_hdr.specs.declared.Numbers.{Numbers}

-- numbers of 12 bits
abbrev pub Wide : List ℕ → Type 0
Wide f = (p : ℕ) → get_or f p 0 < 4096

-- the channel of texel i, whose weights start at x, of its numbers in each partition
abbrev pub hdr_at : List ℕ → List ℕ → List ℕ → List ℕ → ℕ → ℕ → ℕ
hdr_at first second weights partitions x i = hdr_channel (get_or first (get_or partitions i 0) 0) (get_or second (get_or partitions i 0) 0) (get_or weights (x + i) 0)

-- one number of each partition's endpoints
abbrev pub field_of : (Endpoints → ℕ) → List Endpoints → List ℕ
field_of φ ends = φ (get_or ends 0 nothing) ∷ φ (get_or ends 1 nothing) ∷ φ (get_or ends 2 nothing) ∷ φ (get_or ends 3 nothing) ∷ []

abbrev pub numbers_in : (Endpoints → ℕ) → (Endpoints → ℕ) → List Endpoints → Numbers
numbers_in φ ψ ends = record { first = field_of φ ends; second = field_of ψ ends }

abbrev pub channels_in : List Endpoints → Channels
channels_in ends = record {
  r = numbers_in (λ (e : Endpoints). e.r0) (λ (e : Endpoints). e.r1) ends;
  g = numbers_in (λ (e : Endpoints). e.g0) (λ (e : Endpoints). e.g1) ends;
  b = numbers_in (λ (e : Endpoints). e.b0) (λ (e : Endpoints). e.b1) ends;
  a = numbers_in (λ (e : Endpoints). e.a0) (λ (e : Endpoints). e.a1) ends;
}

-- the word of texel i, of the channels of all
abbrev pub word_among : List ℕ → List ℕ → List ℕ → List ℕ → ℕ → ℕ
word_among r g b a i = word_of (get_or r i 0) (get_or g i 0) (get_or b i 0) (get_or a i 0)
