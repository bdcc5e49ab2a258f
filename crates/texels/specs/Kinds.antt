-- What the loops of each kind share: where weights start, the kinds of endpoints, and what a partition has. The definition of a texel's word needs none of them.
-- Assumes nothing.
use Rattle.std.specs.Prelude.{◌≡◌, cond, List, [], ◌∷◌, ℕ, ◌+◌, ◌*◌, ◌≤◌, ◌<◌, eqb, get_or, Option, None, Some}
use Rattle.footprint.specs.Footprints.{most_texels}
use Rattle.endpoints_colours.specs.Colours.{nothing}
use Rattle.endpoints_colours.specs.declared.Mark.{Mark}
use Rattle.endpoints_colours.specs.declared.Mark.TheVariants.{Ldr, Hdr}
use Rattle.endpoints_colours.specs.declared.Endpoints.{Endpoints}
use Rattle.texels.specs.Texels.{word_by, plane_of}
use Rattle.texels.specs.declared.Starts.{Starts}

-- where each channel's weights start
abbrev pub starts_of : ℕ → ℕ → Starts
starts_of planes channel = record {
  r = most_texels * plane_of planes channel 0;
  g = most_texels * plane_of planes channel 1;
  b = most_texels * plane_of planes channel 2;
  a = most_texels * plane_of planes channel 3;
}

-- starts from which the weights of all texels are there
pub record Ahead (k : Starts) : Type 0 where
  pub r : k.r ≤ most_texels
  pub g : k.g ≤ most_texels
  pub b : k.b ≤ most_texels
  pub a : k.a ≤ most_texels

-- the word of texel i between the endpoints e
abbrev pub word_at : Endpoints → List ℕ → Starts → ℕ → ℕ
word_at e weights k i =
    word_by e (get_or weights (k.r + i) 0) (get_or weights (k.g + i) 0) (get_or weights (k.b + i) 0) (get_or weights (k.a + i) 0)

-- ---- kinds of endpoints
-- 0 where both marks are LDR, 1 where both are HDR, else 2
abbrev pub kind_by : Mark → Mark → ℕ
kind_by Ldr Ldr = 0
kind_by Ldr Hdr = 2
kind_by Hdr Ldr = 2
kind_by Hdr Hdr = 1

abbrev pub kind_of : Endpoints → ℕ
kind_of e = kind_by e.color e.alpha

-- the kind of one mark for both, or of none
abbrev pub kind_in : Option Mark → ℕ
kind_in None = 2
kind_in (Some Ldr) = 0
kind_in (Some Hdr) = 1

-- the partitions in use are all of kind k
abbrev pub AllOf : ℕ → ℕ → List Endpoints → Type 0
AllOf k parts ends = (p : ℕ) → p < parts → kind_of (get_or ends p nothing) ≡ k

-- ---- by the partition
-- what partition p has, of two and of four
abbrev pub either_of : {A : Type 0} → ℕ → A → A → A
either_of p a b = cond (eqb p 0) a b

abbrev pub any_of : {A : Type 0} → ℕ → A → A → A → A → A → A
any_of p a b c d z = get_or (a ∷ b ∷ c ∷ d ∷ []) p z
