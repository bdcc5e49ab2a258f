-- LDR endpoints, and the forms of a texel's word that their loops paint.
-- Assumes nothing.
use Rattle.std.specs.Prelude.{◌≡◌, List, ℕ, ◌+◌, ◌*◌, ◌≤◌, get_or}
use Rattle.blend.specs.Blend.{ldr_channel}
use Rattle.endpoints_colours.specs.declared.Mark.TheVariants.{Ldr}
use Rattle.endpoints_colours.specs.declared.Endpoints.{Endpoints}
use Rattle.texels.specs.Texels.{word_by}
use Rattle.texels.specs.declared.Starts.{Starts}
use Rattle.texels_ldr.specs.declared.Weights.{Weights}

-- LDR endpoints, whose numbers are bytes
pub record Plain (e : Endpoints) : Type 0 where
  pub color : e.color ≡ Ldr
  pub alpha : e.alpha ≡ Ldr
  pub r0 : e.r0 ≤ 255
  pub g0 : e.g0 ≤ 255
  pub b0 : e.b0 ≤ 255
  pub a0 : e.a0 ≤ 255
  pub r1 : e.r1 ≤ 255
  pub g1 : e.g1 ≤ 255
  pub b1 : e.b1 ≤ 255
  pub a1 : e.a1 ≤ 255

-- the weights of texel i
pub record WeightsAt (weights : List ℕ) (k : Starts) (i : ℕ) (v : Weights) : Type 0 where
  pub r : v.r ≡ get_or weights (k.r + i) 0
  pub g : v.g ≡ get_or weights (k.g + i) 0
  pub b : v.b ≡ get_or weights (k.b + i) 0
  pub a : v.a ≡ get_or weights (k.a + i) 0
  pub light : (v.r ≤ 64) × (v.g ≤ 64) × (v.b ≤ 64) × (v.a ≤ 64)

-- the word of texel i between the endpoints e, where every channel has the weight of one plane
abbrev pub word_one : Endpoints → List ℕ → ℕ → ℕ
word_one e weights i = word_by e (get_or weights i 0) (get_or weights i 0) (get_or weights i 0) (get_or weights i 0)

-- a lane: two LDR channels
abbrev pub ldr_pair : ℕ → ℕ → ℕ → ℕ → ℕ → ℕ → ℕ
ldr_pair x0 x1 y0 y1 v w = ldr_channel x0 x1 v + 256 * ldr_channel y0 y1 w
