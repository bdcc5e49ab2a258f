-- The laws of painting: the lanes of a word, and two stores a turn.
-- Assumes nothing.
use Rattle.std.specs.Prelude.{◌≡◌, List, ℕ, ◌+◌, ◌*◌, ◌/◌, ◌%◌, ◌≤◌, ◌<◌, set}
use Rattle.std.proofs.Common.{sym, ◌∙◌, arith}
use Rattle.laws.specs.Lists.{put}
use Rattle.blend.specs.Blend.{crate_byte, hdr_half, word_of}
use Rattle.blend.specs.BlendLaws.{hdr-byte}
use Rattle.endpoints_colours.specs.Bounds.{limit}
use Rattle.endpoints_colours.specs.declared.Mark.{Mark}
use Rattle.endpoints_colours.specs.declared.Mark.TheVariants.{Ldr, Hdr}
use Rattle.endpoints_colours.specs.declared.Endpoints.{Endpoints}
use Rattle.lanes.specs.Lanes.{lane_at}
use Rattle.lanes.specs.LaneLaws.{word-stores}
use Rattle.texels.specs.Texels.{channel_by, word_by}

-- a channel is a byte
pub channel-byte : (m : Mark) (e0 e1 w : ℕ) → channel_by m e0 e1 w ≤ 255
unfolding channel_by crate_byte
channel-byte Ldr e0 e1 w = omega arith
channel-byte Hdr e0 e1 w = hdr-byte (hdr_half e0 e1 w)

-- the lanes of a word
word_low : (r g b a : ℕ) → b ≤ 255 → g ≤ 255 → word_of r g b a % 65536 ≡ b + 256 * g
word_low r g b a h l = omega arith

word-high : (r g b a : ℕ) → b ≤ 255 → g ≤ 255 → word_of r g b a / 65536 ≡ r + 256 * a
word-high r g b a h l = omega arith

module _ (e : Endpoints) (r g b a : ℕ) where
  pub low-lane : word_by e r g b a % 65536 ≡ channel_by e.color e.b0 e.b1 b + 256 * channel_by e.color e.g0 e.g1 g
  unfolding word_by
  low-lane = word_low _ _ _ _ (channel-byte e.color e.b0 e.b1 b) (channel-byte e.color e.g0 e.g1 g)

  pub high_lane : word_by e r g b a / 65536 ≡ channel_by e.color e.r0 e.r1 r + 256 * channel_by e.alpha e.a0 e.a1 a
  unfolding word_by
  high_lane = word-high _ _ _ _ (channel-byte e.color e.b0 e.b1 b) (channel-byte e.color e.g0 e.g1 g)

-- a turn of a loop with two stores, from the channels of texel i
pub byte-stores : (f : ℕ → ℕ) (i r g b a x y : ℕ) (s t : List ℕ) → t ≡ put (lane_at f) 0 (2 * i) s → word_of r g b a ≡ f i → b ≤ 255 → g ≤ 255 → x ≡ b + 256 * g → y ≡ r + 256 * a
    → set (set t (2 * i) x) (2 * i + 1) y ≡ put (lane_at f) 0 (2 * (i + 1)) s
byte-stores f i r g b a x y s t h e m l p q = word-stores f i (word_of r g b a) x y s t h e (p ∙ sym (word_low r g b a m l)) (q ∙ sym (word-high r g b a m l))

-- ---- by the mark
pub limit-of : {m k : Mark} {v : ℕ} → m ≡ k → v < limit m → v < limit k
limit-of e h = rw e at h

pub channel-of : {m k : Mark} (v0 v1 w : ℕ) {r : ℕ} → m ≡ k → r ≡ channel_by k v0 v1 w → r ≡ channel_by m v0 v1 w
channel-of v0 v1 w e h = rw e h
