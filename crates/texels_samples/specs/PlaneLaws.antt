-- The laws of samples, one channel after the other: each lane is the definition's sample, and ends keep their limits.
-- Assumes nothing.
use Rattle.std.specs.Prelude.{◌≡◌, refl, List, ℕ, zero, suc, ◌+◌, ◌*◌, ◌≤◌, ◌<◌}
use Rattle.std.proofs.Common.{ap, ◌∙◌, arith, Fits, eq-eqb, ne_eqb}
use Rattle.std.proofs.Math.ListN.{get_or}
use Rattle.std.specs.Int.{w64}
use Rattle.laws.specs.Lists.{put_at}
use Rattle.footprint.specs.Footprints.{most_texels}
use Rattle.blend.specs.Blend.{ldr_channel, hdr_half}
use Rattle.endpoints_colours.specs.Bounds.{InLimits, limit}
use Rattle.endpoints_colours.specs.Colours.{nothing, mark_of, first_of, second_of}
use Rattle.endpoints_colours.specs.declared.Mark.{Mark}
use Rattle.endpoints_colours.specs.declared.Mark.TheVariants.{Ldr, Hdr}
use Rattle.endpoints_colours.specs.declared.Endpoints.{Endpoints}
use Rattle.lanes.specs.Lanes.{most_lanes, eights}
use Rattle.texels.specs.Texels.{blend_by, plane_of}
use Rattle.texels.specs.Samples.{lane_by, texel_lane, channel_in, samples_in}
use Rattle.texels.specs.SampleLaws.{at_same}
use Rattle.texels.specs.PaintGiven.{PaintGiven}
use Rattle.texels_samples.specs.Planes.{hdr_of, limit_by, sample_lane, pair_of, pairs_of, pick, hdr_in, first_in, second_in, PairsInLimits, no_pair, any_at}
use Rattle.texels_samples.specs.declared.Pair.{Pair}

-- ---- one sample, as the code has it
module _ (hdr v0 v1 w : ℕ) where
  pub ldr-limit : {v : ℕ} → hdr ≡ 0 → v < limit_by hdr → v ≤ 255
  ldr-limit {v} z h = let l : v < 256 = rw (eq-eqb hdr 0 z) at h in omega arith

  pub hdr-limit : {v : ℕ} → (hdr ≡ 0 → ⊥) → v < limit_by hdr → v < 4096
  hdr-limit n h = rw (ne_eqb hdr 0 n) at h

  pub ldr-is : (r : ℕ) → hdr ≡ 0 → r ≡ ldr_channel v0 v1 w → r ≡ sample_lane hdr v0 v1 w
  unfolding sample_lane
  ldr-is r z h = rw (eq-eqb hdr 0 z) h

  pub hdr-is : (h : ℕ) → (hdr ≡ 0 → ⊥) → h ≡ hdr_half v0 v1 w → 32768 + h ≡ sample_lane hdr v0 v1 w
  unfolding sample_lane
  hdr-is h n e = rw (ne_eqb hdr 0 n, e)

-- ---- a channel's ends
-- those of partition p
past : {A : Type 0} {p : ℕ} → suc (suc (suc (suc p))) < 4 → A
past h = absurd (omega arith)

pick_is : (ends : List Endpoints) (k : ℕ) (φ : Pair → ℕ) (p : ℕ) → p < 4 → pick (pairs_of ends k) φ p ≡ φ (pair_of (get_or ends p nothing) k)
pick_is ends k φ zero h = refl
pick_is ends k φ (suc zero) h = refl
pick_is ends k φ (suc (suc zero)) h = refl
pick_is ends k φ (suc (suc (suc zero))) h = refl
pick_is ends k φ (suc (suc (suc (suc p)))) h = past h

limit_is : (m : Mark) → limit_by (hdr_of m) ≡ limit m
limit_is Ldr = refl
limit_is Hdr = refl

pub ends-lt : (e : Endpoints) (k : ℕ) → k < 4 → InLimits e → (first_of e k < limit (mark_of e k)) × (second_of e k < limit (mark_of e k))
ends-lt e zero l h = (h.r0, h.r1)
ends-lt e (suc zero) l h = (h.g0, h.g1)
ends-lt e (suc (suc zero)) l h = (h.b0, h.b1)
ends-lt e (suc (suc (suc zero))) l h = (h.a0, h.a1)
ends-lt e (suc (suc (suc (suc k)))) l h = past l

pub bounded : (ends : List Endpoints) (k : ℕ) (s : List Pair) → s ≡ pairs_of ends k → k < 4 → ((p : ℕ) → InLimits (get_or ends p nothing)) → PairsInLimits s
bounded ends k s q l within p h =
    let e = get_or ends p nothing in
    rw (q, pick_is ends k (λ (x : Pair). x.hdr) p h, pick_is ends k (λ (x : Pair). x.first) p h, pick_is ends k (λ (x : Pair). x.second) p h, limit_is (mark_of e k)) (ends-lt e k l (within p))

-- ---- the lanes of a channel
-- one partition is any
pub one-any : (s : List Pair) (weights partitions : List ℕ) (x i : ℕ) → get_or partitions i 0 < 1
    → sample_lane (get_or s 0 no_pair).hdr (get_or s 0 no_pair).first (get_or s 0 no_pair).second (get_or weights (x + i) 0) ≡ any_at s weights partitions x i
one-any s weights partitions x i h = let z : get_or partitions i 0 ≡ 0 = omega arith in rw z

lane-is : (m : Mark) (v0 v1 w : ℕ) → sample_lane (hdr_of m) v0 v1 w ≡ lane_by m (blend_by m v0 v1 w)
unfolding sample_lane
lane-is Ldr v0 v1 w = refl
lane-is Hdr v0 v1 w = refl

-- the numbers picked make the sample
pub any-limit : (s : List Pair) (p : ℕ) {x y h : ℕ} → PairsInLimits s → p < 4 → h ≡ hdr_in s p → x ≡ first_in s p → y ≡ second_in s p → (x < limit_by h) × (y < limit_by h)
any-limit s p b l eh ex ey = rw (eh, ex, ey) (b p l)

pub any-is : (s : List Pair) (p w : ℕ) {x y h r : ℕ} → h ≡ hdr_in s p → x ≡ first_in s p → y ≡ second_in s p → r ≡ sample_lane h x y w → r ≡ sample_lane (hdr_in s p) (first_in s p) (second_in s p) w
any-is s p w eh ex ey d = d ∙ rw (eh, ex, ey)

module _ (n parts planes channel : ℕ) (ends : List Endpoints) (weights partitions : List ℕ) (given : PaintGiven n parts planes ends weights partitions) where
  texel-lane : (k x i : ℕ) → x ≡ most_texels * plane_of planes channel k → any_at (pairs_of ends k) weights partitions x i ≡ texel_lane ends weights partitions planes channel i k
  unfolding texel_lane
  texel-lane k x i e =
      let p = get_or partitions i 0 in
      let b : p < 4 = omega (arith, given.mapped i, given.four) in
      rw (pick_is ends k (λ (q : Pair). q.hdr) p b, pick_is ends k (λ (q : Pair). q.first) p b, pick_is ends k (λ (q : Pair). q.second) p b, e)
      (lane-is (mark_of (get_or ends p nothing) k) _ _ _)

  -- channel k of the texels
  pub channel-put : (k at x : ℕ) (s : List Pair) (o out : List ℕ) → s ≡ pairs_of ends k → x ≡ most_texels * plane_of planes channel k → out ≡ put_at (any_at s weights partitions x) at (eights n) o
      → out ≡ channel_in at n (λ (i : ℕ). texel_lane ends weights partitions planes channel i k) o
  channel-put k at x s o out q e h =
      h ∙ at_same _ _ at (eights n) o (λ i l. ap (λ (z : List Pair). any_at z weights partitions x i) q ∙ texel-lane k x i e)

  -- and all four
  pub all-put : (o r g b a : List ℕ) → r ≡ channel_in 0 n (λ (i : ℕ). texel_lane ends weights partitions planes channel i 0) o → g ≡ channel_in 144 n (λ (i : ℕ). texel_lane ends weights partitions planes channel i 1) r
      → b ≡ channel_in 288 n (λ (i : ℕ). texel_lane ends weights partitions planes channel i 2) g → a ≡ channel_in 432 n (λ (i : ℕ). texel_lane ends weights partitions planes channel i 3) b
      → a ≡ samples_in n (texel_lane ends weights partitions planes channel) o
  unfolding samples_in
  all-put o r g b a er eg eb ea = ea ∙ rw (eb, eg, er)

-- ---- where a lane stands
pub lane-fits : {at i : ℕ} → at ≤ 432 → i < most_texels → Fits w64 (at + i)
lane-fits h l = omega arith

pub lane-offset : {at i : ℕ} → at ≤ 432 → i < most_texels → Fits w64 ((at + i) * 2)
lane-offset h l = omega arith

pub lane_in : {at i : ℕ} → at ≤ 432 → i < most_texels → at + i < most_lanes
lane_in h l = omega arith
