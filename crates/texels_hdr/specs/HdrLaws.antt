-- The laws of HDR texels, whose channels are painted one after the other.
-- Assumes nothing.
use Rattle.std.specs.Prelude.{◌≡◌, refl, List, ℕ, zero, suc, ◌+◌, ◌-◌, ◌*◌, ◌/◌, ◌≤◌, ◌<◌, get_or, replicate}
use Rattle.std.proofs.Common.{sym, ap, ◌∙◌, mul-add, arith, lt-ltb}
use Rattle.laws.specs.Lists.{put, put_same, zeros-at}
use Rattle.footprint.specs.Footprints.{most_texels}
use Rattle.half.specs.Half.{hdr_byte_of}
use Rattle.blend.specs.Blend.{between, half_of, hdr_channel, word_of}
use Rattle.endpoints_colours.specs.Bounds.{InLimits, limit}
use Rattle.endpoints_colours.specs.Colours.{nothing}
use Rattle.endpoints_colours.specs.declared.Mark.{Mark}
use Rattle.endpoints_colours.specs.declared.Mark.TheVariants.{Ldr, Hdr}
use Rattle.endpoints_colours.specs.declared.Endpoints.{Endpoints}
use Rattle.lanes.specs.Lanes.{lane_at, eights}
use Rattle.texels.specs.Texels.{channel_by, word_by, texel_word}
use Rattle.texels.specs.PaintGiven.{PaintGiven}
use Rattle.texels.specs.Kinds.{starts_of, AllOf, either_of, any_of}
use Rattle.lanes.specs.LaneLaws.{put-lanes}
use Rattle.texels.specs.KindLaws.{both-hdr, any_entry, either-entry}
use Rattle.texels.specs.TexelLaws.{by-starts}
use Rattle.texels.specs.declared.Starts.{Starts}
use Rattle.texels_hdr.specs.Channels.{Wide, hdr_at, field_of, numbers_in, channels_in, word_among}
use Rattle.texels_hdr.specs.declared.Channels.{Channels}
use Rattle.texels_hdr.specs.declared.Numbers.{Numbers}

-- ---- the numbers of one channel
past : {A : Type 0} {p : ℕ} → suc (suc (suc (suc p))) < 4 → A
past h = absurd (omega arith)

module _ (φ : Endpoints → ℕ) (ends : List Endpoints) where
  field_at : (p : ℕ) → p < 4 → get_or (field_of φ ends) p 0 ≡ φ (get_or ends p nothing)
  field_at zero h = refl
  field_at (suc zero) h = refl
  field_at (suc (suc zero)) h = refl
  field_at (suc (suc (suc zero))) h = refl
  field_at (suc (suc (suc (suc p)))) h = past h

  field-wide : ((p : ℕ) → φ (get_or ends p nothing) < 4096) → Wide (field_of φ ends)
  field-wide h zero = h 0
  field-wide h (suc zero) = h 1
  field-wide h (suc (suc zero)) = h 2
  field-wide h (suc (suc (suc zero))) = h 3
  field-wide h (suc (suc (suc (suc p)))) = omega arith

wide_of : (m : Mark) {v : ℕ} → v < limit m → v < 4096
wide_of Ldr h = omega arith
wide_of Hdr h = h

-- numbers within their limits have 12 bits
numbers-wide : (φ ψ : Endpoints → ℕ) (mark : Endpoints → Mark) (ends : List Endpoints) {v : Numbers} → v ≡ numbers_in φ ψ ends
    → ((e : Endpoints) → InLimits e → (φ e < limit (mark e)) × (ψ e < limit (mark e))) → ((p : ℕ) → InLimits (get_or ends p nothing)) → Wide v.first × Wide v.second
numbers-wide φ ψ mark ends e limits within =
    rw e (
      field-wide φ ends (λ p. wide_of (mark (get_or ends p nothing)) (limits (get_or ends p nothing) (within p)).0),
      field-wide ψ ends (λ p. wide_of (mark (get_or ends p nothing)) (limits (get_or ends p nothing) (within p)).1),
    )

-- the numbers of every channel
pub record WideAll (v : Channels) : Type 0 where
  pub r : Wide v.r.first × Wide v.r.second
  pub g : Wide v.g.first × Wide v.g.second
  pub b : Wide v.b.first × Wide v.b.second
  pub a : Wide v.a.first × Wide v.a.second

pub channels-wide : (ends : List Endpoints) (v : Channels) → v ≡ channels_in ends → ((p : ℕ) → InLimits (get_or ends p nothing)) → WideAll v
channels-wide ends v e within = record {
  r = numbers-wide (λ (e : Endpoints). e.r0) (λ (e : Endpoints). e.r1) (λ (e : Endpoints). e.color) ends (ap (λ (c : Channels). c.r) e) (λ e h. (h.r0, h.r1)) within;
  g = numbers-wide (λ (e : Endpoints). e.g0) (λ (e : Endpoints). e.g1) (λ (e : Endpoints). e.color) ends (ap (λ (c : Channels). c.g) e) (λ e h. (h.g0, h.g1)) within;
  b = numbers-wide (λ (e : Endpoints). e.b0) (λ (e : Endpoints). e.b1) (λ (e : Endpoints). e.color) ends (ap (λ (c : Channels). c.b) e) (λ e h. (h.b0, h.b1)) within;
  a = numbers-wide (λ (e : Endpoints). e.a0) (λ (e : Endpoints). e.a1) (λ (e : Endpoints). e.alpha) ends (ap (λ (c : Channels). c.a) e) (λ e h. (h.a0, h.a1)) within;
}

-- ---- a texel of one partition and of any, as the code has its numbers
module _ (a b : List ℕ) (weights partitions : List ℕ) (x i : ℕ) where
  pub at_first : get_or partitions i 0 < 1 → hdr_channel (get_or a 0 0) (get_or b 0 0) (get_or weights (x + i) 0) ≡ hdr_at a b weights partitions x i
  at_first h = let z : get_or partitions i 0 ≡ 0 = omega arith in rw z

  pub at_any : get_or partitions i 0 < 4
      → hdr_channel (any_of (get_or partitions i 0) (get_or a 0 0) (get_or a 1 0) (get_or a 2 0) (get_or a 3 0) 0) (any_of (get_or partitions i 0) (get_or b 0 0) (get_or b 1 0) (get_or b 2 0) (get_or b 3 0) 0) (get_or weights (x + i) 0)
      ≡ hdr_at a b weights partitions x i
  at_any h = rw (any_entry a 0 (get_or partitions i 0) h, any_entry b 0 (get_or partitions i 0) h)

-- of two, the number of the partition
pub either-pick : (f : List ℕ) (p : ℕ) → p < 2 → either_of p (get_or f 0 0) (get_or f 1 0) ≡ get_or f p 0
either-pick f p h = either-entry f 0 p h

-- numbers that are picked have 12 bits, as those that they are picked from
pub two-wide : (a : List ℕ) (p : ℕ) {x : ℕ} → Wide a → p < 2 → x ≡ either_of p (get_or a 0 0) (get_or a 1 0) → x < 4096
two-wide a p h l e = rw (e, either-pick a p l) (h p)

pub four-wide : (a : List ℕ) (p : ℕ) {x : ℕ} → Wide a → x ≡ get_or a p 0 → x < 4096
four-wide a p h e = rw e (h p)

-- equal endpoints need no weight
flat : (v w : ℕ) → w ≤ 64 → hdr_channel v v 0 ≡ hdr_channel v v w
unfolding between
flat v w h =
    let e : v * 16 * (64 - w) + v * 16 * w ≡ v * 16 * (64 - w + w) = sym (mul-add (v * 16) (64 - w) w) in
    let f : v * 16 * (64 - w + w) ≡ v * 16 * 64 = ap (λ (z : ℕ). v * 16 * z) (omega arith) in
    ap (λ (z : ℕ). hdr_byte_of (half_of ((z + 32) / 64))) (omega (arith, e, f))

pub hdr-flat-is : (n x v0 v1 : ℕ) (weights out s : List ℕ) → ((i : ℕ) → get_or weights i 0 ≤ 64) → v0 ≡ v1 → out ≡ put (λ (i : ℕ). hdr_channel v0 v0 0) 0 (eights n) s
    → out ≡ put (λ (i : ℕ). hdr_channel v0 v1 (get_or weights (x + i) 0)) 0 (eights n) s
hdr-flat-is n x v0 v1 weights out s low same h =
    h ∙ put_same _ _ 0 (eights n) s (λ i l m. flat v0 (get_or weights (x + i) 0) (low (x + i)) ∙ rw same)

pub at_flat : (a b weights partitions : List ℕ) (x i : ℕ) → get_or weights (x + i) 0 ≤ 64 → get_or a 0 0 ≡ get_or b 0 0 → get_or partitions i 0 < 1
    → hdr_channel (get_or a 0 0) (get_or a 0 0) 0 ≡ hdr_at a b weights partitions x i
at_flat a b weights partitions x i low same h = flat (get_or a 0 0) (get_or weights (x + i) 0) low ∙ ap (λ (z : ℕ). hdr_channel (get_or a 0 0) z (get_or weights (x + i) 0)) same ∙ at_first a b weights partitions x i h

-- ---- a texel
hdr-word : (e : Endpoints) (r g b a : ℕ) → e.color ≡ Hdr → e.alpha ≡ Hdr
    → word_of (hdr_channel e.r0 e.r1 r) (hdr_channel e.g0 e.g1 g) (hdr_channel e.b0 e.b1 b) (hdr_channel e.a0 e.a1 a) ≡ word_by e r g b a
unfolding word_by channel_by
hdr-word e r g b a p q = rw (p, q)

module _ (n parts planes channel : ℕ) (ends : List Endpoints) (weights partitions : List ℕ) (given : PaintGiven n parts planes ends weights partitions) where
  -- a channel of texel i, of those of all
  channel-at : (φ ψ : Endpoints → ℕ) (v : Numbers) (x i : ℕ) (s : List ℕ) → v ≡ numbers_in φ ψ ends → s ≡ put (hdr_at v.first v.second weights partitions x) 0 (eights n) (replicate most_texels 0) → i < eights n
      → get_or s i 0 ≡ hdr_channel (φ (get_or ends (get_or partitions i 0) nothing)) (ψ (get_or ends (get_or partitions i 0) nothing)) (get_or weights (x + i) 0)
  channel-at φ ψ v x i s e h l =
      let p : get_or partitions i 0 < 4 = omega (arith, given.mapped i, given.four) in
      let m : eights n ≤ most_texels = omega (arith, given.few) in
      let f = hdr_at (field_of φ ends) (field_of ψ ends) weights partitions x in
      let t : s ≡ put f 0 (eights n) (replicate most_texels 0) = rw e at h in
      rw (t, zeros-at f (eights n) most_texels i m, lt-ltb i (eights n) l, field_at φ ends (get_or partitions i 0) p, field_at ψ ends (get_or partitions i 0) p)

  pub as-hdr : (k : Starts) (v : Channels) (r g b a out s : List ℕ) → AllOf 1 parts ends → k ≡ starts_of planes channel → v ≡ channels_in ends
      → r ≡ put (hdr_at v.r.first v.r.second weights partitions k.r) 0 (eights n) (replicate most_texels 0)
      → g ≡ put (hdr_at v.g.first v.g.second weights partitions k.g) 0 (eights n) (replicate most_texels 0)
      → b ≡ put (hdr_at v.b.first v.b.second weights partitions k.b) 0 (eights n) (replicate most_texels 0)
      → a ≡ put (hdr_at v.a.first v.a.second weights partitions k.a) 0 (eights n) (replicate most_texels 0)
      → out ≡ put (lane_at (word_among r g b a)) 0 (2 * eights n) s → out ≡ put (lane_at (texel_word ends weights partitions planes channel)) 0 (2 * eights n) s
  as-hdr k v r g b a out s all ek ev pr pg pb pa h = h ∙ put-lanes _ _ (eights n) s same
    where
      same : (i : ℕ) → i < eights n → word_among r g b a i ≡ texel_word ends weights partitions planes channel i
      same i l =
          let e = get_or ends (get_or partitions i 0) nothing in
          let m = both-hdr e.color e.alpha (all (get_or partitions i 0) (given.mapped i)) in
          rw (
            channel-at (λ (e : Endpoints). e.r0) (λ (e : Endpoints). e.r1) v.r k.r i r (ap (λ (c : Channels). c.r) ev) pr l,
            channel-at (λ (e : Endpoints). e.g0) (λ (e : Endpoints). e.g1) v.g k.g i g (ap (λ (c : Channels). c.g) ev) pg l,
            channel-at (λ (e : Endpoints). e.b0) (λ (e : Endpoints). e.b1) v.b k.b i b (ap (λ (c : Channels). c.b) ev) pb l,
            channel-at (λ (e : Endpoints). e.a0) (λ (e : Endpoints). e.a1) v.a k.a i a (ap (λ (c : Channels). c.a) ev) pa l,
          ) (hdr-word e _ _ _ _ m.0 m.1 ∙ by-starts planes channel ends weights partitions k ek i)
