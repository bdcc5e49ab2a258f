-- The laws of LDR texels: plain endpoints, what a turn of a loop stores, and that each form of a texel's word is the definition.
-- Assumes nothing.
use Rattle.std.specs.Prelude.{◌≡◌, Bool, true, false, cond, List, ℕ, ◌+◌, ◌*◌, ◌/◌, ◌%◌, ◌≤◌, ◌<◌, eqb, get_or, set}
use Rattle.std.proofs.Common.{◌∙◌, zero-add, arith, sym, ap}
use Rattle.footprint.specs.Footprints.{most_texels}
use Rattle.endpoints_colours.specs.Bounds.{InLimits, limit}
use Rattle.endpoints_colours.specs.Colours.{nothing}
use Rattle.endpoints_colours.specs.declared.Mark.{Mark}
use Rattle.endpoints_colours.specs.declared.Mark.TheVariants.{Ldr}
use Rattle.endpoints_colours.specs.declared.Endpoints.{Endpoints}
use Rattle.texels.specs.Texels.{channel_by, word_by, plane_of, texel_word}
use Rattle.texels.specs.PaintGiven.{PaintGiven}
use Rattle.texels.specs.Kinds.{starts_of, word_at, kind_of, AllOf, either_of, any_of}
use Rattle.texels.specs.PaintLaws.{low-lane, high_lane}
use Rattle.texels.specs.KindLaws.{both-ldr, either-entry, any_entry}
use Rattle.texels.specs.TexelLaws.{texel-is, by-starts, painted}
use Rattle.texels.specs.declared.Starts.{Starts}
use Rattle.texels_ldr.specs.Plain.{Plain, word_one, ldr_pair}
use Rattle.laws.specs.Lists.{put}
use Rattle.lanes.specs.Lanes.{lane_at, eights}
use Rattle.lanes.specs.LaneLaws.{two-stores}

-- ---- plain endpoints
byte : {m : Mark} {v : ℕ} → m ≡ Ldr → v < limit m → v ≤ 255
byte e h =
    let l = rw e at h in
    omega arith

is_plain : (e : Endpoints) → InLimits e → kind_of e ≡ 0 → Plain e
is_plain e h k =
    let m = both-ldr e.color e.alpha k in
    let c = m.0 in
    let a = m.1 in record {
      color = c;
      alpha = a;
      r0 = byte c h.r0;
      g0 = byte c h.g0;
      b0 = byte c h.b0;
      a0 = byte a h.a0;
      r1 = byte c h.r1;
      g1 = byte c h.g1;
      b1 = byte c h.b1;
      a1 = byte a h.a1;
    }

pub plain-either : (p : ℕ) (a b : Endpoints) → Plain a → Plain b → Plain (either_of p a b)
plain-either p a b h l = go (eqb p 0)
  where
    go : (t : Bool) → Plain (cond t a b)
    go true = h
    go false = l

-- endpoints made of the numbers of e
pub numbers_of : (e : Endpoints) → Plain e → {r0 g0 b0 a0 r1 g1 b1 a1 : ℕ} → r0 ≡ e.r0 → g0 ≡ e.g0 → b0 ≡ e.b0 → a0 ≡ e.a0 → r1 ≡ e.r1 → g1 ≡ e.g1 → b1 ≡ e.b1 → a1 ≡ e.a1
    → ◌≡◌ {A = Endpoints} (record { r0 = r0; g0 = g0; b0 = b0; a0 = a0; r1 = r1; g1 = g1; b1 = b1; a1 = a1; color = Ldr; alpha = Ldr }) e
numbers_of e h p0 p1 p2 p3 p4 p5 p6 p7 = rw (p0, p1, p2, p3, p4, p5, p6, p7) (go Ldr Ldr h.color h.alpha)
  where
    go : (c m : Mark) → e.color ≡ c → e.alpha ≡ m
        → ◌≡◌ {A = Endpoints} (record { r0 = e.r0; g0 = e.g0; b0 = e.b0; a0 = e.a0; r1 = e.r1; g1 = e.g1; b1 = e.b1; a1 = e.a1; color = c; alpha = m }) e
    go c m p q = rw (← p, ← q)

-- ---- the lanes of an LDR texel
module _ (e : Endpoints) (h : Plain e) (r g b a : ℕ) where
  pub ldr-low : word_by e r g b a % 65536 ≡ ldr_pair e.b0 e.b1 e.g0 e.g1 b g
  unfolding channel_by
  ldr-low = low-lane e r g b a ∙ rw h.color

  pub ldr-high : word_by e r g b a / 65536 ≡ ldr_pair e.r0 e.r1 e.a0 e.a1 r a
  unfolding channel_by
  ldr-high = high_lane e r g b a ∙ rw (h.color, h.alpha)

-- the code's endpoints d and weights are the definition's e and its weights
pub ldr-stores : (f : ℕ → ℕ) (d e : Endpoints) (i : ℕ) {r g b a r' g' b' a' x y : ℕ} (s t : List ℕ) → Plain e → t ≡ put (lane_at f) 0 (2 * i) s → word_by e r' g' b' a' ≡ f i
    → d ≡ e → r ≡ r' → g ≡ g' → b ≡ b' → a ≡ a' → x ≡ ldr_pair d.b0 d.b1 d.g0 d.g1 b g → y ≡ ldr_pair d.r0 d.r1 d.a0 d.a1 r a
    → set (set t (2 * i) x) (2 * i + 1) y ≡ put (lane_at f) 0 (2 * (i + 1)) s
ldr-stores f d e i {r' = r} {g' = g} {b' = b} {a' = a} {x} {y} s t h l q ed er eg eb ea p o =
    let low = rw (ed, eb, eg) at p in
    let high = rw (ed, er, ea) at o in
    two-stores f i x y s t l (low ∙ sym (ldr-low e h r g b a) ∙ ap (λ (z : ℕ). z % 65536) q) (high ∙ sym (ldr-high e h r g b a) ∙ ap (λ (z : ℕ). z / 65536) q)

-- the lanes of one word are those of an equal one
pub lanes-same : {x y : ℕ} (r : ℕ × ℕ) → x ≡ y → r.0 ≡ x % 65536 → r.1 ≡ x / 65536 → (r.0 ≡ y % 65536) × (r.1 ≡ y / 65536)
lanes-same r e low high = rw (← e) (low, high)

-- ---- the forms of a texel's word
-- of one plane, every channel's weights start at 0
one-plane : (planes channel k i : ℕ) → planes ≡ 1 → most_texels * plane_of planes channel k + i ≡ i
unfolding plane_of
one-plane planes channel k i e = rw e (zero-add i)

module _ (n parts planes channel : ℕ) (ends : List Endpoints) (weights partitions : List ℕ) (given : PaintGiven n parts planes ends weights partitions) where
  by_one : planes ≡ 1 → (i : ℕ) → word_one (get_or ends (get_or partitions i 0) nothing) weights i ≡ texel_word ends weights partitions planes channel i
  by_one e i = rw (texel-is planes channel ends weights partitions i, one-plane planes channel 0 i e, one-plane planes channel 1 i e, one-plane planes channel 2 i e, one-plane planes channel 3 i e)

  pub below_four : (i : ℕ) → get_or partitions i 0 < 4
  below_four i = omega (arith, given.mapped i, given.four)

  -- of one partition every texel has the first's endpoints
  first : parts ≡ 1 → (i : ℕ) → get_or partitions i 0 ≡ 0
  first e i = omega (arith, given.mapped i)

  -- the code's forms of a texel's word: of one partition and one plane, of one partition, of two partitions and one plane, and of any
  pub as_one : parts ≡ 1 → planes ≡ 1 → (i : ℕ) → word_one (get_or ends 0 nothing) weights i ≡ texel_word ends weights partitions planes channel i
  as_one p q i = rw (first p i) at (by_one q i)

  pub as-planes : (k : Starts) → k ≡ starts_of planes channel → parts ≡ 1 → (i : ℕ) → word_at (get_or ends 0 nothing) weights k i ≡ texel_word ends weights partitions planes channel i
  as-planes k e p i = rw (first p i) at (by-starts planes channel ends weights partitions k e i)

  pub as-two : parts ≡ 2 → planes ≡ 1 → (i : ℕ)
      → word_one (either_of (get_or partitions i 0) (get_or ends 0 nothing) (get_or ends 1 nothing)) weights i ≡ texel_word ends weights partitions planes channel i
  as-two p q i = let l : get_or partitions i 0 < 2 = omega (arith, given.mapped i) in rw (either-entry ends nothing (get_or partitions i 0) l) (by_one q i)

  pub as-four : (k : Starts) → k ≡ starts_of planes channel → (i : ℕ)
      → word_at (any_of (get_or partitions i 0) (get_or ends 0 nothing) (get_or ends 1 nothing) (get_or ends 2 nothing) (get_or ends 3 nothing) nothing) weights k i ≡ texel_word ends weights partitions planes channel i
  as-four k e i = rw (any_entry ends nothing (get_or partitions i 0) (below_four i)) (by-starts planes channel ends weights partitions k e i)

  -- the endpoints in use
  pub plain_at : AllOf 0 parts ends → (p : ℕ) → p < parts → Plain (get_or ends p nothing)
  plain_at all p h = is_plain (get_or ends p nothing) (given.within p) (all p h)

  -- those of a texel, of two partitions and of any
  pub plain-two : AllOf 0 parts ends → parts ≡ 2 → (i : ℕ) → Plain (either_of (get_or partitions i 0) (get_or ends 0 nothing) (get_or ends 1 nothing))
  plain-two all e i = plain-either (get_or partitions i 0) _ _ (plain_at all 0 (omega arith)) (plain_at all 1 (omega arith))

  pub plain-four : AllOf 0 parts ends → (i : ℕ)
      → Plain (any_of (get_or partitions i 0) (get_or ends 0 nothing) (get_or ends 1 nothing) (get_or ends 2 nothing) (get_or ends 3 nothing) nothing)
  plain-four all i = rw (any_entry ends nothing (get_or partitions i 0) (below_four i)) (plain_at all (get_or partitions i 0) (given.mapped i))
