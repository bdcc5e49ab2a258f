-- Every mode's endpoints lie within their marks' limits, for all bytes.
-- Assumes nothing.
use Rattle.std.specs.Prelude.{◌≡◌, Bool, true, false, cond, List, [], ◌∷◌, eqb, leb, ltb, get_or}
use Rattle.std.proofs.Math.Path.{refl}
use Prim.Native.Nat.{ℕ, zero, suc, ◌+◌, ◌*◌, ◌/◌, ◌%◌, ◌≤◌, ◌<◌}
use Rattle.std.proofs.Math.Nat.{mul-le-mul}
use native.Mathlib.Omega.{arith}
use Rattle.std.proofs.Common.{lit<}
use Rattle.std.proofs.lemmas.Bool.{eqb-false}
use Rattle.endpoints_colours.specs.Colours.{ldr, nothing}
use Rattle.endpoints_colours.specs.Bounds.{limit, InLimits}
use Rattle.endpoints_rules.specs.Ldr.{offset_of, clamped_pair, luminance, luminance_offset, luminance_alpha_offset, scaled, direct, offset}
use Rattle.endpoints_rules.specs.Hdr.{rgb, alphas, opaque, hdr, less, grey, luminance_large, luminance_small, swapped, seven_less, hdr7}
use Rattle.endpoints_rules.specs.Hdr11.{eleven_major, under, eleven_first, eleven_second, hdr11, plain_alphas, offset_alphas, hdr_alphas}
use Rattle.endpoints_hdr_eleven.specs.Hdr11Laws.{alphas-0, alphas-1, alphas-2}
use Rattle.endpoints_rules.specs.Modes.{by_mode, endpoints_of}
use Rattle.endpoints.specs.Endpoints.{values_at, count_to, partition_endpoints, endpoints_list}
use Rattle.endpoints_colours.specs.declared.Mark.TheVariants.{Hdr}
use Rattle.endpoints_colours.specs.declared.Endpoints.{Endpoints}
use Rattle.endpoints_rules.specs.declared.Rgb.{Rgb}
use Rattle.endpoints_rules.specs.declared.Seven.{Seven}
use Rattle.endpoints_colours.specs.declared.Rgba.{Rgba}
use Rattle.endpoints_colours.specs.declared.Values.{Values}
use Rattle.endpoints_colours.specs.declared.Alphas.{Alphas}

pub record Bytes (v : Values) : Type 0 where
  pub v0 : v.v0 < 256
  pub v1 : v.v1 < 256
  pub v2 : v.v2 < 256
  pub v3 : v.v3 < 256
  pub v4 : v.v4 < 256
  pub v5 : v.v5 < 256
  pub v6 : v.v6 < 256
  pub v7 : v.v7 < 256

-- ---- pairs
within-cond : (t : Bool) {a b : Endpoints} → InLimits a → InLimits b → InLimits (cond t a b)
within-cond true x y = x
within-cond false x y = y

record Under (n : ℕ) (c : Rgba) : Type 0 where
  r : c.r < n
  g : c.g < n
  b : c.b < n
  a : c.a < n

within-ldr : {c d : Rgba} → Under 256 c → Under 256 d → InLimits (ldr c d)
within-ldr p q = record { r0 = p.r; g0 = p.g; b0 = p.b; a0 = p.a; r1 = q.r; g1 = q.g; b1 = q.b; a1 = q.a }

within-clamped : (c d : Rgba) → InLimits (clamped_pair c d)
within-clamped c d = record { r0 = omega arith; g0 = omega arith; b0 = omega arith; a0 = omega arith; r1 = omega arith; g1 = omega arith; b1 = omega arith; a1 = omega arith }

record UnderHdr (c : Rgb) : Type 0 where
  r : c.r < 4096
  g : c.g < 4096
  b : c.b < 4096

record AlphasWithin (t : Alphas) : Type 0 where
  first : t.first < limit t.mark
  second : t.second < limit t.mark

within-hdr : {c d : Rgb} {t : Alphas} → UnderHdr c → UnderHdr d → AlphasWithin t → InLimits (hdr c d t)
within-hdr p q s = record { r0 = p.r; g0 = p.g; b0 = p.b; a0 = s.first; r1 = q.r; g1 = q.g; b1 = q.b; a1 = s.second }

-- ---- the modes of low dynamic range
module _ (v : Values) (h : Bytes v) where
  luminance-within : (a0 a1 : ℕ) → a0 < 256 → a1 < 256 → InLimits (luminance v.v0 v.v1 a0 a1)
  unfolding luminance
  luminance-within a0 a1 p q =
      within-ldr (record { r = h.v0; g = h.v0; b = h.v0; a = p }) (record { r = h.v1; g = h.v1; b = h.v1; a = q })

  luminance-offset-within : InLimits (luminance_offset v.v0 v.v1)
  unfolding luminance_offset luminance
  luminance-offset-within =
      within-ldr (record { r = omega arith; g = omega arith; b = omega arith; a = omega arith })
      (record { r = omega arith; g = omega arith; b = omega arith; a = omega arith })

  luminance-alpha-within : InLimits (luminance_alpha_offset v.v0 v.v1 v.v2 v.v3)
  unfolding luminance_alpha_offset
  luminance-alpha-within = within-clamped _ _

  scaled-within : (a0 a1 : ℕ) → a0 < 256 → a1 < 256 → InLimits (scaled v a0 a1)
  unfolding scaled
  scaled-within a0 a1 p q =
      let part : (x : ℕ) → x < 256 → x * v.v3 / 256 < 256 = λ x l. product x v.v3 l h.v3 in
      within-ldr (record { r = part v.v0 h.v0; g = part v.v1 h.v1; b = part v.v2 h.v2; a = p })
      (record { r = h.v0; g = h.v1; b = h.v2; a = q })
    where
      product : (x y : ℕ) → x < 256 → y < 256 → x * y / 256 < 256
      product x y l m =
          let a : x ≤ 255 = omega arith in
          let b : y ≤ 255 = omega arith in
          omega (arith, mul-le-mul a b)

  direct-within : (a0 a1 : ℕ) → a0 < 256 → a1 < 256 → InLimits (direct v a0 a1)
  unfolding direct
  direct-within a0 a1 p q =
      within-cond (leb (v.v0 + v.v2 + v.v4) (v.v1 + v.v3 + v.v5))
      (within-ldr (record { r = h.v0; g = h.v2; b = h.v4; a = p }) (record { r = h.v1; g = h.v3; b = h.v5; a = q }))
      (within-ldr (record { r = omega arith; g = omega arith; b = h.v5; a = q }) (record { r = omega arith; g = omega arith; b = h.v4; a = p }))

  offset-within : (a0 a1 : ℕ) → InLimits (offset v a0 a1)
  unfolding offset
  offset-within a0 a1 = within-cond (leb 96 (offset_of v.v1 + offset_of v.v3 + offset_of v.v5)) (within-clamped _ _) (within-clamped _ _)

-- ---- the modes of high dynamic range
opaque-within : AlphasWithin opaque
opaque-within = record { first = lit< tt; second = lit< tt }

grey-within : {x y : ℕ} → x < 4096 → y < 4096 → InLimits (grey x y)
grey-within p q = within-hdr (record { r = p; g = p; b = p }) (record { r = q; g = q; b = q }) opaque-within

swapped-under : (major : ℕ) {c : Rgb} → UnderHdr c → UnderHdr (swapped major c)
unfolding swapped
swapped-under major {c} p = go (eqb major 1) (eqb major 2)
  where
    go : (s t : Bool) → UnderHdr (cond s (rgb c.g c.r c.b) (cond t (rgb c.b c.g c.r) c))
    go true t = record { r = p.g; g = p.r; b = p.b }
    go false true = record { r = p.b; g = p.g; b = p.r }
    go false false = p

seven-under : (m : ℕ) (c : Seven) (s : ℕ) → UnderHdr (seven_less m c s)
unfolding seven_less
seven-under m c s = go (eqb m 5)
  where
    go : (t : Bool) → UnderHdr (cond t (rgb (less c.r s) (less c.g s) (less c.b s)) (rgb (less c.r s) (less c.r (c.g + s)) (less c.r (c.b + s))))
    go true = record { r = omega arith; g = omega arith; b = omega arith }
    go false = record { r = omega arith; g = omega arith; b = omega arith }

eleven-first-under : (m : ℕ) (v : Values) → UnderHdr (eleven_first m v)
unfolding eleven_first under
eleven-first-under m v = record { r = cut _ _; g = cut _ _; b = cut _ _ }
  where
    cut : (x y : ℕ) → less x y < 4096
    cut x y = omega arith

eleven-second-under : (m : ℕ) (v : Values) → UnderHdr (eleven_second m v)
unfolding eleven_second
eleven-second-under m v = record { r = cut _ _; g = cut _ _; b = cut _ _ }
  where
    cut : (x y : ℕ) → less x y < 4096
    cut x y = omega arith

offset-alphas-within : (m x y : ℕ) → m < 3 → x < 128 → y < 128 → AlphasWithin (offset_alphas m x y)
offset-alphas-within zero x y h p q = rw (← alphas-0 0 x y q refl) (record { first = omega arith; second = omega arith })
offset-alphas-within (suc zero) x y h p q = rw (← alphas-1 1 x y q refl) (record { first = omega arith; second = omega arith })
offset-alphas-within (suc (suc zero)) x y h p q = rw (← alphas-2 2 x y q refl) (record { first = omega arith; second = omega arith })
offset-alphas-within (suc (suc (suc m))) x y h p q = absurd (past h)
  where
    past : {m : ℕ} → suc (suc (suc m)) < 3 → ⊥
    past h = omega arith

module _ (v : Values) (h : Bytes v) where
  large-within : InLimits (luminance_large v.v0 v.v1)
  unfolding luminance_large
  large-within = within-cond (leb v.v0 v.v1) (grey-within (omega arith) (omega arith)) (grey-within (omega arith) (omega arith))

  small-within : InLimits (luminance_small v.v0 v.v1)
  unfolding luminance_small
  small-within = within-cond (leb 128 v.v0) (grey-within (omega arith) (omega arith)) (grey-within (omega arith) (omega arith))

  seven-within : InLimits (hdr7 v.v0 v.v1 v.v2 v.v3)
  unfolding hdr7
  seven-within = within-hdr (swapped-under _ (seven-under _ _ _)) (swapped-under _ (seven-under _ _ _)) opaque-within

  eleven-within : (t : Alphas) → AlphasWithin t → InLimits (hdr11 v t)
  unfolding hdr11
  eleven-within t s =
      within-cond (eqb (eleven_major v) 3) (within-hdr (record { r = omega arith; g = omega arith; b = omega arith }) (record { r = omega arith; g = omega arith; b = omega arith }) s)
      (within-hdr (swapped-under _ (eleven-first-under _ v)) (swapped-under _ (eleven-second-under _ v)) s)

  plain-alphas-within : AlphasWithin (plain_alphas v)
  plain-alphas-within = record { first = h.v6; second = h.v7 }

  hdr-alphas-within : AlphasWithin (hdr_alphas v)
  unfolding hdr_alphas
  hdr-alphas-within = go (eqb m 3) refl
    where
      m : ℕ
      m = v.v6 / 128 + v.v7 / 128 * 2

      go : (t : Bool) → eqb m 3 ≡ t → AlphasWithin (cond t (alphas (v.v6 % 128 * 32) (v.v7 % 128 * 32) Hdr) (offset_alphas m (v.v6 % 128) (v.v7 % 128)))
      go true e = record { first = omega arith; second = omega arith }
      go false e =
          let n : m ≡ 3 → ⊥ = eqb-false m 3 e in
          offset-alphas-within m (v.v6 % 128) (v.v7 % 128) (omega arith) (omega arith) (omega arith)

-- ---- every mode
abbrev Every : List Endpoints → Type 0
Every [] = Unit
Every (e ∷ es) = InLimits e × Every es

every-at : (es : List Endpoints) → Every es → (i : ℕ) → InLimits (get_or es i nothing)
every-at [] p i = record { r0 = lit< tt; g0 = lit< tt; b0 = lit< tt; a0 = lit< tt; r1 = lit< tt; g1 = lit< tt; b1 = lit< tt; a1 = lit< tt }
every-at (e ∷ es) p zero = p.0
every-at (e ∷ es) p (suc i) = every-at es p.1 i

pub mode-within : (m : ℕ) (v : Values) → Bytes v → InLimits (endpoints_of m v)
unfolding endpoints_of by_mode
mode-within m v h =
    let full : 255 < 256 = lit< tt in
    every-at (by_mode v) (
      luminance-within v h 255 255 full full,
      (
        luminance-offset-within v h,
        (
          large-within v h,
          (
            small-within v h,
            (
              luminance-within v h v.v2 v.v3 h.v2 h.v3,
              (
                luminance-alpha-within v h,
                (
                  scaled-within v h 255 255 full full,
                  (
                    seven-within v h,
                    (
                      direct-within v h 255 255 full full,
                      (
                        offset-within v h _ _,
                        (
                          scaled-within v h v.v4 v.v5 h.v4 h.v5,
                          (
                            eleven-within v h opaque opaque-within,
                            (
                              direct-within v h v.v6 v.v7 h.v6 h.v7,
                              (
                                offset-within v h _ _,
                                (eleven-within v h (plain_alphas v) (plain-alphas-within v h), (eleven-within v h (hdr_alphas v) (hdr-alphas-within v h), tt)),
                              ),
                            ),
                          ),
                        ),
                      ),
                    ),
                  ),
                ),
              ),
            ),
          ),
        ),
      ),
    )
    m

-- ---- every partition
pub partition-within : (parts : ℕ) (modes ev : List ℕ) → ((j : ℕ) → get_or ev j 0 < 256) → (i : ℕ) → InLimits (get_or (endpoints_list parts modes ev) i nothing)
unfolding endpoints_list partition_endpoints values_at
partition-within parts modes ev h i = every-at (endpoints_list parts modes ev) (one 0, (one 1, (one 2, (one 3, tt)))) i
  where
    bytes : (k : ℕ) → Bytes (values_at ev k)
    bytes k = record { v0 = h k; v1 = h (k + 1); v2 = h (k + 2); v3 = h (k + 3); v4 = h (k + 4); v5 = h (k + 5); v6 = h (k + 6); v7 = h (k + 7) }

    one : (i : ℕ) → InLimits (partition_endpoints parts modes ev i)
    one i = within-cond (ltb i parts) (mode-within (get_or modes i 0) (values_at ev (count_to modes i)) (bytes (count_to modes i))) (every-at [] tt 0)
