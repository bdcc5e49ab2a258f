-- Laws of the modes 11, 14 and 15: each component in closed form, for the sub-modes 0 to 7, held to the table.
-- Assumes nothing.
use Rattle.std.specs.Prelude.{◌≡◌, refl, cond, List, [], ◌∷◌, ℕ, zero, suc, ◌+◌, ◌*◌, ◌-◌, ◌/◌, ◌%◌, ◌^◌, ◌≤◌, ◌<◌, ltb, ◌⊎◌}
use Rattle.std.proofs.Common.{ap, add-zero, zero-mul, mul-le-mul_right, lit≤, pow_pos, pow_mono, lt-ltb, le-ltb, inl, inr}
use native.Mathlib.Omega.{arith}
use Rattle.std.proofs.Math.Decide.{dec_lt}
use Rattle.std.proofs.Math.ListN.{get_or}
use Rattle.std.proofs.Math.Pow.{mod-pow-add}
use Rattle.endpoints_rules.specs.Hdr.{given, less, rgb, alphas}
use Rattle.endpoints_colours.specs.declared.Mark.TheVariants.{Hdr}
use Rattle.endpoints_rules.specs.BitLaws.{bits-6, bits-7}
use Rattle.endpoints_rules.specs.Hdr11.{crate_offset, eleven_rows, offset_bits, eleven_part, eleven_a, eleven_b0, eleven_b1, eleven_c, eleven_d0, eleven_d1, up, under, eleven_first, eleven_second, offset_alphas}
use Rattle.endpoints_colours.specs.declared.Values.{Values}
use Rattle.endpoints_hdr_eleven.specs.declared.Eleven.{Eleven}

-- ---- closed forms
unfoldable pub bases : Values → List ℕ
bases v =
    let a = v.v0 + v.v1 / 64 % 2 * 256 in
    a
    ∷ a
    ∷ (a + v.v2 / 64 % 2 * 512)
    ∷ (a + v.v4 / 64 % 2 * 512)
    ∷ (a + v.v4 / 32 % 2 * 512 + v.v5 / 32 % 2 * 1024)
    ∷ (a + v.v2 / 64 % 2 * 512 + v.v3 / 64 % 2 * 1024)
    ∷ (a + v.v4 / 32 % 2 * 512 + v.v5 / 32 % 2 * 1024 + v.v4 / 64 % 2 * 2048)
    ∷ (a + v.v2 / 64 % 2 * 512 + v.v3 / 64 % 2 * 1024 + v.v4 / 64 % 2 * 2048)
    ∷ []

unfoldable pub differences : ℕ → ℕ → List ℕ
differences x y =
    (x % 128)
    ∷ (x % 128 + y / 64 % 2 * 128)
    ∷ (x % 64)
    ∷ (x % 128)
    ∷ (x % 128 + y / 64 % 2 * 128)
    ∷ (x % 64)
    ∷ (x % 128)
    ∷ (x % 64)
    ∷ []

unfoldable pub commons : Values → List ℕ
commons v =
    let c = v.v1 % 64 in
    let x5 = v.v5 / 64 % 2 * 64 in
    c ∷ c ∷ (c + v.v3 / 64 % 2 * 64) ∷ (c + x5) ∷ c ∷ (c + x5 + v.v4 / 64 % 2 * 128) ∷ (c + x5) ∷ (c + x5) ∷ []

abbrev pub kept : ℕ → ℕ → ℕ
kept d half = cond (ltb d half) d 4096

unfoldable pub offsets : ℕ → List ℕ
offsets x =
    kept (x % 128) 64
    ∷ kept (x % 64) 32
    ∷ kept (x % 128) 64
    ∷ kept (x % 64) 32
    ∷ kept (x % 32) 16
    ∷ kept (x % 64) 32
    ∷ kept (x % 32) 16
    ∷ kept (x % 64) 32
    ∷ []

unfoldable pub eleven_of : ℕ → Values → Eleven
eleven_of m v = record {
  a = up m (get_or (bases v) m 0);
  b0 = up m (get_or (differences v.v2 v.v4) m 0);
  b1 = up m (get_or (differences v.v3 v.v5) m 0);
  c = up m (get_or (commons v) m 0);
  d0 = up m (get_or (offsets v.v4) m 0);
  d1 = up m (get_or (offsets v.v5) m 0);
}

pub record ElevenBounds (e : Eleven) : Type 0 where
  pub a : e.a < 4096
  pub b0 : e.b0 < 2048
  pub b1 : e.b1 < 2048
  pub c : e.c < 2048
  pub d0 : e.d0 < 33281
  pub d1 : e.d1 < 33281

-- ---- the sub-modes one by one
pub below-8 : (P : ℕ → Type 0) → P 0 → P 1 → P 2 → P 3 → P 4 → P 5 → P 6 → P 7 → (m : ℕ) → m < 8 → P m
below-8 P a b c d e f g h zero l = a
below-8 P a b c d e f g h (suc zero) l = b
below-8 P a b c d e f g h (suc (suc zero)) l = c
below-8 P a b c d e f g h (suc (suc (suc zero))) l = d
below-8 P a b c d e f g h (suc (suc (suc (suc zero)))) l = e
below-8 P a b c d e f g h (suc (suc (suc (suc (suc zero))))) l = f
below-8 P a b c d e f g h (suc (suc (suc (suc (suc (suc zero)))))) l = g
below-8 P a b c d e f g h (suc (suc (suc (suc (suc (suc (suc zero))))))) l = h
below-8 P a b c d e f g h (suc (suc (suc (suc (suc (suc (suc (suc m)))))))) l = absurd (past l)
  where
    past : {m : ℕ} → suc (suc (suc (suc (suc (suc (suc (suc m))))))) < 8 → ⊥
    past l = omega arith

module _ (v : Values) where
  pub base-is : (m : ℕ) → m < 8 → eleven_a m v ≡ get_or (bases v) m 0
  unfolding eleven_part given eleven_rows bases
  base-is = below-8 _ (omega arith) (omega arith) (omega arith) (omega arith) (omega arith) (omega arith) (omega arith) (omega arith)

  pub b0-is : (m : ℕ) → m < 8 → eleven_b0 m v ≡ get_or (differences v.v2 v.v4) m 0
  unfolding eleven_part given eleven_rows differences
  b0-is =
      let l : v.v2 % 128 ≡ v.v2 / 64 % 2 * 64 + v.v2 % 64 = mod-pow-add v.v2 1 6 in
      below-8 _ (omega arith) (omega arith) (omega arith) (omega arith) (omega arith) (omega arith) (omega arith) (omega arith)

  pub b1-is : (m : ℕ) → m < 8 → eleven_b1 m v ≡ get_or (differences v.v3 v.v5) m 0
  unfolding eleven_part given eleven_rows differences
  b1-is =
      let l : v.v3 % 128 ≡ v.v3 / 64 % 2 * 64 + v.v3 % 64 = mod-pow-add v.v3 1 6 in
      below-8 _ (omega arith) (omega arith) (omega arith) (omega arith) (omega arith) (omega arith) (omega arith) (omega arith)

  pub c-is : (m : ℕ) → m < 8 → eleven_c m v ≡ get_or (commons v) m 0
  unfolding eleven_part given eleven_rows commons
  c-is = below-8 _ (omega arith) (omega arith) (omega arith) (omega arith) (omega arith) (omega arith) (omega arith) (omega arith)

  pub d0-is : (m : ℕ) → m < 8 → eleven_d0 m v ≡ v.v4 % 2 ^ get_or offset_bits m 0
  unfolding eleven_part given eleven_rows offset_bits
  d0-is =
      let s : v.v4 % 64 ≡ v.v4 % 32 + v.v4 / 32 % 2 * 32 = bits-6 v.v4 in
      let t : v.v4 % 128 ≡ v.v4 % 32 + v.v4 / 32 % 2 * 32 + v.v4 / 64 % 2 * 64 = bits-7 v.v4 in
      below-8 _ (omega arith) (omega arith) (omega arith) (omega arith) (omega arith) (omega arith) (omega arith) (omega arith)

  pub d1-is : (m : ℕ) → m < 8 → eleven_d1 m v ≡ v.v5 % 2 ^ get_or offset_bits m 0
  unfolding eleven_part given eleven_rows offset_bits
  d1-is =
      let s : v.v5 % 64 ≡ v.v5 % 32 + v.v5 / 32 % 2 * 32 = bits-6 v.v5 in
      let t : v.v5 % 128 ≡ v.v5 % 32 + v.v5 / 32 % 2 * 32 + v.v5 / 64 % 2 * 64 = bits-7 v.v5 in
      below-8 _ (omega arith) (omega arith) (omega arith) (omega arith) (omega arith) (omega arith) (omega arith) (omega arith)

pub base-small : (v : Values) → v.v0 < 256 → (m : ℕ) → m < 8 → up m (get_or (bases v) m 0) < 4096
unfolding bases
base-small v h = below-8 _ (omega arith) (omega arith) (omega arith) (omega arith) (omega arith) (omega arith) (omega arith) (omega arith)

bits-few : (m : ℕ) → m < 8 → get_or offset_bits m 0 ≤ 7
unfolding offset_bits
bits-few = below-8 _ (lit≤ tt) (lit≤ tt) (lit≤ tt) (lit≤ tt) (lit≤ tt) (lit≤ tt) (lit≤ tt) (lit≤ tt)

kept-is : (x m : ℕ) → m < 8 → kept (x % 2 ^ get_or offset_bits m 0) (2 ^ (get_or offset_bits m 0 - 1)) ≡ get_or (offsets x) m 0
unfolding offset_bits offsets
kept-is x = below-8 _ refl refl refl refl refl refl refl refl

-- ---- an offset from 4096 on makes the endpoint 0, so it may be cut to 4096
cut : (A B k n d : ℕ) → A < 4096 → 0 < k → n ≤ 7 → Dec (d < 2 ^ (n - 1)) → less (A + (crate_offset n d).minus * k) (B + (crate_offset n d).plus * k) ≡ less A (B + kept d (2 ^ (n - 1)) * k)
unfolding crate_offset
cut A B k n d h l b (yes p) = rw (lt-ltb _ _ p) (ap (λ (x : ℕ). less x (B + d * k)) (rw (zero-mul k) (add-zero A)))
cut A B k n d h l b (no p) =
    let w : 2 ^ n ≤ 128 = pow_mono b in
    let z : 0 * k ≡ 0 = zero-mul k in
    let big : 4096 ≤ d + 65536 - 2 ^ n = omega arith in
    let bigger : 4096 * k ≤ (d + 65536 - 2 ^ n) * k = mul-le-mul_right k big in
    let q : 2 ^ (n - 1) ≤ d = omega arith in
    rw (le-ltb d (2 ^ (n - 1)) q) (omega arith)

pub under-is : (m a b c n d : ℕ) → n ≤ 7 → up m a < 4096 → under m a b c (crate_offset n d) ≡ less (up m a) (up m b + up m c + up m (kept d (2 ^ (n - 1))))
unfolding under
under-is m a b c n d h l = cut (up m a) (up m b + up m c) (2 ^ (3 - m / 2)) n d l (pow_pos (3 - m / 2)) h (dec_lt d (2 ^ (n - 1)))

-- ---- the two colours by the closed forms
module _ (m : ℕ) (v : Values) (h : m < 8) (s : up m (get_or (bases v) m 0) < 4096) where
  pub first-is : eleven_first m v ≡ rgb (less (eleven_of m v).a (eleven_of m v).c) (less (eleven_of m v).a ((eleven_of m v).b0 + (eleven_of m v).c + (eleven_of m v).d0)) (less (eleven_of m v).a ((eleven_of m v).b1 + (eleven_of m v).c + (eleven_of m v).d1))
  unfolding eleven_first eleven_of
  first-is =
      let n : get_or offset_bits m 0 ≤ 7 = bits-few m h in
      rw (base-is v m h, b0-is v m h, b1-is v m h, c-is v m h, d0-is v m h, d1-is v m h, under-is m (get_or (bases v) m 0) (get_or (differences v.v2 v.v4) m 0) (get_or (commons v) m 0) (get_or offset_bits m 0) (v.v4 % 2 ^ get_or offset_bits m 0) n s, under-is m (get_or (bases v) m 0) (get_or (differences v.v3 v.v5) m 0) (get_or (commons v) m 0) (get_or offset_bits m 0) (v.v5 % 2 ^ get_or offset_bits m 0) n s, kept-is v.v4 m h, kept-is v.v5 m h)

  pub second_is : eleven_second m v ≡ rgb (eleven_of m v).a (less (eleven_of m v).a (eleven_of m v).b0) (less (eleven_of m v).a (eleven_of m v).b1)
  unfolding eleven_second eleven_of
  second_is =
      let e : less (up m (get_or (bases v) m 0)) 0 ≡ up m (get_or (bases v) m 0) = omega arith in
      rw (base-is v m h, b0-is v m h, b1-is v m h, e)

-- ---- the sub-modes that the code's last arms stand for
pub base-rest : (v : Values) (m : ℕ) → m < 8 → (m ≡ 2 → ⊥) → (m ≡ 3 → ⊥) → (m ≡ 4 → ⊥) → (m ≡ 5 → ⊥) → (m ≡ 6 → ⊥) → (m ≡ 7 → ⊥) → v.v0 + v.v1 / 64 % 2 * 256 ≡ get_or (bases v) m 0
unfolding bases
base-rest v =
    below-8 _ (λ a b c d e f. refl) (λ a b c d e f. refl) (λ a b c d e f. absurd (a refl)) (λ a b c d e f. absurd (b refl)) (λ a b c d e f. absurd (c refl))
    (λ a b c d e f. absurd (d refl)) (λ a b c d e f. absurd (e refl)) (λ a b c d e f. absurd (f refl))

-- with its bound
pub base-out : (v : Values) (m r : ℕ) → v.v0 < 256 → m < 8 → r ≡ get_or (bases v) m 0 → (r ≡ get_or (bases v) m 0) × (up m r < 4096)
base-out v m r h l e = (e, rw e (base-small v h m l))

pub common-rest : (v : Values) (m : ℕ) → m < 8 → (m ≡ 2 → ⊥) → (m ≡ 3 → ⊥) → (m ≡ 5 → ⊥) → (m ≡ 6 → ⊥) → (m ≡ 7 → ⊥) → v.v1 % 64 ≡ get_or (commons v) m 0
unfolding commons
common-rest v =
    below-8 _ (λ a b c d e. refl) (λ a b c d e. refl) (λ a b c d e. absurd (a refl)) (λ a b c d e. absurd (b refl)) (λ a b c d e. refl)
    (λ a b c d e. absurd (c refl)) (λ a b c d e. absurd (d refl)) (λ a b c d e. absurd (e refl))

pub difference-rest : (x y m : ℕ) → m < 8 → ((m ≡ 0) ⊎ ((m ≡ 3) ⊎ (m ≡ 6)) → ⊥) → ((m ≡ 1) ⊎ (m ≡ 4) → ⊥) → x % 64 ≡ get_or (differences x y) m 0
unfolding differences
difference-rest x y =
    below-8 _ (λ a b. absurd (a (inl refl))) (λ a b. absurd (b (inl refl))) (λ a b. refl) (λ a b. absurd (a (inr (inl refl)))) (λ a b. absurd (b (inr refl))) (λ a b. refl)
    (λ a b. absurd (a (inr (inr refl)))) (λ a b. refl)

pub offset-rest : (x m : ℕ) → m < 8 → ((m ≡ 0) ⊎ (m ≡ 2) → ⊥) → ((m ≡ 4) ⊎ (m ≡ 6) → ⊥) → kept (x % 64) 32 ≡ get_or (offsets x) m 0
unfolding offsets
offset-rest x =
    below-8 _ (λ a b. absurd (a (inl refl))) (λ a b. refl) (λ a b. absurd (a (inr refl))) (λ a b. refl) (λ a b. absurd (b (inl refl))) (λ a b. refl)
    (λ a b. absurd (b (inr refl))) (λ a b. refl)

-- ---- the alphas of mode 15, in each sub-mode
module _ (m x y : ℕ) (h : y < 128) where
  pub alphas-0 : m ≡ 0 → alphas ((x + y / 64 * 128) * 16) (less ((x + y / 64 * 128) * 16 + (y + 32) % 64 * 16) 512) Hdr ≡ offset_alphas m x y
  unfolding offset_alphas
  alphas-0 e = let s : y * 2 / 128 % 16 ≡ y / 64 = omega arith in rw (e, s)

  pub alphas-1 : m ≡ 1 → alphas ((x + y / 32 * 128) * 8) (less ((x + y / 32 * 128) * 8 + (y + 16) % 32 * 8) 128) Hdr ≡ offset_alphas m x y
  unfolding offset_alphas
  alphas-1 e = let s : y * 4 / 128 % 16 ≡ y / 32 = omega arith in rw (e, s)

  pub alphas-2 : m ≡ 2 → alphas ((x + y / 16 * 128) * 4) (less ((x + y / 16 * 128) * 4 + (y + 8) % 16 * 4) 32) Hdr ≡ offset_alphas m x y
  unfolding offset_alphas
  alphas-2 e = let s : y * 8 / 128 % 16 ≡ y / 16 = omega arith in rw (e, s)
