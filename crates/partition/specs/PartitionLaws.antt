-- The laws of partitions: the largest ramp as the code finds it, the rows of a footprint, and every partition below the count.
-- Assumes nothing.
use Rattle.std.specs.Prelude.{◌≡◌, refl, Bool, true, false, cond, ◌&&◌, ◌⊎◌, ℕ, ◌+◌, ◌-◌, ◌*◌, ◌/◌, ◌%◌, ◌≤◌, ◌<◌, max, leb, ltb, List}
use Rattle.std.specs.Int.{from_bool}
use Rattle.std.proofs.Common.{sym, ◌∙◌, inl, inr, zero-mul, arith, mul-le-mul, mul-add, mul-one}
use Rattle.std.proofs.Math.Decide.{dec_lt}
use borrow.Author.Tests.{leb-true, ltb-true, ltb-false, le-leb, lt-leb, lt-ltb, le-ltb}
use Rattle.laws.specs.Numbers.{choice}
use Rattle.laws.specs.Lists.{texels, put, put_at, put-row, put_same}
use Rattle.partition.specs.Partition.{seed_of, largest, select, scale_of, partition_at}
use Rattle.partition_ramps.specs.Ramps.{ramp}
use Rattle.partition_ramps.specs.Held.{Gentle, ramp_of, ramp_at}
use Rattle.partition_ramps.specs.RampLaws.{ramp-held}
use Rattle.partition_ramps.specs.declared.Ramp.{Ramp}
use Rattle.partition.specs.Rows.{of_two, of_four, moved_to, in_row_of_two, in_row_of_four}
use Rattle.footprint.specs.Footprints.{texels_of, most_texels}
use Rattle.footprint.specs.declared.Footprint.{Footprint}
use Rattle.footprint.specs.Sides.{Sides}

-- ---- the largest
-- as the code finds it: the larger of two pairs
pub largest-first : (a b c d : ℕ) → b ≤ a → c ≤ a → d ≤ a → 0 ≡ largest a b c d
unfolding largest
largest-first a b c d p q r = sym (simp (le-leb b a p, le-leb c a q, le-leb d a r))

pub largest-second : (a b c d : ℕ) → a < b → c ≤ b → d ≤ b → 1 ≡ largest a b c d
unfolding largest
largest-second a b c d p q r = sym (simp (lt-leb b a p, le-leb c b q, le-leb d b r))

-- neither a nor b
not-ab : (a b c d m : ℕ) (x : ℕ) → a < m → b < m → (m ≡ c) ⊎ (m ≡ d) → cond (leb b a && (leb c a && leb d a)) 0 (cond (leb c b && leb d b) 1 x) ≡ x
not-ab a b c d m x p q e = go (leb b a) (leb c a) (leb d a) (leb c b) (leb d b) (leb-true c a) (leb-true d a) (leb-true c b) (leb-true d b) e
  where
    two : (s u : Bool) → (s ≡ true → c ≤ b) → (u ≡ true → d ≤ b) → (m ≡ c) ⊎ (m ≡ d) → cond (s && u) 1 x ≡ x
    two true true hs hu (inl z) = absurd (let l : c ≤ b = hs refl in omega arith)
    two true true hs hu (inr z) = absurd (let l : d ≤ b = hu refl in omega arith)
    two true false hs hu z = refl
    two false u hs hu z = refl

    go : (s u v w y : Bool) → (u ≡ true → c ≤ a) → (v ≡ true → d ≤ a) → (w ≡ true → c ≤ b) → (y ≡ true → d ≤ b) → (m ≡ c) ⊎ (m ≡ d)
        → cond (s && (u && v)) 0 (cond (w && y) 1 x) ≡ x
    go true true true w y hu hv hw hy (inl z) = absurd (let l : c ≤ a = hu refl in omega arith)
    go true true true w y hu hv hw hy (inr z) = absurd (let l : d ≤ a = hv refl in omega arith)
    go true true false w y hu hv hw hy z = two w y hw hy z
    go true false v w y hu hv hw hy z = two w y hw hy z
    go false u v w y hu hv hw hy z = two w y hw hy z

pub largest-third : (a b c d : ℕ) → a < c → b < c → d ≤ c → 2 ≡ largest a b c d
unfolding largest
largest-third a b c d p q r = sym (not-ab a b c d c _ p q (inl refl) ∙ rw (le-leb d c r))

pub largest-fourth : (a b c d : ℕ) → a < d → b < d → c < d → 3 ≡ largest a b c d
unfolding largest
largest-fourth a b c d p q r = sym (not-ab a b c d d _ p q (inr refl) ∙ rw (lt-leb d c r))

-- ---- every partition is below the count
below-four : (a b c d : ℕ) → largest a b c d < 4
unfolding largest
below-four a b c d =
    choice (leb b a && (leb c a && leb d a)) 0 _ (omega arith) (choice (leb c b && leb d b) 1 _ (omega arith) (choice (leb d c) 2 3 (omega arith) (omega arith)))

below-three : (a b c : ℕ) → largest a b c 0 < 3
unfolding largest
below-three a b c = rw (le-leb 0 c (omega arith)) (choice (leb b a && (leb c a && leb 0 a)) 0 _ (omega arith) (choice (leb c b && leb 0 b) 1 2 (omega arith) (omega arith)))

below_two : (a b : ℕ) → largest a b 0 0 < 2
unfolding largest
below_two a b = rw (le-leb 0 b (omega arith)) (choice (leb b a && (leb 0 a && leb 0 a)) 0 1 (omega arith) (omega arith))

pub partition-below : (number parts : ℕ) (f : Footprint) (i : ℕ) → 2 ≤ parts → parts ≤ 4 → partition_at number parts f i < parts
unfolding partition_at select
partition-below number parts f i l h = go (dec_lt parts 3) (dec_lt parts 4)
  where
    r : ℕ → ℕ
    r k = ramp (seed_of number parts) parts k (scale_of f * (i % f.width)) (scale_of f * (i / f.width))

    go : Dec (parts < 3) → Dec (parts < 4) → largest (r 0) (r 1) (cond (ltb parts 3) 0 (r 2)) (cond (ltb parts 4) 0 (r 3)) < parts
    go (yes p) q = rw (lt-ltb parts 3 p, lt-ltb parts 4 (omega arith)) (omega (arith, below_two (r 0) (r 1)))
    go (no p) (yes q) = rw (le-ltb parts 3 (omega arith), lt-ltb parts 4 q) (omega (arith, below-three (r 0) (r 1) (r 2)))
    go (no p) (no q) = rw (le-ltb parts 3 (omega arith), le-ltb parts 4 (omega arith)) (omega (arith, below-four (r 0) (r 1) (r 2) (r 3)))

-- ---- each way out of the code
pub two-second : (a b : ℕ) → a < b → 1 ≡ largest a b 0 0
two-second a b h = largest-second a b 0 0 h (omega arith) (omega arith)

pub two-first : (a b : ℕ) → b ≤ a → 0 ≡ largest a b 0 0
two-first a b h = largest-first a b 0 0 h (omega arith) (omega arith)

pub four-last : (a b c d m n : ℕ) → m ≡ max a b → n ≡ max c d → m < n → c < d → 3 ≡ largest a b c d
four-last a b c d m n p q h l = largest-fourth a b c d (omega arith) (omega arith) l

pub four-third : (a b c d m n : ℕ) → m ≡ max a b → n ≡ max c d → m < n → d ≤ c → 2 ≡ largest a b c d
four-third a b c d m n p q h l = largest-third a b c d (omega arith) (omega arith) l

pub four-second : (a b c d m n : ℕ) → m ≡ max a b → n ≡ max c d → n ≤ m → a < b → 1 ≡ largest a b c d
four-second a b c d m n p q h l = largest-second a b c d l (omega arith) (omega arith)

pub four-first : (a b c d m n : ℕ) → m ≡ max a b → n ≡ max c d → n ≤ m → b ≤ a → 0 ≡ largest a b c d
four-first a b c d m n p q h l = largest-first a b c d l (omega arith) (omega arith)

-- the first pair by its comparison as a number
pub pair-by : (a b c d r : ℕ) → r ≡ from_bool (ltb a b) → c ≤ max a b → d ≤ max a b → r ≡ largest a b c d
pair-by a b c d r e h l = e ∙ go (ltb a b) refl
  where
    go : (t : Bool) → ltb a b ≡ t → from_bool t ≡ largest a b c d
    go true m =
        let k : a < b = ltb-true _ _ m in
        largest-second a b c d k (omega (arith, k, h)) (omega (arith, k, l))
    go false m =
        let k : b ≤ a = ltb-false _ _ m in
        largest-first a b c d k (omega (arith, k, h)) (omega (arith, k, l))

-- ---- a ramp's numbers stay small
pub gentle-mul : (b n : ℕ) → b ≤ 28 → n < 12 → b * n ≤ 308
gentle-mul b n h l = let m : n ≤ 11 = omega arith in mul-le-mul h m

-- ---- rows
-- a turn of the loop over the rows, from ramps that start in row y
pub two-turn : (a b m n : Ramp) (w y : ℕ) (s t u : List ℕ) → 0 < w → m ≡ moved_to a y → n ≡ moved_to b y → t ≡ put (texels (of_two a b) w) 0 (w * y) s
    → u ≡ put_at (in_row_of_two m n) (w * y) w t → u ≡ put (texels (of_two a b) w) 0 (w * (y + 1)) s
unfolding of_two put_at
two-turn a b m n w y s t u p em en et eu =
    eu ∙ rw (em, en, et) (put-row (of_two a b) (λ (k : ℕ). in_row_of_two (moved_to a y) (moved_to b y) (k - w * y)) w y s p (λ k l h. refl))

pub four-turn : (a b c d m n p q : Ramp) (w y : ℕ) (s t u : List ℕ) → 0 < w → m ≡ moved_to a y → n ≡ moved_to b y → p ≡ moved_to c y → q ≡ moved_to d y
    → t ≡ put (texels (of_four a b c d) w) 0 (w * y) s → u ≡ put_at (in_row_of_four m n p q) (w * y) w t
    → u ≡ put (texels (of_four a b c d) w) 0 (w * (y + 1)) s
unfolding of_four put_at
four-turn a b c d m n p q w y s t u l em en ep eq et eu =
    eu
    ∙ rw (em, en, ep, eq, et)
    (put-row (of_four a b c d) (λ (k : ℕ). in_row_of_four (moved_to a y) (moved_to b y) (moved_to c y) (moved_to d y) (k - w * y)) w y s l (λ k g h. refl))

pub moved-gentle : (k m : Ramp) (t : ℕ) → m ≡ moved_to k t → Gentle k → Gentle m
moved-gentle k m t e g = rw e (record { start = omega arith; along = g.along; down = g.down })

-- the rows of a footprint stay within the texels of the largest
pub row_fits : (f : Footprint) (t : ℕ) → Sides f → t < f.height → f.width * t + f.width ≤ most_texels
row_fits f t s h =
    let u : t + 1 ≤ 12 = omega (arith, s.height) in
    let m : f.width * (t + 1) ≤ most_texels = mul-le-mul s.width u in
    omega (arith, mul-add f.width t 1, mul-one f.width)

-- ---- rows
-- a turn of the loop over the rows, where g is the row y of f
pub row-turn : (f : ℕ → ℕ → ℕ) (g : ℕ → ℕ) (w y : ℕ) (s t u : List ℕ) → 0 < w → ((k : ℕ) → g k ≡ f k y) → t ≡ put (texels f w) 0 (w * y) s
    → u ≡ put_at g (w * y) w t → u ≡ put (texels f w) 0 (w * (y + 1)) s
unfolding put_at
row-turn f g w y s t u p same et eu = eu ∙ rw et (put-row f (λ (k : ℕ). g (k - w * y)) w y s p (λ k l h. same (k - w * y)))

-- ---- the whole
flat-zero : (s t : ℕ) → ramp_at (record { start = 0; along = 0; down = 0 }) s t ≡ 0
flat-zero s t = rw (zero-mul t, zero-mul s)

pub flat-gentle : Gentle (record { start = 0; along = 0; down = 0 })
flat-gentle = record { start = omega arith; along = omega arith; down = omega arith }

-- the three ways out, by the number of partitions
module _ (number parts scale : ℕ) (f : Footprint) (s u : List ℕ) (es : scale ≡ scale_of f) (h : scale ≤ 2) where
  abbrev Ramps : ℕ → Ramp → Type 0
  Ramps i k = k ≡ ramp_of (seed_of number parts) parts i scale

  value_of : (i : ℕ) (k : Ramp) → Ramps i k → (x y : ℕ) → ramp_at k x y ≡ ramp (seed_of number parts) parts i (scale * x) (scale * y)
  value_of i k e = (ramp-held (seed_of number parts) parts i scale k e h).value

  abbrev Put : (ℕ → ℕ) → Type 0
  Put g = u ≡ put g 0 (texels_of f) s

  pub of_two-is : (a b : Ramp) → parts ≡ 2 → Ramps 0 a → Ramps 1 b → Put (texels (of_two a b) f.width) → Put (partition_at number parts f)
  unfolding of_two partition_at select
  of_two-is a b e ra rb q =
      q ∙ put_same _ _ 0 (texels_of f) s
      (λ k l g. rw (lt-ltb parts 3 (omega arith), lt-ltb parts 4 (omega arith), value_of 0 a ra (k % f.width) (k / f.width), value_of 1 b rb (k % f.width) (k / f.width), es))

  pub of_three : (a b c : Ramp) → parts ≡ 3 → Ramps 0 a → Ramps 1 b → Ramps 2 c → Put (texels (of_four a b c (record { start = 0; along = 0; down = 0 })) f.width)
      → Put (partition_at number parts f)
  unfolding of_four partition_at select
  of_three a b c e ra rb rc q =
      q ∙ put_same _ _ 0 (texels_of f) s
      (λ k l g. rw (le-ltb parts 3 (omega arith), lt-ltb parts 4 (omega arith), value_of 0 a ra (k % f.width) (k / f.width), value_of 1 b rb (k % f.width) (k / f.width), value_of 2 c rc (k % f.width) (k / f.width), flat-zero (k % f.width) (k / f.width), es))

  pub of-four : (a b c d : Ramp) → 4 ≤ parts → Ramps 0 a → Ramps 1 b → Ramps 2 c → Ramps 3 d → Put (texels (of_four a b c d) f.width) → Put (partition_at number parts f)
  unfolding of_four partition_at select
  of-four a b c d e ra rb rc rd q =
      q ∙ put_same _ _ 0 (texels_of f) s
      (λ k l g. rw (le-ltb parts 3 (omega arith), le-ltb parts 4 (omega arith), value_of 0 a ra (k % f.width) (k / f.width), value_of 1 b rb (k % f.width) (k / f.width), value_of 2 c rc (k % f.width) (k / f.width), value_of 3 d rd (k % f.width) (k / f.width), es))

-- a count that is neither two nor three
pub last-count : (parts : ℕ) → 2 ≤ parts → (parts ≡ 2 → ⊥) → (parts ≡ 3 → ⊥) → 4 ≤ parts
last-count parts l p q = omega arith
