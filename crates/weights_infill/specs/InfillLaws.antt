-- Laws of the infill: factors add to 16 and keep weights within their bound.
-- Assumes nothing.
use Rattle.std.specs.Prelude.{◌≡◌, Bool, List, [], ◌∷◌, ℕ, ◌*◌, ◌/◌, ◌%◌, ◌≤◌, ◌<◌, ◌+◌, ◌-◌, zero, suc, eqb, T, leb, get_or}
use Rattle.std.proofs.Math.Path.{ap}
use Rattle.std.proofs.Common.{zero-le, add-mul, add-le-add, mul-le-mul_left, arith, leb→le, eqb→eq}
use Rattle.laws.specs.Table.{all, all-at}
use Rattle.weights_infill.specs.Infill.{factors, dot, infilled}
use Rattle.weights_infill.specs.Fast.{between}

-- ---- the bound: one law over factors that add to 16, however many

unfoldable pub total : List ℕ → ℕ
total [] = 0
total (f ∷ fs) = f + total fs

pub dot-le : (b : ℕ) (fs ps : List ℕ) → ((k : ℕ) → get_or ps k 0 ≤ b) → dot fs ps ≤ total fs * b
unfolding dot total
dot-le b [] ps h = zero-le
dot-le b (f ∷ fs) [] h = zero-le
dot-le b (f ∷ fs) (p ∷ ps) h =
    rw (add-mul f (total fs) b) (add-le-add (mul-le-mul_left f (h 0)) (dot-le b fs ps (λ k. h (suc k))))

pub infilled-le : (b : ℕ) (fs ps : List ℕ) → total fs ≡ 16 → ((k : ℕ) → get_or ps k 0 ≤ b) → infilled fs ps ≤ b
unfolding infilled
infilled-le b fs ps e h =
    let l : dot fs ps ≤ 16 * b = rw e at (dot-le b fs ps h) in
    omega arith

-- ---- the four factors of a place

-- they are no negative numbers, and add to 16
pub record Shares (f h : ℕ) : Type 0 where
  pub left : (f * h + 8) / 16 ≤ f
  pub down : (f * h + 8) / 16 ≤ h
  pub room : f + h ≤ 16 + (f * h + 8) / 16

abbrev left-test : ℕ → ℕ → Bool
left-test f h = leb ((f * h + 8) / 16) f

abbrev down-test : ℕ → ℕ → Bool
down-test f h = leb ((f * h + 8) / 16) h

abbrev room-test : ℕ → ℕ → Bool
room-test f h = leb (f + h) (16 + (f * h + 8) / 16)

-- a test of all pairs of sixteenths
pub sixteenths : (test : ℕ → ℕ → Bool) → T (all (λ (f : ℕ). all (test f) 16) 16) → (f h : ℕ) → f < 16 → h < 16 → T (test f h)
sixteenths test t f h l m = all-at (test f) 16 (all-at (λ (f : ℕ). all (test f) 16) 16 t f l) h m

pub shares : (f h : ℕ) → f < 16 → h < 16 → Shares f h
shares f h l m =
    record {
      left = leb→le _ f (sixteenths left-test tt f h l m);
      down = leb→le _ h (sixteenths down-test tt f h l m);
      room = leb→le (f + h) _ (sixteenths room-test tt f h l m);
    }

pub factors-total : (f h : ℕ) → f < 16 → h < 16 → total (factors f h) ≡ 16
unfolding factors total
factors-total f h l m = eqb→eq _ 16 (sixteenths (λ (f h : ℕ). eqb (total (factors f h)) 16) tt f h l m)

pub four-le : {b x y z w : ℕ} → x ≤ b → y ≤ b → z ≤ b → w ≤ b → (k : ℕ) → get_or (x ∷ y ∷ z ∷ w ∷ []) k 0 ≤ b
four-le x y z w zero = x
four-le x y z w (suc zero) = y
four-le x y z w (suc (suc zero)) = z
four-le x y z w (suc (suc (suc zero))) = w
four-le x y z w (suc (suc (suc (suc k)))) = zero-le

sum-of-four : (p q r s x y z w : ℕ) → x * p + y * q + z * r + w * s ≡ dot (p ∷ q ∷ r ∷ s ∷ []) (x ∷ y ∷ z ∷ w ∷ [])
unfolding dot
sum-of-four p q r s x y z w = omega arith

-- a weight between two pairs of bytes: a byte, and what the code computes
module _ (a b f h : ℕ) (l : f < 16) (m : h < 16) where
  pub between_le : a < 65536 → b < 65536 → between a b f h ≤ 255
  unfolding between
  between_le p q =
      infilled-le 255 (factors f h) _ (factors-total f h l m) (four-le (omega arith) (omega arith) (omega arith) (omega arith))

  pub between_is : (a % 256 * (16 - h - (f - (f * h + 8) / 16)) + a / 256 * (f - (f * h + 8) / 16) + b % 256 * (h - (f * h + 8) / 16) + b / 256 * ((f * h + 8) / 16) + 8) / 16 ≡ between a b f h
  unfolding between infilled factors
  between_is =
      let s = shares f h l m in
      let e : 16 - h - (f - (f * h + 8) / 16) ≡ 16 + (f * h + 8) / 16 - f - h = omega (arith, s) in
      ap (λ (x : ℕ). (x + 8) / 16) (rw e (sum-of-four _ _ _ _ (a % 256) (a / 256) (b % 256) (b / 256)))
