-- The ways out of an image's checks, and what an accepted image gives.
-- Assumes nothing.
use Rattle.std.specs.Prelude.{◌≡◌, Bool, true, false, cond, not, ◌&&◌, eqb, ltb}
use Rattle.std.proofs.Math.Path.{refl}
use Rattle.std.proofs.Common.{sym, ◌∙◌, suc-ne-zero, mul-le-mul, arith}
use Rattle.std.proofs.lemmas.Bool.{false≢true}
use Prim.Native.Nat.{ℕ, ◌+◌, ◌-◌, ◌*◌, ◌/◌, ◌≤◌, ◌<◌}
use Rattle.std.proofs.Math.Nat.{add-div_left}
use Rattle.std.proofs.Math.Decide.{dec_lt}
use borrow.Author.Tests.{eq-eqb, ne_eqb, eqb-true, lt-ltb, le-ltb, le-leb, lt-leb}
use Rattle.laws.specs.Numbers.{choice}
use Rattle.footprint.specs.Footprints.{listed}
use Rattle.footprint.specs.Sides.{Sides, sides-of}
use Rattle.image_shape.specs.Shapes.{along_of, total_of, pixels_of, longest_side, is_side, refusal_of, step_refusal}
use Rattle.image_shape.specs.declared.Shape.{Shape}

-- sides that have pixels, and of which no product leaves a word
pub record ShapeBounds (m : Shape) : Type 0 where
  pub width : (1 ≤ m.width) × (m.width ≤ longest_side)
  pub height : (1 ≤ m.height) × (m.height ≤ longest_side)
  pub sides : Sides m.footprint

-- an accepted image, with so many bytes and so many places for words
pub record Sized (m : Shape) (len places : ℕ) : Type 0 where
  pub footprint : listed m.footprint ≡ true
  pub width : (1 ≤ m.width) × (m.width ≤ longest_side)
  pub height : (1 ≤ m.height) × (m.height ≤ longest_side)
  pub bytes : len ≡ 16 * total_of m
  pub room : pixels_of m ≤ places

-- ---- a side
pub side-bounds : (n : ℕ) → is_side n ≡ true → (1 ≤ n) × (n ≤ longest_side)
side-bounds n e = go (dec_lt n 1) (dec_lt 4096 n)
  where
    go : Dec (n < 1) → Dec (4096 < n) → (1 ≤ n) × (n ≤ 4096)
    go (yes p) q = absurd (false≢true (rw (lt-leb 1 n p) at e))
    go (no p) (yes q) = absurd (false≢true (rw (le-leb 1 n (omega arith), lt-leb n 4096 q) at e))
    go (no p) (no q) = (omega arith, omega arith)

pub side-is : (n : ℕ) → (1 ≤ n) × (n ≤ longest_side) → is_side n ≡ true
side-is n h = rw (le-leb 1 n h.0, le-leb n 4096 h.1)

pub bounded_of : (m : Shape) → listed m.footprint ≡ true → is_side m.width ≡ true → is_side m.height ≡ true → ShapeBounds m
bounded_of m l w h = record { width = side-bounds m.width w; height = side-bounds m.height h; sides = sides-of m.footprint l }

-- ---- the checks
module _ (m : Shape) (len room : ℕ) where
  pub out-21 : listed m.footprint ≡ false → 21 ≡ refusal_of m len room
  unfolding refusal_of
  out-21 l = rw l

  module _ (l : listed m.footprint ≡ true) where
    pub out-wide : is_side m.width ≡ false → 30 ≡ refusal_of m len room
    unfolding refusal_of
    out-wide w = rw (l, w)

    pub out-high : is_side m.width ≡ true → is_side m.height ≡ false → 30 ≡ refusal_of m len room
    unfolding refusal_of
    out-high w h = rw (l, w, h)

    pub out-31 : (t : ℕ) → is_side m.width ≡ true → is_side m.height ≡ true → t ≡ total_of m → (len ≡ 16 * t → ⊥) → 31 ≡ refusal_of m len room
    unfolding refusal_of
    out-31 t w h e n = rw (l, w, h, ne_eqb len (16 * total_of m) (rw e at n))

    pub out-22 : (t : ℕ) → is_side m.width ≡ true → is_side m.height ≡ true → t ≡ total_of m → len ≡ 16 * t → room < pixels_of m → 22 ≡ refusal_of m len room
    unfolding refusal_of
    out-22 t w h e n r = rw (l, w, h, eq-eqb len (16 * total_of m) (rw e at n), lt-ltb room (pixels_of m) r)

    pub out-0 : (t : ℕ) → is_side m.width ≡ true → is_side m.height ≡ true → t ≡ total_of m → len ≡ 16 * t → pixels_of m ≤ room → 0 ≡ refusal_of m len room
    unfolding refusal_of
    out-0 t w h e n r = rw (l, w, h, eq-eqb len (16 * total_of m) (rw e at n), le-ltb room (pixels_of m) r)

-- no answer is larger
pub refusal-small : (m : Shape) (len room : ℕ) → refusal_of m len room < 35
unfolding refusal_of
refusal-small m len room =
    choice (not (listed m.footprint)) 21 _ (omega arith)
    (choice (not (is_side m.width && is_side m.height)) 30 _ (omega arith)
    (choice (not (eqb len (16 * total_of m))) 31 _ (omega arith) (choice (ltb room (pixels_of m)) 22 0 (omega arith) (omega arith))))

-- the refusal 0 says all
pub accepted : (m : Shape) (len room : ℕ) → refusal_of m len room ≡ 0 → Sized m len room
unfolding refusal_of
accepted m len room e = go (listed m.footprint) (is_side m.width) (is_side m.height) (eqb len (16 * total_of m)) (dec_lt room (pixels_of m)) refl refl refl refl e
  where
    go : (a w h t : Bool) → Dec (room < pixels_of m) → listed m.footprint ≡ a → is_side m.width ≡ w → is_side m.height ≡ h → eqb len (16 * total_of m) ≡ t
        → ◌≡◌ {A = ℕ} (cond (not a) 21 (cond (not (w && h)) 30 (cond (not t) 31 (cond (ltb room (pixels_of m)) 22 0)))) 0 → Sized m len room
    go false w h t r el ew eh et x = absurd (suc-ne-zero 20 x)
    go true false h t r el ew eh et x = absurd (suc-ne-zero 29 x)
    go true true false t r el ew eh et x = absurd (suc-ne-zero 29 x)
    go true true true false r el ew eh et x = absurd (suc-ne-zero 30 x)
    go true true true true (yes r) el ew eh et x = absurd (suc-ne-zero 21 (rw (lt-ltb room (pixels_of m) r) at x))
    go true true true true (no r) el ew eh et x =
        record { footprint = el; width = side-bounds m.width ew; height = side-bounds m.height eh; bytes = eqb-true len (16 * total_of m) et; room = omega arith }

-- and an image that is sized is accepted
pub sized-accepted : (m : Shape) (len room : ℕ) → Sized m len room → refusal_of m len room ≡ 0
sized-accepted m len room s =
    sym (out-0 m len room s.footprint (total_of m) (side-is m.width s.width) (side-is m.height s.height) refl s.bytes s.room)

pub sized-bounded : (m : Shape) (len places : ℕ) → Sized m len places → ShapeBounds m
sized-bounded m len places s = record { width = s.width; height = s.height; sides = sides-of m.footprint s.footprint }

-- it has a block
along-least : (n side : ℕ) → 1 ≤ n → 1 ≤ side → 1 ≤ along_of n side
along-least n side h k =
    let e : n + (side - 1) ≡ side + (n - 1) = omega arith in
    let d : (side + (n - 1)) / side ≡ (n - 1) / side + 1 = add-div_left (n - 1) k in
    rw e (omega (arith, d))

pub total-least : (m : Shape) → ShapeBounds m → 1 ≤ total_of m
total-least m b =
    let s = b.sides in
    mul-le-mul (along-least _ _ b.width.0 s.column) (along-least _ _ b.height.0 s.row)

-- an output of the same length has the same room
pub same-sized : (m : Shape) (len p q : ℕ) → Sized m len p → q ≡ p → Sized m len q
same-sized m len p q s e = rw e s

-- ---- the checks of a step
module _ (m : Shape) (next len blocks room : ℕ) where
  pub step-image : (a : ℕ) → a ≡ refusal_of m len room → (a ≡ 0 → ⊥) → a ≡ step_refusal m next len blocks room
  unfolding step_refusal
  step-image a e n = rw (sym e, ne_eqb a 0 n)

  module _ (z : refusal_of m len room ≡ 0) where
    pub step-33 : blocks ≡ 0 → 33 ≡ step_refusal m next len blocks room
    unfolding step_refusal
    step-33 b = rw (z, eq-eqb blocks 0 b)

    pub step-34 : (t : ℕ) → (blocks ≡ 0 → ⊥) → t ≡ total_of m → t < next → 34 ≡ step_refusal m next len blocks room
    unfolding step_refusal
    step-34 t b e l = rw (z, ne_eqb blocks 0 b, lt-ltb (total_of m) next (rw e at l))

    pub step-0 : (t : ℕ) → (blocks ≡ 0 → ⊥) → t ≡ total_of m → next ≤ t → 0 ≡ step_refusal m next len blocks room
    unfolding step_refusal
    step-0 t b e l = rw (z, ne_eqb blocks 0 b, le-ltb (total_of m) next (rw e at l))

  pub step_small : step_refusal m next len blocks room < 35
  unfolding step_refusal
  step_small =
      let a = refusal_of m len room in
      choice (not (eqb a 0)) a _ (refusal-small m len room) (choice (eqb blocks 0) 33 _ (omega arith) (choice (ltb (total_of m) next) 34 0 (omega arith) (omega arith)))

  -- a step that is not refused has an accepted image, and starts within it
  pub step-accepted : (r : ℕ) → r ≡ step_refusal m next len blocks room → r ≡ 0 → (Sized m len room) × (next ≤ total_of m)
  unfolding step_refusal
  step-accepted r e z = go (eqb a 0) (eqb blocks 0) (dec_lt (total_of m) next) refl (sym e ∙ z)
    where
      a : ℕ
      a = refusal_of m len room

      go : (t b : Bool) → Dec (total_of m < next) → eqb a 0 ≡ t → cond (not t) a (cond b 33 (cond (ltb (total_of m) next) 34 0)) ≡ 0 → (Sized m len room) × (next ≤ total_of m)
      go false b l x e = absurd (false≢true (sym x ∙ eq-eqb a 0 e))
      go true true l x e = absurd (suc-ne-zero 32 e)
      go true false (yes l) x e = absurd (suc-ne-zero 33 (rw (lt-ltb (total_of m) next l) at e))
      go true false (no l) x e = (accepted m len room (eqb-true a 0 x), omega arith)
