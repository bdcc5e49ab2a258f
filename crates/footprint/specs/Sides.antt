-- What is known of a listed footprint: its sides are among six, and the largest has 144 texels.
-- Assumes nothing.
use Rattle.std.specs.Prelude.{◌≡◌, refl, Bool, true, false, cond, ◌||◌, List, [], ◌∷◌, ℕ, ◌≤◌, ◌<◌, T, eqb, leb}
use Rattle.std.proofs.Common.{sym, ◌∙◌, mul-le-mul, arith, leb→le, ne_eqb}
use Rattle.std.proofs.lemmas.Bool.{false≢true}
use Rattle.std.proofs.Math.Decide.{dec_lt}
use Rattle.laws.specs.Table.{all, all-at, both, both_left, both_right, then, in_then}
use Rattle.footprint.specs.Footprints.{footprint, texels_of, most_texels, one_of2, listed}
use Rattle.footprint.specs.declared.Footprint.{Footprint}

abbrev pub is_in : ℕ → List ℕ → Bool
is_in n [] = false
is_in n (x ∷ xs) = eqb n x || is_in n xs

-- the sides that footprints have
abbrev pub sides : List ℕ
sides = 4 ∷ 5 ∷ 6 ∷ 8 ∷ 10 ∷ 12 ∷ []

unfoldable pub is_side : ℕ → Bool
is_side n = is_in n sides

pub record Sides (f : Footprint) : Type 0 where
  pub side : is_side f.width ≡ true
  pub side-high : is_side f.height ≡ true
  pub column : 0 < f.width
  pub row : 0 < f.height
  pub width : f.width ≤ 12
  pub height : f.height ≤ 12
  pub texels : texels_of f ≤ most_texels

-- ---- every listed footprint has such sides: tested at all sides up to 12
sides_test : ℕ → ℕ → Bool
unfolding listed one_of2 is_side
sides_test w h = then (listed (footprint w h)) (both (is_side w) (is_side h))

abbrev sides_at : ℕ → Bool
sides_at w = all (sides_test w) 13

-- no side is longer
wide-out : (w h : ℕ) → 13 ≤ w → listed (footprint w h) ≡ false
unfolding listed
wide-out w h l =
    rw (ne_eqb w 4 (λ e. omega arith), ne_eqb w 5 (λ e. omega arith), ne_eqb w 6 (λ e. omega arith), ne_eqb w 8 (λ e. omega arith), ne_eqb w 10 (λ e. omega arith), ne_eqb w 12 (λ e. omega arith))

neither : (b : Bool) → cond b false false ≡ false
neither true = refl
neither false = refl

high-out : (w h : ℕ) → 13 ≤ h → listed (footprint w h) ≡ false
unfolding listed one_of2
high-out w h l =
    rw (ne_eqb h 4 (λ e. omega arith), ne_eqb h 5 (λ e. omega arith), ne_eqb h 6 (λ e. omega arith), ne_eqb h 8 (λ e. omega arith), ne_eqb h 10 (λ e. omega arith), ne_eqb h 12 (λ e. omega arith))
    (simp neither)

is_true : (b : Bool) → T b → b ≡ true
is_true true t = refl
is_true false t = absurd t

-- no side is 0
side_test : ℕ → Bool
unfolding is_side
side_test n = then (is_side n) (leb 1 n)

side-some : (n : ℕ) → n < 13 → is_side n ≡ true → 0 < n
unfolding side_test
side-some n h e = leb→le 1 n (in_then (is_side n) (leb 1 n) (all-at side_test 13 tt n h) e)

pub sides-of : (f : Footprint) → listed f ≡ true → Sides f
unfolding sides_test
sides-of f e = go (dec_lt f.width 13) (dec_lt f.height 13)
  where
    go : Dec (f.width < 13) → Dec (f.height < 13) → Sides f
    go (no p) q = absurd (false≢true (sym (wide-out f.width f.height (omega arith)) ∙ e))
    go (yes p) (no q) = absurd (false≢true (sym (high-out f.width f.height (omega arith)) ∙ e))
    go (yes p) (yes q) =
        let w = f.width in
        let h = f.height in
        let t : T (both (is_side w) (is_side h)) = in_then (listed f) (both (is_side w) (is_side h)) (all-at (sides_test w) 13 (all-at sides_at 13 tt w p) h q) e in
        let s : is_side w ≡ true = is_true (is_side w) (both_left (is_side w) (is_side h) t) in
        let r : is_side h ≡ true = is_true (is_side h) (both_right (is_side w) (is_side h) t) in
        let u : w ≤ 12 = omega arith in
        let v : h ≤ 12 = omega arith in
        record {
          side = s;
          side-high = r;
          column = side-some w p s;
          row = side-some h q r;
          width = u;
          height = v;
          texels = mul-le-mul u v;
        }
