-- The table of marks, held to docs/SCOPE.md: HDR colours are made by the modes 2, 3, 7, 11, 14 and 15, HDR alphas by 2, 3, 7, 11 and 15.
-- Assumes nothing.
use Rattle.std.specs.Prelude.{◌≡◌, refl, Bool, true, false, cond, ◌⊎◌, List, [], ◌∷◌, ℕ, ◌<◌, T, eqb}
use Rattle.std.proofs.Common.{sym, subst, ap, inl, inr, eqb→eq, ⊎_elim}
use Rattle.std.proofs.lemmas.Bool.{false≢true}
use Rattle.laws.specs.Table.{all, all-at}
use Rattle.endpoints_colours.specs.Marks.{is_hdr, marks_table, marks_of}
use Rattle.endpoints_colours.specs.declared.Mark.TheVariants.{Ldr, Hdr}
use Rattle.endpoints_colours.specs.declared.Mark.{Mark}

-- m is x or one of xs
abbrev pub OneOf : ℕ → ℕ → List ℕ → Type 0
OneOf m x [] = m ≡ x
OneOf m x (y ∷ ys) = (m ≡ x) ⊎ OneOf m y ys

abbrev pub is_in : ℕ → ℕ → List ℕ → Bool
is_in m x [] = eqb m x
is_in m x (y ∷ ys) = cond (eqb m x) true (is_in m y ys)

one_of : (m x : ℕ) (xs : List ℕ) → T (is_in m x xs) → OneOf m x xs
one_of m x [] t = eqb→eq m x t
one_of m x (y ∷ ys) t = go (eqb m x) refl t (one_of m y ys)
  where
    go : (b : Bool) → eqb m x ≡ b → T (cond b true (is_in m y ys)) → (T (is_in m y ys) → OneOf m y ys) → OneOf m x (y ∷ ys)
    go true e t next = inl (eqb→eq m x (subst T (sym e) tt))
    go false e t next = inr (next t)

-- ---- the table has these marks at its sixteen places: computed
abbrev same : Bool → Bool → Bool
same true b = b
same false b = cond b false true

-- m makes HDR colours, and m makes LDR colours
abbrev pub HdrMode : ℕ → Type 0
HdrMode m = OneOf m 2 (3 ∷ 7 ∷ 11 ∷ 14 ∷ 15 ∷ [])

abbrev pub LdrMode : ℕ → Type 0
LdrMode m = OneOf m 0 (1 ∷ 4 ∷ 5 ∷ 6 ∷ 8 ∷ 9 ∷ 10 ∷ 12 ∷ 13 ∷ [])

pub colour_at : ℕ → Bool
unfolding marks_of marks_table
colour_at m = same (is_hdr (marks_of m).color) (is_in m 2 (3 ∷ 7 ∷ 11 ∷ 14 ∷ 15 ∷ []))

pub alpha_at : ℕ → Bool
unfolding marks_of marks_table
alpha_at m = same (is_hdr (marks_of m).alpha) (is_in m 2 (3 ∷ 7 ∷ 11 ∷ 15 ∷ []))

pub colour-rule : T (all colour_at 16)
unfolding colour_at
colour-rule = tt

pub alpha-rule : T (all alpha_at 16)
unfolding alpha_at
alpha-rule = tt

-- ---- so a mode's colour says which it is
same_true : (a b : Bool) → T (same a b) → a ≡ true → T b
same_true true b t e = t
same_true false b t e = absurd (false≢true e)

pub hdr-modes : (m : ℕ) → m < 16 → (marks_of m).color ≡ Hdr → HdrMode m
unfolding colour_at
hdr-modes m h e = one_of m 2 (3 ∷ 7 ∷ 11 ∷ 14 ∷ 15 ∷ []) (same_true (is_hdr (marks_of m).color) (is_in m 2 (3 ∷ 7 ∷ 11 ∷ 14 ∷ 15 ∷ [])) (all-at colour_at 16 colour-rule m h) (ap is_hdr e))

ldr_at : ℕ → Bool
unfolding marks_of marks_table
ldr_at m = cond (is_hdr (marks_of m).color) true (is_in m 0 (1 ∷ 4 ∷ 5 ∷ 6 ∷ 8 ∷ 9 ∷ 10 ∷ 12 ∷ 13 ∷ []))

pub ldr-modes : (m : ℕ) → m < 16 → (marks_of m).color ≡ Ldr → LdrMode m
unfolding ldr_at
ldr-modes m h e = one_of m 0 (1 ∷ 4 ∷ 5 ∷ 6 ∷ 8 ∷ 9 ∷ 10 ∷ 12 ∷ 13 ∷ []) (rw (ap is_hdr e) at (all-at ldr_at 16 tt m h))

-- ---- and a mode that is none of the six makes LDR colours
pub none-hdr : (m : ℕ) → m < 16 → (m ≡ 2 → ⊥) → (m ≡ 3 → ⊥) → (m ≡ 7 → ⊥) → (m ≡ 11 → ⊥) → (m ≡ 14 → ⊥) → (m ≡ 15 → ⊥) → false ≡ is_hdr (marks_of m).color
none-hdr m h n2 n3 n7 n11 n14 n15 = go (marks_of m).color (λ e. ⊎_elim n2 (⊎_elim n3 (⊎_elim n7 (⊎_elim n11 (⊎_elim n14 n15)))) (hdr-modes m h e))
  where
    go : (k : Mark) → (k ≡ Hdr → ⊥) → false ≡ is_hdr k
    go Ldr n = refl
    go Hdr n = absurd (n refl)

pub is-hdr : (k : Mark) → true ≡ is_hdr k → k ≡ Hdr
is-hdr Ldr e = absurd (false≢true (sym e))
is-hdr Hdr e = refl

pub is-ldr : (k : Mark) → false ≡ is_hdr k → k ≡ Ldr
is-ldr Ldr e = refl
is-ldr Hdr e = absurd (false≢true e)
