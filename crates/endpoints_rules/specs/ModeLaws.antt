-- The marks of every mode's endpoints, for all values, are those of the table.
-- Assumes nothing.
use Rattle.std.specs.Prelude.{◌≡◌, refl, Bool, true, false, cond, List, [], ◌∷◌, ℕ, zero, suc, ◌/◌, ◌*◌, ◌+◌, eqb, leb, get_or}
use Rattle.std.proofs.Common.{ap, ◌∙◌}
use Rattle.endpoints_colours.specs.Colours.{nothing}
use Rattle.endpoints_colours.specs.Marks.{Marks, marks, marks_table, marks_of, marks_in}
use Rattle.endpoints_colours.specs.declared.Mark.{Mark}
use Rattle.endpoints_colours.specs.declared.Mark.TheVariants.{Ldr, Hdr}
use Rattle.endpoints_colours.specs.declared.Alphas.{Alphas}
use Rattle.endpoints_colours.specs.declared.Endpoints.{Endpoints}
use Rattle.endpoints_colours.specs.declared.Values.{Values}
use Rattle.endpoints_rules.specs.Ldr.{offset_of, luminance, luminance_offset, luminance_alpha_offset, scaled, direct, offset}
use Rattle.endpoints_rules.specs.Hdr.{luminance_large, luminance_small, hdr7}
use Rattle.endpoints_rules.specs.Hdr11.{eleven_major, hdr11, offset_alphas, hdr_alphas}
use Rattle.endpoints_rules.specs.Modes.{by_mode, endpoints_of}

-- a choice of two with the same marks
either : {k : Marks} (b : Bool) (e f : Endpoints) → marks_in e ≡ k → marks_in f ≡ k → marks_in (cond b e f) ≡ k
either true e f p q = p
either false e f p q = q

eleven : (v : Values) (t : Alphas) → marks_in (hdr11 v t) ≡ marks Hdr t.mark
unfolding hdr11
eleven v t = either (eqb (eleven_major v) 3) _ _ refl refl

either-mark : {m : Mark} (b : Bool) (t u : Alphas) → t.mark ≡ m → u.mark ≡ m → (cond b t u).mark ≡ m
either-mark true t u p q = p
either-mark false t u p q = q

alphas-hdr : (v : Values) → (hdr_alphas v).mark ≡ Hdr
unfolding hdr_alphas offset_alphas
alphas-hdr v = either-mark (eqb (v.v6 / 128 + v.v7 / 128 * 2) 3) _ _ refl refl

large : (v0 v1 : ℕ) → marks_in (luminance_large v0 v1) ≡ marks Hdr Hdr
unfolding luminance_large
large v0 v1 = either (leb v0 v1) _ _ refl refl

small : (v0 v1 : ℕ) → marks_in (luminance_small v0 v1) ≡ marks Hdr Hdr
unfolding luminance_small
small v0 v1 = either (leb 128 v0) _ _ refl refl

plain : (v : Values) (a0 a1 : ℕ) → marks_in (direct v a0 a1) ≡ marks Ldr Ldr
unfolding direct
plain v a0 a1 = either (leb (v.v0 + v.v2 + v.v4) (v.v1 + v.v3 + v.v5)) _ _ refl refl

moved : (v : Values) (a0 a1 : ℕ) → marks_in (offset v a0 a1) ≡ marks Ldr Ldr
unfolding offset
moved v a0 a1 = either (leb 96 (offset_of v.v1 + offset_of v.v3 + offset_of v.v5)) _ _ refl refl

-- the marks of a list of endpoints, entry by entry
abbrev Alike : List Endpoints → List Marks → Type 0
Alike [] [] = Unit
Alike [] (k ∷ ks) = ⊥
Alike (e ∷ es) [] = ⊥
Alike (e ∷ es) (k ∷ ks) = (marks_in e ≡ k) × Alike es ks

alike_at : (es : List Endpoints) (ks : List Marks) → Alike es ks → (i : ℕ) → marks_in (get_or es i nothing) ≡ get_or ks i (marks Ldr Ldr)
alike_at [] [] a i = refl
alike_at [] (k ∷ ks) a i = absurd a
alike_at (e ∷ es) [] a i = absurd a
alike_at (e ∷ es) (k ∷ ks) a zero = a.0
alike_at (e ∷ es) (k ∷ ks) a (suc i) = alike_at es ks a.1 i

pub marks-are : (mode : ℕ) (v : Values) → marks_in (endpoints_of mode v) ≡ marks_of mode
unfolding endpoints_of by_mode marks_of marks_table luminance luminance_offset luminance_alpha_offset scaled hdr7
marks-are mode v =
    alike_at (by_mode v) marks_table
    (refl, (refl, (large v.v0 v.v1, (small v.v0 v.v1, (refl, (refl, (refl, (refl, (plain v _ _, (moved v _ _, (refl, (eleven v _, (plain v _ _, (moved v _ _, (eleven v _, (eleven v _ ∙ ap (marks Hdr) (alphas-hdr v), tt))))))))))))))))
    mode
