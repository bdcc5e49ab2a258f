-- The laws of numbers that come four a texel: the four stores of a turn, and what they depend on.
-- Assumes nothing.
use Rattle.std.specs.Prelude.{◌≡◌, refl, List, [], ◌∷◌, ℕ, zero, suc, ◌+◌, ◌*◌, ◌/◌, ◌%◌, ◌≤◌, ◌<◌, get_or, length, replicate, drop, ◌++◌}
use Rattle.std.proofs.Common.{sym, ap, ◌∙◌, zero-le, add-one, arith}
use Rattle.std.proofs.lemmas.List.Edits.{fill_more}
use Rattle.laws.specs.Lists.{put, put-none, put-turn, put_same}
use Rattle.channels.specs.Channels.{number_of}
use Rattle.channels.specs.declared.Samples.{Samples}
use Rattle.texels_numbers.specs.Numbers.{four_of, fours, four_at}
use Rattle.texels_numbers.specs.declared.Four.{Four}

-- the numbers of a texel's samples x, which are t
pub four-told : (x t : Samples) {r g b a : ℕ} → x ≡ t → r ≡ number_of x.r → g ≡ number_of x.g → b ≡ number_of x.b → a ≡ number_of x.a
    → record { r = r; g = g; b = b; a = a } ≡ four_of t
four-told x t e er eg eb ea = rw (er, eg, eb, ea, e)

-- ---- a turn of a loop with four stores: the numbers of texel i
module _ (f : ℕ → Four) (i : ℕ) where
  number_at : (k j : ℕ) → j % 4 ≡ k → j / 4 ≡ i → fours f j ≡ get_or ((f i).r ∷ (f i).g ∷ (f i).b ∷ (f i).a ∷ []) k 0
  unfolding fours
  number_at k j m d = rw (m, d)

  pub four-stores : (s t : List ℕ) (x : Four) → t ≡ put (fours f) 0 (4 * i) s → x ≡ f i → four_at t i x ≡ put (fours f) 0 (4 * (i + 1)) s
  four-stores s t x h e =
      let a = put-turn (fours f) 0 (4 * i) x.r s t h zero-le (ap (λ (y : Four). y.r) e ∙ sym (number_at 0 (4 * i) (omega arith) (omega arith))) in
      let b = put-turn (fours f) 0 (4 * i + 1) x.g s _ a zero-le (ap (λ (y : Four). y.g) e ∙ sym (number_at 1 (4 * i + 1) (omega arith) (omega arith))) in
      let p : 4 * i + 1 + 1 ≡ 4 * i + 2 = omega arith in
      let c = put-turn (fours f) 0 (4 * i + 2) x.b s _ (rw p at b) zero-le (ap (λ (y : Four). y.b) e ∙ sym (number_at 2 (4 * i + 2) (omega arith) (omega arith))) in
      let q : 4 * i + 2 + 1 ≡ 4 * i + 3 = omega arith in
      let r : 4 * i + 3 + 1 ≡ 4 * (i + 1) = omega arith in
      rw r at (put-turn (fours f) 0 (4 * i + 3) x.a s _ (rw q at c) zero-le (ap (λ (y : Four). y.a) e ∙ sym (number_at 3 (4 * i + 3) (omega arith) (omega arith))))

-- what is put depends on the four numbers of each texel alone
pub fours-same : (f g : ℕ → Four) (n : ℕ) (s : List ℕ) → ((i : ℕ) → i < n → f i ≡ g i) → put (fours f) 0 (4 * n) s ≡ put (fours g) 0 (4 * n) s
unfolding fours
fours-same f g n s same = put_same _ _ 0 (4 * n) s (λ j l h. ap (λ (x : Four). get_or (x.r ∷ x.g ∷ x.b ∷ x.a ∷ []) (j % 4) 0) (same (j / 4) (omega arith)))

-- one number in the first n places
pub filled_is : (w n : ℕ) (s : List ℕ) → n ≤ length s → replicate n w ++ drop n s ≡ put (λ (i : ℕ). w) 0 n s
filled_is w zero s h = put-none (λ (i : ℕ). w) 0 s
filled_is w (suc n) s h =
    let l : n < length s = omega arith in
    rw add-one at (sym (fill_more n w s l) ∙ put-turn (λ (i : ℕ). w) 0 n w s _ (filled_is w n s (omega arith)) zero-le refl)
