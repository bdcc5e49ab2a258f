-- The laws of samples in lanes: where each stands, and that they are no others than those that were put.
-- Assumes nothing.
use Rattle.std.specs.Prelude.{◌≡◌, get_or, length}
use Rattle.std.proofs.Common.{ap, ◌∙◌, arith}
use mathlib.Core.List.{List}
use Prim.Native.Nat.{ℕ, zero, suc, ◌+◌, ◌-◌, ◌*◌, ◌≤◌, ◌<◌}
use Rattle.laws.specs.Lists.{put_at, put_in, put-before, put_same, length-put_at}
use Rattle.footprint.specs.Footprints.{most_texels}
use Rattle.lanes.specs.Lanes.{most_lanes, eights}
use Rattle.texels.specs.Samples.{channel_in, samples_in}

-- ---- values from a place on
at_in : (f : ℕ → ℕ) (o n i : ℕ) (s : List ℕ) → o + i < length s → i < n → get_or (put_at f o n s) (o + i) 0 ≡ f i
unfolding put_at
at_in f o n i s h l =
    let e : o + i - o ≡ i = omega arith in
    put_in (λ (k : ℕ). f (k - o)) o (o + n) s (o + i) h (omega arith) (omega arith) ∙ ap f e

at_before : (f : ℕ → ℕ) (o n k : ℕ) (s : List ℕ) → k < length s → k < o → get_or (put_at f o n s) k 0 ≡ get_or s k 0
unfolding put_at
at_before f o n k s h l = put-before (λ (j : ℕ). f (j - o)) o (o + n) s k h l

pub at_same : (f g : ℕ → ℕ) (o n : ℕ) (s : List ℕ) → ((i : ℕ) → i < n → f i ≡ g i) → put_at f o n s ≡ put_at g o n s
unfolding put_at
at_same f g o n s same = put_same _ _ o (o + n) s (λ k l h. same (k - o) (omega arith))

-- ---- the samples of n texels
module _ (n : ℕ) (f : ℕ → ℕ → ℕ) (s : List ℕ) where
  pub length-samples : length (samples_in n f s) ≡ length s
  unfolding samples_in
  length-samples = length-put_at _ 432 (eights n) _ ∙ length-put_at _ 288 (eights n) _ ∙ length-put_at _ 144 (eights n) _ ∙ length-put_at _ 0 (eights n) s

  -- sample k of texel i
  pub sample-at : (i k : ℕ) → length s ≡ most_lanes → n ≤ most_texels → i < n → k < 4 → get_or (samples_in n f s) (most_texels * k + i) 0 ≡ f i k
  unfolding samples_in
  sample-at i k e l h b = go k b
    where
      red : List ℕ
      red = channel_in 0 n (λ (j : ℕ). f j 0) s

      green : List ℕ
      green = channel_in 144 n (λ (j : ℕ). f j 1) red

      blue : List ℕ
      blue = channel_in 288 n (λ (j : ℕ). f j 2) green

      red-long : length red ≡ 576
      red-long = length-put_at _ 0 (eights n) s ∙ e

      green-long : length green ≡ 576
      green-long = length-put_at _ 144 (eights n) red ∙ red-long

      blue-long : length blue ≡ 576
      blue-long = length-put_at _ 288 (eights n) green ∙ green-long

      go : (k : ℕ) → k < 4 → get_or (channel_in 432 n (λ (j : ℕ). f j 3) blue) (most_texels * k + i) 0 ≡ f i k
      go zero b =
          at_before _ 432 (eights n) (most_texels * 0 + i) blue (omega (arith, blue-long)) (omega arith)
          ∙ at_before _ 288 (eights n) (most_texels * 0 + i) green (omega (arith, green-long)) (omega arith)
          ∙ at_before _ 144 (eights n) (most_texels * 0 + i) red (omega (arith, red-long)) (omega arith)
          ∙ at_in (λ (j : ℕ). f j 0) 0 (eights n) i s (omega (arith, e)) (omega arith)
      go (suc zero) b =
          at_before _ 432 (eights n) (most_texels * 1 + i) blue (omega (arith, blue-long)) (omega arith)
          ∙ at_before _ 288 (eights n) (most_texels * 1 + i) green (omega (arith, green-long)) (omega arith)
          ∙ at_in (λ (j : ℕ). f j 1) 144 (eights n) i red (omega (arith, red-long)) (omega arith)
      go (suc (suc zero)) b =
          at_before _ 432 (eights n) (most_texels * 2 + i) blue (omega (arith, blue-long)) (omega arith)
          ∙ at_in (λ (j : ℕ). f j 2) 288 (eights n) i green (omega (arith, green-long)) (omega arith)
      go (suc (suc (suc zero))) b = at_in (λ (j : ℕ). f j 3) 432 (eights n) i blue (omega (arith, blue-long)) (omega arith)
      go (suc (suc (suc (suc k)))) b = absurd (four b)
        where
          four : {k : ℕ} → suc (suc (suc (suc k))) < 4 → ⊥
          four h = omega arith
