-- The laws of texels: the word from where the weights start is the definition, and so is what is painted of it.
-- Assumes nothing.
use Rattle.std.specs.Prelude.{◌≡◌, List, ℕ, ◌*◌, get_or}
use Rattle.std.proofs.Math.Path.{refl}
use Rattle.std.proofs.Common.{◌∙◌}
use Rattle.laws.specs.Lists.{put}
use Rattle.endpoints_colours.specs.Colours.{nothing}
use Rattle.endpoints_colours.specs.declared.Endpoints.{Endpoints}
use Rattle.lanes.specs.Lanes.{lane_at, eights}
use Rattle.texels.specs.Texels.{weight_at, texel_word, channel_by, word_by}
use Rattle.texels.specs.Kinds.{starts_of, word_at}
use Rattle.lanes.specs.LaneLaws.{put-lanes}
use Rattle.texels.specs.declared.Starts.{Starts}

module _ (planes channel : ℕ) (ends : List Endpoints) (weights partitions : List ℕ) where
  -- the definition's word is that between the endpoints of its partition, at the weights of its channels
  pub texel-is : (i : ℕ) → texel_word ends weights partitions planes channel i
      ≡ word_by (get_or ends (get_or partitions i 0) nothing) (weight_at weights planes channel i 0) (weight_at weights planes channel i 1) (weight_at weights planes channel i 2) (weight_at weights planes channel i 3)
  unfolding texel_word word_by channel_by
  texel-is i = refl

  pub by-starts : (k : Starts) → k ≡ starts_of planes channel → (i : ℕ) → word_at (get_or ends (get_or partitions i 0) nothing) weights k i ≡ texel_word ends weights partitions planes channel i
  by-starts k e i = rw (e, texel-is i)

  module _ (n : ℕ) (out s : List ℕ) where
    -- what is painted of words that are the definition's
    pub painted : (f : ℕ → ℕ) → ((i : ℕ) → f i ≡ texel_word ends weights partitions planes channel i) → out ≡ put (lane_at f) 0 (2 * eights n) s
        → out ≡ put (lane_at (texel_word ends weights partitions planes channel)) 0 (2 * eights n) s
    painted f same h = h ∙ put-lanes f _ (eights n) s (λ i l. same i)

    pub as-any : (k : Starts) → k ≡ starts_of planes channel → out ≡ put (lane_at (λ (i : ℕ). word_at (get_or ends (get_or partitions i 0) nothing) weights k i)) 0 (2 * eights n) s
        → out ≡ put (lane_at (texel_word ends weights partitions planes channel)) 0 (2 * eights n) s
    as-any k e = painted _ (by-starts k e)
