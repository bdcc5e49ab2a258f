-- The lanes of words: where they stand, and that they make their word again.
-- Assumes nothing.
use Rattle.std.specs.Prelude.{◌≡◌, List, ℕ, ◌+◌, ◌*◌, ◌/◌, ◌%◌, ◌≤◌, ◌<◌, set, length}
use Rattle.std.proofs.Common.{◌∙◌, zero-le, arith}
use Rattle.laws.specs.Lists.{put, put_in, put-turn, put_same}
use Rattle.footprint.specs.Footprints.{most_texels}
use Rattle.lanes.specs.Lanes.{most_lanes, lane_at, joined_at, eights}

-- the lanes of texel i
pub lane_low : (f : ℕ → ℕ) (i : ℕ) → lane_at f (2 * i) ≡ f i % 65536
unfolding lane_at
lane_low f i =
    let m : 2 * i % 2 ≡ 0 = omega arith in
    let d : 2 * i / 2 ≡ i = omega arith in
    rw (m, d)

pub lane-high : (f : ℕ → ℕ) (i : ℕ) → lane_at f (2 * i + 1) ≡ f i / 65536
unfolding lane_at
lane-high f i =
    let m : (2 * i + 1) % 2 ≡ 1 = omega arith in
    let d : (2 * i + 1) / 2 ≡ i = omega arith in
    rw (m, d)

-- a turn of a loop with two stores: the two lanes of texel i
pub two-stores : (f : ℕ → ℕ) (i x y : ℕ) (s t : List ℕ) → t ≡ put (lane_at f) 0 (2 * i) s → x ≡ f i % 65536 → y ≡ f i / 65536
    → set (set t (2 * i) x) (2 * i + 1) y ≡ put (lane_at f) 0 (2 * (i + 1)) s
two-stores f i x y s t h p q =
    let n : 2 * i + 1 + 1 ≡ 2 * (i + 1) = omega arith in
    rw n at (put-turn (lane_at f) 0 (2 * i + 1) y s _ (put-turn (lane_at f) 0 (2 * i) x s t h zero-le (p ∙ rw (lane_low f i))) zero-le (q ∙ rw (lane-high f i)))

-- the same, from the word
pub word-stores : (f : ℕ → ℕ) (i z x y : ℕ) (s t : List ℕ) → t ≡ put (lane_at f) 0 (2 * i) s → z ≡ f i → x ≡ z % 65536 → y ≡ z / 65536
    → set (set t (2 * i) x) (2 * i + 1) y ≡ put (lane_at f) 0 (2 * (i + 1)) s
word-stores f i z x y s t h e p q = two-stores f i x y s t h (p ∙ rw e) (q ∙ rw e)

-- what is painted depends on the words alone
pub put-lanes : (f g : ℕ → ℕ) (n : ℕ) (s : List ℕ) → ((i : ℕ) → i < n → f i ≡ g i) → put (lane_at f) 0 (2 * n) s ≡ put (lane_at g) 0 (2 * n) s
unfolding lane_at
put-lanes f g n s same =
    put_same (lane_at f) (lane_at g) 0 (2 * n) s (λ k l h. let d : k / 2 < n = omega arith in rw (same (k / 2) d))

-- the word whose lanes were painted
pub joined_is : (f : ℕ → ℕ) (n i : ℕ) (s : List ℕ) → length s ≡ most_lanes → n ≤ most_texels → i < n → joined_at (put (lane_at f) 0 (2 * eights n) s) i ≡ f i
joined_is f n i s z h l =
    let low = put_in (lane_at f) 0 (2 * eights n) s (2 * i) (omega (arith, z)) zero-le (omega arith) ∙ lane_low f i in
    let high = put_in (lane_at f) 0 (2 * eights n) s (2 * i + 1) (omega (arith, z)) zero-le (omega arith) ∙ lane-high f i in
    rw (low, high) (omega arith)
