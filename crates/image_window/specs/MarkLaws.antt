-- The laws of lists with marked places filled anew: a block's pixels, row by row.
-- Assumes nothing.
use Rattle.std.specs.Prelude.{◌≡◌, Bool, true, false, ◌&&◌, List, eqb, leb, ltb, length, get_or}
use Rattle.std.proofs.Math.Path.{refl, ap}
use Rattle.std.proofs.Common.{sym, ◌∙◌, zero-add, ext_get_or}
use Rattle.std.proofs.Math.Bool.{cond}
use Prim.Native.Nat.{ℕ, zero, suc, ◌+◌, ◌-◌, ◌*◌, ◌/◌, ◌%◌, ◌≤◌, ◌<◌}
use Rattle.std.proofs.Math.Decide.{dec_lt}
use native.Mathlib.Omega.{arith}
use borrow.Author.Tests.{eq-eqb, ne_eqb, eqb-true, lt-ltb, le-ltb, le-leb, lt-leb}
use Rattle.laws.specs.Lists.{put, put_at, length-put, length-put_at, put_in, put-before, put-after, length-map_at, get_or-map_at}
use Rattle.image_shape.specs.Shapes.{total_of, pixels_of, block_of, texel_of}
use Rattle.image_shape.specs.ShapeLaws.{ShapeBounds}
use Rattle.image_shape.specs.declared.Shape.{Shape}
use Rattle.image_window.specs.Windows.{row_at, rows_of, columns_of, window_of, rows_put, marked, is_in}
use Rattle.image_window.specs.Places.{window-row, in_row, in_block}
use Rattle.image_window.specs.declared.Window.{Window}

-- ---- marked places
module _ (p : ℕ → Bool) (f : ℕ → ℕ) (s : List ℕ) where
  pub length_marked : length (marked p f s) ≡ length s
  unfolding marked
  length_marked = length-map_at (λ (k x : ℕ). cond (p k) (f k) x) 0 s

  pub marked-at : (k : ℕ) → k < length s → get_or (marked p f s) k 0 ≡ cond (p k) (f k) (get_or s k 0)
  unfolding marked
  marked-at k h = get_or-map_at (λ (k x : ℕ). cond (p k) (f k) x) 0 s k h ∙ ap (λ (m : ℕ). cond (p m) (f m) (get_or s k 0)) (zero-add k)

  -- a list that has at each place what the marked one has
  is-marked : (t : List ℕ) → length t ≡ length s → ((k : ℕ) → k < length s → get_or t k 0 ≡ cond (p k) (f k) (get_or s k 0)) → t ≡ marked p f s
  is-marked t l h = ext_get_or 0 t (marked p f s) (l ∙ sym length_marked) (λ k b. let c : k < length s = rw l at b in h k c ∙ sym (marked-at k c))

-- the same marks, and the same values at marked places
pub marked-same : (p q : ℕ → Bool) (f g : ℕ → ℕ) (s : List ℕ) → ((k : ℕ) → p k ≡ q k) → ((k : ℕ) → q k ≡ true → f k ≡ g k) → marked p f s ≡ marked q g s
marked-same p q f g s e h = is-marked q g s (marked p f s) (length_marked p f s) (λ k l. marked-at p f s k l ∙ ap (λ (b : Bool). cond b (f k) (get_or s k 0)) (e k) ∙ go k (q k) refl)
  where
    go : (k : ℕ) (b : Bool) → q k ≡ b → cond b (f k) (get_or s k 0) ≡ cond b (g k) (get_or s k 0)
    go k true x = h k x
    go k false x = refl

pub marked-none : (p : ℕ → Bool) (f : ℕ → ℕ) (s : List ℕ) → ((k : ℕ) → p k ≡ false) → s ≡ marked p f s
marked-none p f s h = is-marked p f s s refl (λ k l. rw (h k))

-- marks p, and then marks q, are marks r
pub marked-twice : (p q r : ℕ → Bool) (f : ℕ → ℕ) (s : List ℕ) → ((k x : ℕ) → cond (q k) (f k) (cond (p k) (f k) x) ≡ cond (r k) (f k) x)
    → marked q f (marked p f s) ≡ marked r f s
marked-twice p q r f s h =
    is-marked r f s (marked q f (marked p f s)) (length_marked q f (marked p f s) ∙ length_marked p f s)
    (λ k l. marked-at q f (marked p f s) k (rw (length_marked p f s) l) ∙ ap (λ (x : ℕ). cond (q k) (f k) x) (marked-at p f s k l) ∙ h k (get_or s k 0))

pub length-rows_put : (g : ℕ → ℕ → ℕ) (at width n r : ℕ) (s : List ℕ) → length (rows_put g at width n r s) ≡ length s
unfolding rows_put
length-rows_put g at width n zero s = refl
length-rows_put g at width n (suc r) s = length-put_at (g r) (at + r * width) n _ ∙ length-rows_put g at width n r s

pub rows-first : (g : ℕ → ℕ → ℕ) (at width n : ℕ) (s : List ℕ) → s ≡ rows_put g at width n 0 s
unfolding rows_put
rows-first g at width n s = refl

pub rows-turn : (g : ℕ → ℕ → ℕ) (at width n r : ℕ) (s t u : List ℕ) → t ≡ rows_put g at width n r s → u ≡ put_at (g r) (at + r * width) n t → u ≡ rows_put g at width n (r + 1) s
unfolding rows_put
rows-turn g at width n r s t u e d = let k : r + 1 ≡ suc r = omega arith in rw k (d ∙ ap (put_at (g r) (at + r * width) n) e)

pub rows_last : (g : ℕ → ℕ → ℕ) (at width n r e : ℕ) (s t : List ℕ) → t ≡ rows_put g at width n r s → r ≤ e → e ≤ r → t ≡ rows_put g at width n e s
rows_last g at width n r e s t d l k = let q : r ≡ e = omega arith in rw q at d

-- ---- a block row by row
-- pixel k is in one of the first r rows of block b
unfoldable pub is_above : Shape → ℕ → ℕ → ℕ → Bool
is_above m b r k = ltb k (pixels_of m) && (eqb (block_of m k) b && ltb (k / m.width % m.footprint.height) r)

and-false : (t : Bool) → t && false ≡ false
and-false true = refl
and-false false = refl

pub rows_none : (m : Shape) (b : ℕ) (f : ℕ → ℕ) (s : List ℕ) → s ≡ marked (is_above m b 0) f s
unfolding is_above
rows_none m b f s =
    marked-none (is_above m b 0) f s
    (λ k. rw (le-ltb (k / m.width % m.footprint.height) 0 (omega arith), and-false (eqb (block_of m k) b), and-false (ltb k (pixels_of m))))

module _ (m : Shape) (z : ShapeBounds m) (b : ℕ) (h : b < total_of m) where
  -- in row r
  above-inside : (r k : ℕ) → r < rows_of m b → row_at m b r ≤ k → k < row_at m b r + columns_of m b → is_above m b (r + 1) k ≡ true
  unfolding is_above
  above-inside r k l p q =
      let i = in_row m z b h r k l p q in
      rw (lt-ltb k (pixels_of m) i.pixel, eq-eqb (block_of m k) b i.block, lt-ltb (k / m.width % m.footprint.height) (r + 1) (omega (arith, i.row)))

  -- elsewhere
  above-outside : (r k : ℕ) → (row_at m b r ≤ k → k < row_at m b r + columns_of m b → ⊥) → is_above m b (r + 1) k ≡ is_above m b r k
  unfolding is_above
  above-outside r k n = go (dec_lt k (pixels_of m)) (eqb (block_of m k) b) refl (dec_lt (k / m.width % m.footprint.height) r) (dec_lt (k / m.width % m.footprint.height) (r + 1))
    where
      y : ℕ
      y = k / m.width % m.footprint.height

      clash : k < pixels_of m → eqb (block_of m k) b ≡ true → y ≡ r → ⊥
      clash p e x = let i = in_block m z b h k p (eqb-true (block_of m k) b e) in n (rw x at i.from) (rw x at i.before)

      go : Dec (k < pixels_of m) → (t : Bool) → eqb (block_of m k) b ≡ t → Dec (y < r) → Dec (y < r + 1)
          → ltb k (pixels_of m) && (t && ltb y (r + 1)) ≡ ltb k (pixels_of m) && (t && ltb y r)
      go (no p) t e u v = rw (le-ltb k (pixels_of m) (omega arith))
      go (yes p) false e u v = refl
      go (yes p) true e (yes u) v = rw (lt-ltb y r u, lt-ltb y (r + 1) (omega arith))
      go (yes p) true e (no u) (yes v) = absurd (clash p e (omega arith))
      go (yes p) true e (no u) (no v) = rw (le-ltb y r (omega arith), le-ltb y (r + 1) (omega arith))

  -- a turn: row r is filled from the block's texels
  pub row-turn : (r : ℕ) (g : ℕ → ℕ) (s t u : List ℕ) → r < rows_of m b → t ≡ marked (is_above m b r) (λ (k : ℕ). g (texel_of m k)) s
      → u ≡ put_at (λ (i : ℕ). g (r * m.footprint.width + i)) (row_at m b r) (columns_of m b) t → u ≡ marked (is_above m b (r + 1)) (λ (k : ℕ). g (texel_of m k)) s
  unfolding put_at
  row-turn r g s t u l e d = d ∙ is-marked (is_above m b (r + 1)) f s (put w o (o + n) t) (length-put w o (o + n) t ∙ tl) at
    where
      f : ℕ → ℕ
      f k = g (texel_of m k)

      o : ℕ
      o = row_at m b r

      n : ℕ
      n = columns_of m b

      w : ℕ → ℕ
      w k = g (r * m.footprint.width + (k - o))

      tl : length t ≡ length s
      tl = ap length e ∙ length_marked (is_above m b r) f s

      in-t : (k : ℕ) → k < length s → k < length t
      in-t k c = rw tl c

      old : (k : ℕ) → k < length s → get_or t k 0 ≡ cond (is_above m b r k) (f k) (get_or s k 0)
      old k c = ap (λ (x : List ℕ). get_or x k 0) e ∙ marked-at (is_above m b r) f s k c

      same : (k : ℕ) → k < length s → (o ≤ k → k < o + n → ⊥) → cond (is_above m b r k) (f k) (get_or s k 0) ≡ cond (is_above m b (r + 1) k) (f k) (get_or s k 0)
      same k c x = ap (λ (q : Bool). cond q (f k) (get_or s k 0)) (sym (above-outside r k x))

      in_place : (k : ℕ) → o ≤ k → k < o + n → w k ≡ f k
      in_place k p q = let i = in_row m z b h r k l p q in ap g (rw (i.row, i.column))

      at : (k : ℕ) → k < length s → get_or (put w o (o + n) t) k 0 ≡ cond (is_above m b (r + 1) k) (f k) (get_or s k 0)
      at k c = go (dec_lt k o) (dec_lt k (o + n))
        where
          go : Dec (k < o) → Dec (k < o + n) → get_or (put w o (o + n) t) k 0 ≡ cond (is_above m b (r + 1) k) (f k) (get_or s k 0)
          go (yes p) q = put-before w o (o + n) t k (in-t k c) p ∙ old k c ∙ same k c (λ a d. omega arith)
          go (no p) (yes q) = put_in w o (o + n) t k (in-t k c) (omega arith) q ∙ in_place k (omega arith) q ∙ rw (above-inside r k l (omega arith) q)
          go (no p) (no q) = put-after w o (o + n) t k (in-t k c) (omega arith) ∙ old k c ∙ same k c (λ a d. omega arith)

  -- after the last row the block is painted
  above-all : (r k : ℕ) → rows_of m b ≤ r → is_above m b r k ≡ is_in m b (b + 1) k
  unfolding is_above is_in
  above-all r k l = go (dec_lt k (pixels_of m)) (dec_lt (block_of m k) b) (dec_lt (block_of m k) (b + 1))
    where
      y : ℕ
      y = k / m.width % m.footprint.height

      go : Dec (k < pixels_of m) → Dec (block_of m k < b) → Dec (block_of m k < b + 1)
          → ltb k (pixels_of m) && (eqb (block_of m k) b && ltb y r) ≡ ltb k (pixels_of m) && (leb b (block_of m k) && ltb (block_of m k) (b + 1))
      go (no p) q u = rw (le-ltb k (pixels_of m) (omega arith))
      go (yes p) (yes q) u = rw (ne_eqb (block_of m k) b (λ e. omega arith), lt-leb b (block_of m k) q)
      go (yes p) (no q) (yes u) =
          let e : block_of m k ≡ b = omega arith in
          rw (eq-eqb (block_of m k) b e, le-leb b (block_of m k) (omega arith), lt-ltb (block_of m k) (b + 1) u, lt-ltb y r (omega (arith, (in_block m z b h k p e).row)))
      go (yes p) (no q) (no u) =
          rw (ne_eqb (block_of m k) b (λ e. omega arith), le-leb b (block_of m k) (omega arith), le-ltb (block_of m k) (b + 1) (omega arith))

  pub rows_end : (r : ℕ) (f : ℕ → ℕ) (s t : List ℕ) → t ≡ marked (is_above m b r) f s → rows_of m b ≤ r → t ≡ marked (is_in m b (b + 1)) f s
  rows_end r f s t e l = e ∙ marked-same (is_above m b r) (is_in m b (b + 1)) f f s (λ k. above-all r k l) (λ k x. refl)

  -- the rows of the block's window, filled by its texels
  rows-marked : (g : ℕ → ℕ) (r : ℕ) (s : List ℕ) → r ≤ rows_of m b
      → rows_put (λ (y x : ℕ). g (y * m.footprint.width + x)) (window_of m b).at m.width (columns_of m b) r s ≡ marked (is_above m b r) (λ (k : ℕ). g (texel_of m k)) s
  unfolding rows_put
  rows-marked g zero s l = rows_none m b (λ (k : ℕ). g (texel_of m k)) s
  rows-marked g (suc r) s l =
      let e : r + 1 ≡ suc r = omega arith in
      rw e at
      (row-turn r g s _ _ (omega arith) (rows-marked g r s (omega arith))
      (ap (λ (o : ℕ). put_at (λ (i : ℕ). g (r * m.footprint.width + i)) o (columns_of m b) (rows_put (λ (y x : ℕ). g (y * m.footprint.width + x)) (window_of m b).at m.width (columns_of m b) r s)) (window-row m z b h r)))

  pub window-painted : (g : ℕ → ℕ) (w : Window) (n : ℕ) (s t : List ℕ) → w ≡ window_of m b → w.columns ≡ n
      → t ≡ rows_put (λ (y x : ℕ). g (y * m.footprint.width + x)) w.at m.width n w.rows s → t ≡ marked (is_in m b (b + 1)) (λ (k : ℕ). g (texel_of m k)) s
  window-painted g w n s t e c d = rows_end (rows_of m b) _ s t ((rw (← c, e) at d) ∙ rows-marked g (rows_of m b) s (omega arith)) (omega arith)
