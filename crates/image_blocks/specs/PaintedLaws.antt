-- The laws of painting an image block by block: one block by what the block promises, and one block after the other.
-- Assumes nothing.
use Rattle.std.specs.Prelude.{◌≡◌, refl, Bool, true, false, ◌&&◌, leb, ltb, length, take, drop}
use Rattle.std.proofs.Common.{sym, ◌∙◌, mul_comm, mod-lt, length-drop, length-take-le, lt-ltb, le-ltb, le-leb}
use Rattle.std.proofs.Math.Path.{ap}
use Rattle.std.proofs.Math.Bool.{cond}
use Rattle.std.proofs.lemmas.Bool.{false≢true, lt-leb}
use mathlib.Core.List.{List}
use Prim.Native.Nat.{ℕ, suc, ◌+◌, ◌-◌, ◌*◌, ◌/◌, ◌%◌, ◌≤◌, ◌<◌}
use Rattle.std.proofs.Math.Decide.{dec_lt}
use native.Mathlib.Omega.{arith}
use Rattle.std.proofs.Math.Arith.{digits_lt}
use Rattle.answers.specs.Answers.{is_bad}
use Rattle.footprint.specs.Footprints.{texels_of}
use Rattle.lanes.specs.Lanes.{most_lanes, joined_at}
use Rattle.block_void.specs.Void.{void_answer, void_word}
use Rattle.block_map.specs.Answer.{map_answer}
use Rattle.block_ordinary.specs.Ordinary.{block_answer, lanes_of}
use Rattle.block.specs.Block.{block_bits, magenta, word_at}
use Rattle.block.specs.WordLaws.{answer-mapped, word-void, word-bad, word-legal, lanes-length}
use Rattle.image_shape.specs.Shapes.{across_of, total_of, pixels_of, block_of, texel_of, bytes_of}
use Rattle.image_shape.specs.ShapeLaws.{ShapeBounds, Sized, sized-bounded}
use Rattle.image_shape.specs.declared.Shape.{Shape}
use Rattle.image_window.specs.Windows.{marked, is_in}
use Rattle.image_window.specs.MarkLaws.{length_marked, marked-same, marked-none, marked-twice}
use Rattle.image_blocks.specs.Painted.{pixel_word, painted_blocks, bad_in}
use Rattle.image_blocks.specs.Spots.{At, next_of, at_first, at_next, next-block}
use Rattle.image_blocks.specs.declared.Spot.{Spot}

-- ---- blocks one after the other
-- a pixel of the image or not, of block b
stretches : (t : Bool) (b i j e w x : ℕ) → i ≤ j → j ≤ e → cond (t && (leb j b && ltb b e)) w (cond (t && (leb i b && ltb b j)) w x) ≡ cond (t && (leb i b && ltb b e)) w x
stretches false b i j e w x l r = refl
stretches true b i j e w x l r = go (dec_lt b i) (dec_lt b j) (dec_lt b e)
  where
    go : Dec (b < i) → Dec (b < j) → Dec (b < e) → cond (leb j b && ltb b e) w (cond (leb i b && ltb b j) w x) ≡ cond (leb i b && ltb b e) w x
    go (yes p) q u = rw (lt-leb i b p, lt-leb j b (omega arith))
    go (no p) (yes q) u = rw (le-leb i b (omega arith), lt-leb j b q, lt-ltb b j q, lt-ltb b e (omega arith))
    go (no p) (no q) (yes u) = rw (le-leb i b (omega arith), le-leb j b (omega arith), lt-ltb b e u)
    go (no p) (no q) (no u) = rw (le-leb i b (omega arith), le-leb j b (omega arith), le-ltb b j (omega arith), le-ltb b e (omega arith))

pub painted-next : (d : List ℕ) (m : Shape) (i j e : ℕ) (s : List ℕ) → i ≤ j → j ≤ e → painted_blocks d m j e (painted_blocks d m i j s) ≡ painted_blocks d m i e s
unfolding painted_blocks is_in
painted-next d m i j e s l r =
    marked-twice (is_in m i j) (is_in m j e) (is_in m i e) (pixel_word d m) s (λ k x. stretches (ltb k (pixels_of m)) (block_of m k) i j e (pixel_word d m k) x l r)

pub length-painted : (d : List ℕ) (m : Shape) (i j : ℕ) (s : List ℕ) → length (painted_blocks d m i j s) ≡ length s
unfolding painted_blocks
length-painted d m i j s = length_marked (is_in m i j) (pixel_word d m) s

no-stretch : (t : Bool) (b i : ℕ) → t && (leb i b && ltb b i) ≡ false
no-stretch false b i = refl
no-stretch true b i = go (dec_lt b i)
  where
    go : Dec (b < i) → leb i b && ltb b i ≡ false
    go (yes p) = rw (lt-leb i b p)
    go (no p) = rw (le-leb i b (omega arith), le-ltb b i (omega arith))

pub painted-none : (d : List ℕ) (m : Shape) (i : ℕ) (s : List ℕ) → s ≡ painted_blocks d m i i s
unfolding painted_blocks is_in
painted-none d m i s = marked-none (is_in m i i) (pixel_word d m) s (λ k. no-stretch (ltb k (pixels_of m)) (block_of m k) i)

-- ---- one block
-- a pixel of the blocks from b to before b + 1 is one of block b
in_one : (t : Bool) (x b : ℕ) → t && (leb b x && ltb x (b + 1)) ≡ true → x ≡ b
in_one false x b e = absurd (false≢true e)
in_one true x b e = go (dec_lt x b) (dec_lt x (b + 1))
  where
    go : Dec (x < b) → Dec (x < b + 1) → x ≡ b
    go (yes p) q = absurd (false≢true (rw (lt-leb b x p) at e))
    go (no p) (yes q) = omega arith
    go (no p) (no q) = absurd (false≢true (rw (le-leb b x (omega arith), le-ltb x (b + 1) (omega arith)) at e))

block-is : (m : Shape) (b k : ℕ) → is_in m b (b + 1) k ≡ true → block_of m k ≡ b
unfolding is_in
block-is m b k e = in_one (ltb k (pixels_of m)) (block_of m k) b e

-- a texel is one of the footprint's
texel-lt : (m : Shape) (k : ℕ) → ShapeBounds m → texel_of m k < texels_of m.footprint
texel-lt m k s =
    rw (mul_comm m.footprint.width m.footprint.height)
    (digits_lt (mod-lt (k / m.width) s.sides.row) (mod-lt (k % m.width) s.sides.column))

-- the bytes of a block
bytes-length : (d : List ℕ) (t b : ℕ) → length d ≡ 16 * t → b < t → length (bytes_of d b) ≡ 16
bytes-length d t b e h =
    let l : length (drop (16 * b) d) ≡ length d - 16 * b = length-drop (16 * b) d in
    length-take-le 16 (drop (16 * b) d) (omega arith)

-- the part of the data that is handed on as block b
pub part-is : (d : List ℕ) (b : ℕ) → take (16 * b + 16 - 16 * b) (drop (16 * b) d) ≡ bytes_of d b
part-is d b = let n : 16 * b + 16 - 16 * b ≡ 16 = omega arith in rw n

-- x is the part of the data that was loaded as a block, and v that block's number
module _ (d : List ℕ) (m : Shape) (places b : ℕ) (s : Sized m (length d) places) (h : b < total_of m) (x : List ℕ) (ex : x ≡ bytes_of d b) (v : ℕ) (ev : v ≡ block_bits x) where
  answer-of : (a : ℕ) → a ≡ block_answer v m.footprint → a ≡ map_answer (bytes_of d b) m.footprint
  answer-of a e =
      answer-mapped x m.footprint v ev (ap length ex ∙ bytes-length d (total_of m) b s.bytes h) s.footprint a e
      ∙ ap (λ (y : List ℕ). map_answer y m.footprint) ex

  -- painted with g, which has the block's words
  painted-by : (c : ℕ) (g : ℕ → ℕ) (now out : List ℕ) → b ≡ c → ((t : ℕ) → t < texels_of m.footprint → g t ≡ word_at x m.footprint t)
      → now ≡ marked (is_in m c (c + 1)) (λ (k : ℕ). g (texel_of m k)) out → now ≡ painted_blocks d m b (b + 1) out
  unfolding painted_blocks pixel_word
  painted-by c g now out bc eg en =
      en
      ∙ marked-same (is_in m c (c + 1)) (is_in m b (b + 1)) _ (pixel_word d m) out (λ k. rw bc)
      (λ k y.
      let e : block_of m k ≡ b = block-is m b k y in
      eg (texel_of m k) (texel-lt m k (sized-bounded m (length d) places s))
      ∙ ap (λ (z : List ℕ). word_at z m.footprint (texel_of m k)) (ex ∙ ap (bytes_of d) (sym e)))

  module _ (c : ℕ) (bc : b ≡ c) (before lanes now out : List ℕ) (l : length before ≡ most_lanes) where
    abbrev Painted : ℕ → List ℕ → Type 0
    Painted a lanes = (a ≡ map_answer (bytes_of d b) m.footprint) × ((length lanes ≡ most_lanes) × (now ≡ painted_blocks d m b (b + 1) out))

    abbrev Filled : ℕ → Type 0
    Filled w = now ≡ marked (is_in m c (c + 1)) (λ (k : ℕ). w) out

    pub void-painted : (a w : ℕ) → a ≡ void_answer v → w ≡ void_word v → a ≡ 1 → Filled w → Painted a before
    void-painted a w e f z en =
        let k = word-void x m.footprint v ev a w e f z in
        (answer-of a k.0, (l, painted-by c (λ (t : ℕ). w) now out bc (λ t i. k.1 t) en))

    module _ (a : ℕ) (e : a ≡ block_answer v m.footprint) (el : lanes ≡ lanes_of v m.footprint before) where
      kept : length lanes ≡ most_lanes
      kept = lanes-length v m.footprint before lanes el ∙ l

      pub bad-painted : (w : ℕ) → w ≡ void_answer v → (w ≡ 1 → ⊥) → (a ≡ 0 → ⊥) → Filled magenta → Painted a lanes
      bad-painted w f y n en =
          (answer-of a e, (kept, painted-by c (λ (t : ℕ). magenta) now out bc (λ t i. word-bad x m.footprint v ev w a f y e n t) en))

      pub legal-painted : a ≡ 0 → now ≡ marked (is_in m c (c + 1)) (λ (k : ℕ). joined_at lanes (texel_of m k)) out → Painted 0 lanes
      legal-painted z en =
          (answer-of 0 (sym z ∙ e), (kept, painted-by c (joined_at lanes) now out bc (word-legal x m.footprint v ev s.footprint before lanes l el (sym e ∙ z)) en))

-- ---- block after block
-- A loop over the blocks from first to before end has come to one: out, which was s, has the blocks before it, and bad of them break a rule.
-- Its rows are of so many blocks, and lanes has room for the lanes of a block's words.
pub record Painting (d : List ℕ) (m : Shape) (first end : ℕ) (s : List ℕ) (across : ℕ) (out lanes : List ℕ) (at : Spot) (bad : ℕ) : Type 0 where
  pub rows : across ≡ across_of m
  pub narrow : across ≤ 4107
  pub room : length lanes ≡ most_lanes
  pub place : At m at
  pub from : first ≤ at.block
  pub to : at.block ≤ end
  pub count : bad ≡ bad_in d m first (at.block - first)
  pub few : bad ≤ at.block
  pub painted : out ≡ painted_blocks d m first at.block s

-- before the first
bad-none : (d : List ℕ) (m : Shape) (i : ℕ) → 0 ≡ bad_in d m i (i - i)
unfolding bad_in
bad-none d m i = let e : i - i ≡ 0 = omega arith in rw e

pub painting-first : (d : List ℕ) (m : Shape) (first end a : ℕ) (s lanes : List ℕ) → ShapeBounds m → first ≤ end → a ≡ across_of m → a ≤ 4107 → length lanes ≡ most_lanes
    → Painting d m first end s a s lanes (record { block = first; column = first % a; row = first / a }) 0
painting-first d m first end a s lanes z l e k n = record {
  rows = e;
  narrow = k;
  room = n;
  place = at_first m first a z e;
  from = omega arith;
  to = l;
  count = bad-none d m first;
  few = omega arith;
  painted = painted-none d m first s;
}

module _ (d : List ℕ) (m : Shape) (first end across : ℕ) (s out lanes : List ℕ) (at : Spot) (bad : ℕ) (p : Painting d m first end s across out lanes at bad) where
  b : ℕ
  b = at.block

  -- one block more
  more-bad : (r : ℕ) → r ≡ cond (is_bad (map_answer (bytes_of d b) m.footprint)) 1 0 → bad + r ≡ bad_in d m first (b + 1 - first)
  unfolding bad_in b
  more-bad r f =
      let l = p.from in
      let t : at.block + 1 - first ≡ suc (at.block - first) = omega arith in
      let i : first + (at.block - first) ≡ at.block = omega arith in
      rw (t, p.count, f)
      (ap (λ (z : ℕ). bad_in d m first (at.block - first) + cond (is_bad (map_answer (bytes_of d z) m.footprint)) 1 0) (sym i))

  pub painting-next : (a r : ℕ) (o k : List ℕ) (after : Spot) → ShapeBounds m → at.block < end → after ≡ next_of at across → (r ≡ cond (is_bad a) 1 0) × (r ≤ 1)
      → (a ≡ map_answer (bytes_of d at.block) m.footprint) × ((length k ≡ most_lanes) × (o ≡ painted_blocks d m at.block (at.block + 1) out))
      → Painting d m first end s across o k after (bad + r)
  unfolding b
  painting-next a r o k after z l e f g = rw e (record {
    rows = p.rows;
    narrow = p.narrow;
    room = g.1.0;
    place = at_next m at across z p.rows p.place;
    from = rw (next-block at across) (omega (arith, p.from));
    to = rw (next-block at across) (omega arith);
    count = rw (next-block at across) (more-bad r (f.0 ∙ ap (λ (x : ℕ). cond (is_bad x) 1 0) g.0));
    few = rw (next-block at across) (omega (arith, p.few, f.1));
    painted = rw (next-block at across)
        (g.1.1 ∙ ap (λ (z : List ℕ). painted_blocks d m at.block (at.block + 1) z) p.painted ∙ painted-next d m first at.block (at.block + 1) s p.from (omega arith));
  })

  -- after the last
  pub painting-last : end ≤ at.block → (bad ≡ bad_in d m first (end - first)) × (out ≡ painted_blocks d m first end s)
  painting-last l =
      let e : at.block ≡ end = omega (arith, p.to) in
      (p.count ∙ ap (λ (z : ℕ). bad_in d m first (z - first)) e, p.painted ∙ ap (λ (z : ℕ). painted_blocks d m first z s) e)
