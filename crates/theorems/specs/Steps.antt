-- The theorems of the image: every pixel is painted, what any list of accepted steps comes to, the whole image as its steps, and what a pixel's
-- word depends on.
-- Assumes nothing.
use Rattle.std.specs.Prelude.{◌≡◌, refl, ◌&&◌, List, [], ◌∷◌, ℕ, ◌+◌, ◌/◌, ◌%◌, ◌≤◌, ◌<◌, min, leb, ltb, length}
use Rattle.std.proofs.Common.{sym, ap, ◌∙◌, zero-le, mul_comm, mod-lt, div-lt_iff_lt-mul, arith, eq-eqb, lt-ltb, le-ltb, le-leb}
use Rattle.std.proofs.Math.Decide.{dec_lt}
use Rattle.std.proofs.Math.Arith.{digits_lt}
use Rattle.laws.specs.Lists.{put}
use Rattle.block.specs.Block.{word_at}
use Rattle.image_shape.specs.Shapes.{across_of, down_of, total_of, pixels_of, block_of, texel_of, bytes_of, refusal_of}
use Rattle.image_shape.specs.ShapeLaws.{Sized, sized-accepted, same-sized, step-0}
use Rattle.image_shape.specs.declared.Shape.{Shape}
use Rattle.image_window.specs.Windows.{marked, is_in}
use Rattle.image_window.specs.Places.{block_inside}
use Rattle.image_window.specs.MarkLaws.{marked-same}
use Rattle.image_blocks.specs.Painted.{pixel_word, painted_blocks}
use Rattle.image_blocks.specs.PaintedLaws.{painted-next, painted-none, length-painted}
use Rattle.image.specs.Image.{image_of, step_answer, painted_by, moved_by, step_of, stepped}
use Rattle.image.specs.declared.Cursor.{Cursor}

-- ---- every pixel
-- a shape that has pixels, and blocks of some size
pub record Shaped (m : Shape) : Type 0 where
  pub width : 0 < m.width
  pub height : 0 < m.height
  pub column : 0 < m.footprint.width
  pub row : 0 < m.footprint.height

in_a_block : (m : Shape) (k : ℕ) → Shaped m → k < pixels_of m → block_of m k < total_of m
in_a_block m k s h =
    let y : k / m.width < m.height = (div-lt_iff_lt-mul s.width).1 (rw (mul_comm m.height m.width) h) in
    rw (mul_comm (across_of m) (down_of m))
    (digits_lt (block_inside m.height m.footprint.height (k / m.width) s.row y) (block_inside m.width m.footprint.width (k % m.width) s.column (mod-lt k s.width)))

-- after all blocks every pixel has its word
pub whole : (d : List ℕ) (m : Shape) (out : List ℕ) → Shaped m → painted_blocks d m 0 (total_of m) out ≡ put (pixel_word d m) 0 (pixels_of m) out
unfolding painted_blocks put marked is_in
whole d m out s = marked-same (is_in m 0 (total_of m)) (λ (k : ℕ). leb 0 k && ltb k (pixels_of m)) (pixel_word d m) (pixel_word d m) out (λ k. go k (dec_lt k (pixels_of m))) (λ k x. refl)
  where
    go : (k : ℕ) → Dec (k < pixels_of m) → ltb k (pixels_of m) && (leb 0 (block_of m k) && ltb (block_of m k) (total_of m)) ≡ leb 0 k && ltb k (pixels_of m)
    go k (yes p) = rw (lt-ltb k (pixels_of m) p, le-leb 0 (block_of m k) zero-le, lt-ltb (block_of m k) (total_of m) (in_a_block m k s p), le-leb 0 k zero-le)
    go k (no p) = rw (le-ltb k (pixels_of m) (omega arith), le-leb 0 k zero-le)

-- a pixel's word depends on the sixteen bytes of its block alone
pub pixel-local : (d d' : List ℕ) (m : Shape) (k : ℕ) → bytes_of d (block_of m k) ≡ bytes_of d' (block_of m k) → pixel_word d m k ≡ pixel_word d' m k
unfolding pixel_word
pixel-local d d' m k e = ap (λ (s : List ℕ). word_at s m.footprint (texel_of m k)) e

-- ---- steps
-- the cursor after steps of the sizes ns, and the output
pub cursor_after : List ℕ → Cursor → List ℕ → ℕ → Cursor
cursor_after d c [] room = c
cursor_after d c (n ∷ ns) room = cursor_after d (step_of d c n room).cursor ns room

pub out_after : List ℕ → Cursor → List ℕ → List ℕ → List ℕ
out_after d c [] out = out
out_after d c (n ∷ ns) out = out_after d (step_of d c n (length out)).cursor ns (stepped d c n out)

pub sum : List ℕ → ℕ
sum [] = 0
sum (n ∷ ns) = n + sum ns

-- no step is of 0 blocks
pub AllSome : List ℕ → Type 0
AllSome [] = Unit {0}
AllSome (n ∷ ns) = (1 ≤ n) × AllSome ns

-- the cursor moved to block n
abbrev pub at : Cursor → ℕ → Cursor
at c n = record { shape = c.shape; next = n }

module _ (d : List ℕ) (c : Cursor) (n room : ℕ) (s : Sized c.shape (length d) room) (l : c.next ≤ total_of c.shape) (h : 1 ≤ n) where
  answer-0 : step_answer c (length d) n room ≡ 0
  answer-0 = sym (step-0 c.shape c.next (length d) n room (sized-accepted c.shape (length d) room s) (total_of c.shape) (λ z. omega arith) refl l)

  cursor-is : (step_of d c n room).cursor ≡ at c (c.next + painted_by c n)
  unfolding step_of moved_by
  cursor-is = rw answer-0

out-is : (d : List ℕ) (c : Cursor) (n : ℕ) (out : List ℕ) → Sized c.shape (length d) (length out) → c.next ≤ total_of c.shape → 1 ≤ n
    → stepped d c n out ≡ painted_blocks d c.shape c.next (c.next + painted_by c n) out
unfolding stepped
out-is d c n out s l h = rw (answer-0 d c n (length out) s l h)

-- where steps lead: to the smaller of the total and the sum of the sizes
abbrev pub end_after : Cursor → List ℕ → ℕ
end_after c ns = min (c.next + sum ns) (total_of c.shape)

pub steps-cursor : (d : List ℕ) (ns : List ℕ) (c : Cursor) (room : ℕ) → Sized c.shape (length d) room → c.next ≤ total_of c.shape → AllSome ns
    → cursor_after d c ns room ≡ at c (end_after c ns)
unfolding cursor_after sum AllSome
steps-cursor d [] c room s l a = ap (at c) (omega arith)
steps-cursor d (n ∷ ns) c room s l a =
    let c' = at c (c.next + painted_by c n) in
    rw (cursor-is d c n room s l a.0) (steps-cursor d ns c' room s (omega arith) a.1 ∙ ap (at c) (omega arith))

pub steps-out : (d : List ℕ) (ns : List ℕ) (c : Cursor) (out : List ℕ) → Sized c.shape (length d) (length out) → c.next ≤ total_of c.shape → AllSome ns
    → out_after d c ns out ≡ painted_blocks d c.shape c.next (end_after c ns) out
unfolding out_after sum AllSome
steps-out d [] c out s l a =
    let e : c.next ≡ end_after c [] = omega arith in
    painted-none d c.shape c.next out ∙ ap (λ (x : ℕ). painted_blocks d c.shape c.next x out) e
steps-out d (n ∷ ns) c out s l a =
    let m = c.shape in
    let k = c.next + painted_by c n in
    let c' = at c k in
    let o = painted_blocks d m c.next k out in
    let e : end_after c' ns ≡ end_after c (n ∷ ns) = omega arith in
    rw (cursor-is d c n (length out) s l a.0, out-is d c n out s l a.0)
    (steps-out d ns c' o (same-sized m (length d) (length out) (length o) s (length-painted d m c.next k out)) (omega arith) a.1
    ∙ painted-next d m c.next k (end_after c' ns) out (omega arith) (omega arith)
    ∙ ap (λ (x : ℕ). painted_blocks d m c.next x out) e)

-- steps from block 0 that come to the total give the whole image
pub whole-by-steps : (d : List ℕ) (ns : List ℕ) (m : Shape) (out : List ℕ) → Sized m (length d) (length out) → AllSome ns → total_of m ≤ sum ns
    → out_after d (record { shape = m; next = 0 }) ns out ≡ image_of d m out
unfolding image_of
whole-by-steps d ns m out s a l =
    let c : Cursor = record { shape = m; next = 0 } in
    let e : end_after c ns ≡ total_of m = omega arith in
    rw (eq-eqb (refusal_of m (length d) (length out)) 0 (sized-accepted m (length d) (length out) s))
    (steps-out d ns c out s zero-le a ∙ ap (λ (x : ℕ). painted_blocks d m 0 x out) e)
