-- Each arm fills the rows of the block's window, by its number of columns.
use Rattle.std.proofs.Common.{rules}
use lib.ListN.{length}
use Rattle.image_shape.specs.Shapes.{pixels_of}
use Rattle.image_shape.specs.ShapeLaws.{ShapeBounds}
use Rattle.image_shape.specs.declared.Shape.{Shape}
use Rattle.image_window.specs.Windows.{Inside, block_at, window_of, rows_put, RowsFit, marked, is_in}
use Rattle.image_window.specs.Places.{block-lt, window-fits}
use Rattle.image_window.specs.MarkLaws.{window-painted}
use Rattle.image_window.specs.declared.Window.{Window}
use Prim.Native.Nat.{ℕ, ◌+◌, ◌≤◌}
use mathlib.Core.List.{List}
use mathlib.Core.Path.{◌≡◌, refl}
use native.Mathlib.Omega.{arith}
use Rattle.image_window.proofs.fill_block.Goals as goal

module _ (m : Shape) (b : ShapeBounds m) (x y word : ℕ) (out : List ℕ) (p : (Inside m x y) × (pixels_of m ≤ length out)) (w : Window) (n : ℕ) (e : w ≡ window_of m (block_at m x y)) (k : w.columns ≡ n) where
  fits : RowsFit w.at m.width n w.rows (length out)
  fits = window-fits _ b _ (block-lt _ _ _ p.0) w n e k _ p.1

  -- and so do fewer columns
  fewer : (k : ℕ) → k ≤ n → RowsFit w.at m.width k w.rows (length out)
  fewer k l r h = omega (arith, fits r h)

  painted : (t : List ℕ) → t ≡ rows_put (λ (y x : ℕ). word) w.at m.width n w.rows out
      → t ≡ marked (is_in m (block_at m x y) (block_at m x y + 1)) (λ (k : ℕ). word) out
  painted t d = window-painted _ b _ (block-lt _ _ _ p.0) (λ (i : ℕ). word) w n _ t e k d

pub put_rows-requires-whole : goal.put_rows-requires-whole
put_rows-requires-whole c = λ k. let f = fits _ c.args.m.bounds c.args.x c.args.y c.args.word c.args.out.now c.requires _ _ c.window_of-w.ensures c.in-4.is in search (rules, f)

pub put_rows-requires-in-5-whole : goal.put_rows-requires-in-5-whole
put_rows-requires-in-5-whole c = λ k. let f = fits _ c.args.m.bounds c.args.x c.args.y c.args.word c.args.out.now c.requires _ _ c.window_of-w.ensures c.in-5.is in search (rules, f)

pub put_rows-requires-in-6-whole : goal.put_rows-requires-in-6-whole
put_rows-requires-in-6-whole c = λ k. let f = fits _ c.args.m.bounds c.args.x c.args.y c.args.word c.args.out.now c.requires _ _ c.window_of-w.ensures c.in-6.is in search (rules, f)

pub put_rows-requires-in-8-whole : goal.put_rows-requires-in-8-whole
put_rows-requires-in-8-whole c = λ k. let f = fits _ c.args.m.bounds c.args.x c.args.y c.args.word c.args.out.now c.requires _ _ c.window_of-w.ensures c.in-8.is in search (rules, f)

pub put_rows-requires-in-10-whole : goal.put_rows-requires-in-10-whole
put_rows-requires-in-10-whole c = λ k. let f = fits _ c.args.m.bounds c.args.x c.args.y c.args.word c.args.out.now c.requires _ _ c.window_of-w.ensures c.in-10.is in search (rules, f)

pub put_rows-requires-in-12-whole : goal.put_rows-requires-in-12-whole
put_rows-requires-in-12-whole c = λ k. let f = fewer _ c.args.m.bounds c.args.x c.args.y c.args.word c.args.out.now c.requires _ _ c.window_of-w.ensures c.in-12.is in search (rules, f)

pub put_rows-requires-in_default-whole : goal.put_rows-requires-in_default-whole
put_rows-requires-in_default-whole c = λ k. let f = fits _ c.args.m.bounds c.args.x c.args.y c.args.word c.args.out.now c.requires _ _ c.window_of-w.ensures refl in search (rules, f)

pub returns-in-4 : goal.returns-in-4
returns-in-4 c =
    painted _ c.args.m.bounds c.args.x c.args.y c.args.word c.args.out.now c.requires _ _ c.window_of-w.ensures c.in-4.is _ c.put_rows.ensures

pub returns-in-5 : goal.returns-in-5
returns-in-5 c =
    painted _ c.args.m.bounds c.args.x c.args.y c.args.word c.args.out.now c.requires _ _ c.window_of-w.ensures c.in-5.is _ c.put_rows-in-5.ensures

pub returns-in-6 : goal.returns-in-6
returns-in-6 c =
    painted _ c.args.m.bounds c.args.x c.args.y c.args.word c.args.out.now c.requires _ _ c.window_of-w.ensures c.in-6.is _ c.put_rows-in-6.ensures

pub returns-in-8 : goal.returns-in-8
returns-in-8 c =
    painted _ c.args.m.bounds c.args.x c.args.y c.args.word c.args.out.now c.requires _ _ c.window_of-w.ensures c.in-8.is _ c.put_rows-in-8.ensures

pub returns-in-10 : goal.returns-in-10
returns-in-10 c =
    painted _ c.args.m.bounds c.args.x c.args.y c.args.word c.args.out.now c.requires _ _ c.window_of-w.ensures c.in-10.is _ c.put_rows-in-10.ensures

pub returns-in-12 : goal.returns-in-12
returns-in-12 c =
    painted _ c.args.m.bounds c.args.x c.args.y c.args.word c.args.out.now c.requires _ _ c.window_of-w.ensures c.in-12.is _ c.put_rows-in-12.ensures

pub returns-in_default : goal.returns-in_default
returns-in_default c =
    painted _ c.args.m.bounds c.args.x c.args.y c.args.word c.args.out.now c.requires _ _ c.window_of-w.ensures refl _ c.put_rows-in_default.ensures
