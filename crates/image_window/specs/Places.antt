-- The laws of a block's window: its rows lie in the image, and every pixel is in the window of its block.
-- Assumes nothing.
use Rattle.std.specs.Prelude.{◌≡◌, ℕ, suc, ◌+◌, ◌-◌, ◌*◌, ◌/◌, ◌%◌, ◌≤◌, ◌<◌, min}
use Rattle.std.proofs.Math.Path.{sym, ap}
use Rattle.std.proofs.Common.{◌∙◌, mul_comm, add-mul, suc-mul, mul-le-mul, mul-le-mul_right, div-mul-le_self, div-lt_iff_lt-mul}
use Rattle.std.proofs.Math.Nat.{mod-lt, div-add-mod'}
use Rattle.std.proofs.Math.Decide.{dec_lt}
use native.Mathlib.Omega.{arith}
use Rattle.std.proofs.Math.Arith.{digits_lt, digits_div, digits_mod}
use Rattle.footprint.specs.Footprints.{most_texels}
use Rattle.image_shape.specs.Shapes.{along_of, across_of, down_of, total_of, pixels_of, block_of}
use Rattle.image_shape.specs.ShapeLaws.{ShapeBounds}
use Rattle.image_shape.specs.declared.Shape.{Shape}
use Rattle.image_window.specs.Windows.{left_of, top_of, columns_of, rows_of, row_at, window_of, block_at, Inside, RowsFit}
use Rattle.image_window.specs.declared.Window.{Window}

-- ---- blocks of a side along n pixels
-- each starts inside
pub starts-inside : (n side i : ℕ) → 0 < side → i < along_of n side → i * side < n
starts-inside n side i p h =
    let q = along_of n side in
    let l : q * side ≤ n + (side - 1) = div-mul-le_self (n + (side - 1)) side in
    let m : suc i * side ≤ q * side = mul-le-mul_right side h in
    let s : suc i * side ≡ i * side + side = suc-mul i side in
    omega arith

-- every pixel is in one
pub block_inside : (n side x : ℕ) → 0 < side → x < n → x / side < along_of n side
block_inside n side x p h = go (dec_lt (x / side) (along_of n side))
  where
    q : ℕ
    q = along_of n side

    clash : q ≤ x / side → ⊥
    clash l =
        let a : q * side ≤ x / side * side = mul-le-mul_right side l in
        let b : x / side * side ≤ x = div-mul-le_self x side in
        let c : q * side + (n + (side - 1)) % side ≡ n + (side - 1) = div-add-mod' (n + (side - 1)) side in
        let d : (n + (side - 1)) % side < side = mod-lt (n + (side - 1)) p in
        omega arith

    go : Dec (x / side < q) → x / side < q
    go (yes l) = l
    go (no l) = absurd (clash (omega arith))

-- there is a column of blocks
pub some : (m : Shape) → ShapeBounds m → 0 < across_of m
some m s = let l : 0 / m.footprint.width < across_of m = block_inside m.width m.footprint.width 0 s.sides.column s.width.0 in omega arith

-- ---- a block by its column and row
module _ (m : Shape) (x y : ℕ) (h : Inside m x y) where
  pub block-lt : block_at m x y < total_of m
  block-lt = rw (mul_comm (across_of m) (down_of m)) (digits_lt h.row h.column)

  pub left_is : x * m.footprint.width ≡ left_of m (block_at m x y)
  left_is = rw (digits_mod y h.column)

  pub top-is : y * m.footprint.height ≡ top_of m (block_at m x y)
  top-is = rw (digits_div y h.column)

-- its window, by the numbers of the code
pub window-is : (m : Shape) (b left top : ℕ) {at columns rows : ℕ} → left ≡ left_of m b → top ≡ top_of m b → at ≡ top * m.width + left → columns ≡ min m.footprint.width (m.width - left)
    → rows ≡ min m.footprint.height (m.height - top) → record { at = at; columns = columns; rows = rows } ≡ window_of m b
window-is m b left top el et ea ec er = rw (ea, ec, er, el, et)

-- the texels of row r of a footprint are among its own
pub texels-fit : (m : Shape) (b r : ℕ) → m.footprint.width ≤ 12 → m.footprint.height ≤ 12 → r < rows_of m b → r * m.footprint.width + columns_of m b ≤ most_texels
texels-fit m b r w h l =
    let k : suc r * m.footprint.width ≤ 12 * 12 = mul-le-mul {n₁ = suc r} {m₁ = m.footprint.width} {n₂ = 12} {m₂ = 12} (omega arith) w in
    let e : suc r * m.footprint.width ≡ r * m.footprint.width + m.footprint.width = suc-mul r m.footprint.width in
    omega arith

module _ (m : Shape) (s : ShapeBounds m) (b : ℕ) (h : b < total_of m) where
  a : ℕ
  a = across_of m

  pub left-inside : left_of m b < m.width
  unfolding a
  left-inside = starts-inside m.width m.footprint.width (b % a) s.sides.column (mod-lt b (some m s))

  pub top-inside : top_of m b < m.height
  unfolding a
  top-inside = starts-inside m.height m.footprint.height (b / a) s.sides.row ((div-lt_iff_lt-mul (some m s)).1 (rw (mul_comm (down_of m) a) h))

  -- row r lies in the image
  pub row_fits : (r : ℕ) → r < rows_of m b → row_at m b r + columns_of m b ≤ pixels_of m
  row_fits r l =
      let y : suc (top_of m b + r) ≤ m.height = omega (arith, top-inside) in
      let w : suc (top_of m b + r) * m.width ≤ m.height * m.width = mul-le-mul_right m.width y in
      let e : suc (top_of m b + r) * m.width ≡ (top_of m b + r) * m.width + m.width = suc-mul (top_of m b + r) m.width in
      omega (arith, left-inside, mul_comm m.width m.height)

  -- row r of the window starts where row r of the block does
  pub window-row : (r : ℕ) → (window_of m b).at + r * m.width ≡ row_at m b r
  window-row r = omega (arith, add-mul (top_of m b) r m.width)

  -- its n columns
  module _ (w : Window) (n : ℕ) (e : w ≡ window_of m b) (c : w.columns ≡ n) where
    pub window-fits : (len : ℕ) → pixels_of m ≤ len → RowsFit w.at m.width n w.rows len
    window-fits len p r l =
        let k : r < rows_of m b = rw e at l in
        rw (← c, e, window-row r) (omega (arith, row_fits r k))

    pub window-texels : m.footprint.width ≤ 12 → m.footprint.height ≤ 12 → RowsFit 0 m.footprint.width n w.rows most_texels
    window-texels k l r q =
        let i : r < rows_of m b = rw e at q in
        rw (← c, e) (omega (arith, texels-fit m b r k l i))

  -- ---- a place in row r of the block
  pub record InRow (r k : ℕ) : Type 0 where
    pub pixel : k < pixels_of m
    pub block : block_of m k ≡ b
    pub row : k / m.width % m.footprint.height ≡ r
    pub column : k % m.width % m.footprint.width ≡ k - row_at m b r

  pub in_row : (r k : ℕ) → r < rows_of m b → row_at m b r ≤ k → k < row_at m b r + columns_of m b → InRow r k
  unfolding a
  in_row r k l p q =
      let i = k - row_at m b r in
      let x : left_of m b + i < m.width = omega arith in
      let y : top_of m b + r < m.height = omega arith in
      let ib : i < m.footprint.width = omega arith in
      let rb : r < m.footprint.height = omega arith in
      let e : k ≡ (top_of m b + r) * m.width + (left_of m b + i) = omega arith in
      let dv : k / m.width ≡ top_of m b + r = ap (λ (n : ℕ). n / m.width) e ∙ digits_div (top_of m b + r) x in
      let md : k % m.width ≡ left_of m b + i = ap (λ (n : ℕ). n % m.width) e ∙ digits_mod (top_of m b + r) x in
      let ty : (top_of m b + r) / m.footprint.height ≡ b / a = digits_div (b / a) rb in
      let tr : (top_of m b + r) % m.footprint.height ≡ r = digits_mod (b / a) rb in
      let tx : (left_of m b + i) / m.footprint.width ≡ b % a = digits_div (b % a) ib in
      let tc : (left_of m b + i) % m.footprint.width ≡ i = digits_mod (b % a) ib in
      let z : k < m.height * m.width = rw (sym e) at (digits_lt y x) in
      record {
        pixel = rw (mul_comm m.width m.height) z;
        block = rw (dv, md, ty, tx) (div-add-mod' b a);
        row = rw (dv, tr);
        column = rw (md, tc);
      }

  -- ---- a pixel of the block
  pub record InBlock (k : ℕ) : Type 0 where
    pub row : k / m.width % m.footprint.height < rows_of m b
    pub from : row_at m b (k / m.width % m.footprint.height) ≤ k
    pub before : k < row_at m b (k / m.width % m.footprint.height) + columns_of m b

  pub in_block : (k : ℕ) → k < pixels_of m → block_of m k ≡ b → InBlock k
  unfolding a
  in_block k p e =
      let x = k % m.width in
      let y = k / m.width in
      let xl : x < m.width = mod-lt k s.width.0 in
      let yl : y < m.height = (div-lt_iff_lt-mul s.width.0).1 (rw (mul_comm m.height m.width) p) in
      let xb : x / m.footprint.width < a = block_inside m.width m.footprint.width x s.sides.column xl in
      let by : y / m.footprint.height ≡ b / a = sym (digits_div (y / m.footprint.height) xb) ∙ ap (λ (n : ℕ). n / a) e in
      let bx : x / m.footprint.width ≡ b % a = sym (digits_mod (y / m.footprint.height) xb) ∙ ap (λ (n : ℕ). n % a) e in
      let yr : top_of m b + y % m.footprint.height ≡ y = rw by at (div-add-mod' y m.footprint.height) in
      let xc : left_of m b + x % m.footprint.width ≡ x = rw bx at (div-add-mod' x m.footprint.width) in
      let rl : y % m.footprint.height < m.footprint.height = mod-lt y s.sides.row in
      let cl : x % m.footprint.width < m.footprint.width = mod-lt x s.sides.column in
      let kw : (top_of m b + y % m.footprint.height) * m.width + x ≡ k = ap (λ (n : ℕ). n * m.width + x) yr ∙ div-add-mod' k m.width in
      record { row = omega arith; from = omega arith; before = omega arith }
