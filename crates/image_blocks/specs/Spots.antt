-- Where a loop over the blocks of an image stands: a block's number, column and row.
-- Assumes nothing.
use Rattle.std.specs.Prelude.{◌≡◌, refl, Bool, true, false, cond, ℕ, suc, ◌+◌, ◌*◌, ◌/◌, ◌%◌, ◌≤◌, ◌<◌, eqb}
use Rattle.std.proofs.Common.{sym, mul_comm, suc-mul, mul-le-mul_right, mod-lt, div-le_self, div-add-mod', arith, eq-eqb, ne_eqb, eqb-true}
use Rattle.std.proofs.Math.Decide.{dec_lt}
use Rattle.std.proofs.lemmas.Bool.{eqb-false}
use Rattle.image_shape.specs.Shapes.{across_of, down_of, total_of}
use Rattle.image_shape.specs.ShapeLaws.{ShapeBounds}
use Rattle.image_shape.specs.declared.Shape.{Shape}
use Rattle.image_window.specs.Windows.{block_at, Inside}
use Rattle.image_window.specs.Places.{some}
use Rattle.image_blocks.specs.declared.Spot.{Spot}

abbrev spot : ℕ → ℕ → ℕ → Spot
spot b x y = record { block = b; column = x; row = y }

-- the block after it, in rows of so many
unfoldable pub next_of : Spot → ℕ → Spot
next_of at across = cond (eqb (at.column + 1) across) (spot (at.block + 1) 0 (at.row + 1)) (spot (at.block + 1) (at.column + 1) at.row)

pub next_row : (at : Spot) (across : ℕ) → at.column + 1 ≡ across → spot (at.block + 1) 0 (at.row + 1) ≡ next_of at across
unfolding next_of
next_row at across e = rw (eq-eqb _ _ e)

pub next-column : (at : Spot) (across : ℕ) → (at.column + 1 ≡ across → ⊥) → spot (at.block + 1) (at.column + 1) at.row ≡ next_of at across
unfolding next_of
next-column at across n = rw (ne_eqb _ _ n)

pub record At (m : Shape) (at : Spot) : Type 0 where
  pub column : at.column < across_of m
  pub row : at.row ≤ at.block
  pub block : at.block ≡ block_at m at.column at.row

pub at-inside : (m : Shape) (at : Spot) → At m at → at.block < total_of m → Inside m at.column at.row
at-inside m at p h = record { column = p.column; row = go (dec_lt y (down_of m)) }
  where
    y : ℕ
    y = at.row

    go : Dec (y < down_of m) → y < down_of m
    go (yes l) = l
    go (no l) =
        let k : down_of m * across_of m ≤ y * across_of m = mul-le-mul_right (across_of m) (omega arith) in
        absurd (omega (arith, p.block, mul_comm (down_of m) (across_of m)))

pub at_first : (m : Shape) (b a : ℕ) → ShapeBounds m → a ≡ across_of m → At m (spot b (b % a) (b / a))
at_first m b a s e = rw e (record { column = mod-lt b (some m s); row = div-le_self b _; block = sym (div-add-mod' b _) })

pub at_next : (m : Shape) (at : Spot) (a : ℕ) → ShapeBounds m → a ≡ across_of m → At m at → At m (next_of at a)
unfolding next_of
at_next m at a s e p = go (eqb (at.column + 1) a) (λ h. eqb-true _ _ h) (λ h. eqb-false _ _ h)
  where
    go : (t : Bool) → (t ≡ true → at.column + 1 ≡ a) → (t ≡ false → at.column + 1 ≡ a → ⊥) → At m (cond t (spot (at.block + 1) 0 (at.row + 1)) (spot (at.block + 1) (at.column + 1) at.row))
    go true h n =
        let k : suc at.row * across_of m ≡ at.row * across_of m + across_of m = suc-mul at.row (across_of m) in
        record { column = some m s; row = omega (arith, p.row); block = omega (arith, p.block, e, h refl, k) }
    go false h n = record { column = omega (arith, p.column, e, n refl); row = omega (arith, p.row); block = omega (arith, p.block) }

pub next-block : (at : Spot) (a : ℕ) → (next_of at a).block ≡ at.block + 1
unfolding next_of
next-block at a = go (eqb (at.column + 1) a)
  where
    go : (t : Bool) → (cond t (spot (at.block + 1) 0 (at.row + 1)) (spot (at.block + 1) (at.column + 1) at.row)).block ≡ at.block + 1
    go true = refl
    go false = refl
