-- The texels of the rows before t are filled; past them stand zeros, which a row may put again.
use mathlib.Core.Path.{◌≡◌, ap, ◌∙◌}
use Prim.Native.Nat.{ℕ, ◌*◌, ◌/◌, ◌%◌, ◌≤◌, ◌<◌}
use native.Mathlib.Omega.{arith}
use Rattle.weights_grid.specs.Grids.{down_of, Fits}
use Rattle.weights_grid.specs.declared.Grid.{Grid}
use Rattle.weights_grid.specs.GridLaws.{sides-in, down-at, down-in, row-start}
use Rattle.weights_infill.specs.Fast.{row_at, rows_of}
use Rattle.weights_infill.specs.FillLaws.{row-past, texels-none, texels-turn, texels-end}
use Rattle.footprint.specs.Footprints.{most_weights}
use Rattle.weights_infill.proofs.fill_rows.Goals as goal

in-grid : {g : Grid} → (p t : ℕ) → Fits g → p ≡ down_of g t → t < g.footprint.height → p / 16 ≤ 11
in-grid p t fits e h = rw e (down-in fits t h)

pub step_of-d-requires : goal.step_of-d-requires
step_of-d-requires c = c.requires.fits.0.sides.side-high

pub overflow_cast-height : goal.overflow_cast-height
overflow_cast-height c = omega (arith, c.requires.fits.0.high, sides-in c.requires.fits.0)

pub eights-m-requires : goal.eights-m-requires
eights-m-requires c = omega (arith, sides-in c.requires.fits.0)

pub loop-t-init : goal.loop-t-init
loop-t-init c =
    let a = c.args in
    (omega arith, c.requires.fits.1 ∙ texels-none a.g.footprint.width (rows_of a.g a.pairs.now a.part.now) most_weights)

pub overflow_cast-t : goal.overflow_cast-t
overflow_cast-t c =
    omega (arith, sides-in c.requires.fits.0)

pub place-p-requires : goal.place-p-requires
place-p-requires c =
    omega (arith, c.requires.fits.0.high, sides-in c.requires.fits.0, c.step_of-d.ensures.1)

pub overflow_mul-p : goal.overflow_mul-p
overflow_mul-p c = omega (arith, c.place-p.ensures.1)

pub fill_row-requires : goal.fill_row-requires
fill_row-requires c =
    let fits = c.requires.fits.0 in
    let l = c.loop-t in
    let place = down-at c.args.g c.step_of-d.result c.place-p.result l.t c.place-p.ensures.0 c.step_of-d.ensures.0 in
    (omega (arith, row-start fits l.t l.o (omega arith) l.invariant.0, sides-in fits), omega (arith, sides-in fits), omega (arith, in-grid c.place-p.result l.t fits place c.loop-t-test.true, c.from.ensures, fits.high, sides-in fits), omega arith, c.requires.sixteenths)

pub overflow_add-o : goal.overflow_add-o
overflow_add-o c =
    omega (arith, row-start c.requires.fits.0 c.loop-t.t c.loop-t.o (omega arith) c.loop-t.invariant.0, sides-in c.requires.fits.0)

pub loop-t-preserved : goal.loop-t-preserved
loop-t-preserved c =
    let a = c.args in
    let l = c.loop-t in
    let p = c.place-p.result in
    let lanes = c.eights-m in
    let place = down-at a.g c.step_of-d.result p l.t c.place-p.ensures.0 c.step_of-d.ensures.0 in
    let fits = c.requires.fits.0 in (
      omega (arith, l.invariant.0),
      texels-turn a.g.footprint.width l.t lanes.result (rows_of a.g a.pairs.now a.part.now) (row_at a.pairs.now a.part.now (p / 16 * 16) (p % 16))
          l.out _ l.o l.invariant.0 (omega (arith, lanes.ensures))
          (λ s h. ap (λ (n : ℕ). row_at a.pairs.now a.part.now (n / 16 * 16) (n % 16) s) place)
          (λ s h m. row-past a.pairs.now a.part.now a.g.footprint.width (p / 16) (p % 16) s c.requires.past h (omega (arith, sides-in fits, lanes.ensures)))
          l.invariant.1
          (rw c.from.ensures at c.fill_row.ensures),
    )

pub returns : goal.returns
returns c =
    let a = c.args in
    let l = c.loop-t in
    let e : l.t ≡ a.g.footprint.height = omega arith in
    texels-end a.g (rows_of a.g a.pairs.now a.part.now) l.out l.o (rw e at l.invariant.0) l.invariant.1
