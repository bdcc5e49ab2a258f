-- The rows before j are spread, and k is where row j starts in the grid's sequence.
use mathlib.Core.Path.{◌∙◌}
use Prim.Native.Nat.{◌*◌, ◌≤◌, ◌<◌}
use native.Mathlib.Omega.{arith}
use Rattle.weights_grid.specs.GridLaws.{sides-in}
use Rattle.weights_infill.specs.SpreadLaws.{rows_none, left_in, rows-turn, rows_end}
use Rattle.footprint.specs.Footprints.{most_weights}
use native.Mathlib.Nat.{mul-le-mul}
use Rattle.weights_grid.specs.Grids.{Fits}
use Rattle.weights_grid.specs.declared.Grid.{Grid}
use Prim.Native.Nat.{ℕ}
use Rattle.weights_infill.proofs.spread.Goals as goal

product : (g : Grid) → Fits g → g.width * g.planes ≤ 24
product g fits = mul-le-mul {n₂ = 12} (omega (arith, fits.wide, sides-in fits)) fits.planes.1

rows : (g : Grid) (j : ℕ) → Fits g → j < g.height → j * (g.width * g.planes) ≤ most_weights
rows g j fits h = mul-le-mul {n₂ = 12} (omega (arith, fits.high, sides-in fits)) (product g fits)

pub loop-j-init : goal.loop-j-init
loop-j-init c = (omega arith, c.requires.fits.2 ∙ rows_none _ 208)

pub overflow_mul-j : goal.overflow_mul-j
overflow_mul-j c =
    omega (arith, c.requires.fits.0.high, sides-in c.requires.fits.0)

pub spread_row-requires : goal.spread_row-requires
spread_row-requires c =
    let a = c.args in
    let fits = c.requires.fits.0 in
    let l = c.loop-j in
    let t : l.j < a.g.height = omega arith in (
      omega (arith, fits.high, sides-in fits),
      omega (arith, sides-in fits),
      λ s h. omega (arith, left_in a.g a.next.now a.plane fits c.requires.fits.1 s l.j h t, c.requires.columns s h, fits.few, l.invariant.0),
    )

pub overflow_mul-k : goal.overflow_mul-k
overflow_mul-k c = omega (arith, product c.args.g c.requires.fits.0)

pub overflow_add-k : goal.overflow_add-k
overflow_add-k c = omega (arith, product c.args.g c.requires.fits.0, rows c.args.g c.loop-j.j c.requires.fits.0 (omega arith))

pub loop-j-preserved : goal.loop-j-preserved
loop-j-preserved c =
    let a = c.args in
    let l = c.loop-j in (
      omega (arith, l.invariant.0),
      rows-turn a.g a.next.now a.plane c.requires.fits.0 c.requires.fits.1 a.at.now l.out _ l.j l.k c.requires.columns l.invariant.0 l.invariant.1 c.spread_row.ensures,
    )

pub returns : goal.returns
returns c =
    let a = c.args in
    let l = c.loop-j in
    rows_end a.g a.next.now a.plane c.requires.fits.0 c.requires.fits.1 l.out l.j (omega arith) c.requires.past l.invariant.1
