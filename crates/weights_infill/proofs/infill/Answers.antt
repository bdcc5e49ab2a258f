-- The low bytes of the pairs are the grid's weights, so the planes filled from them are the standard's.
use mathlib.Core.Path.{◌≡◌, refl, ap, ◌∙◌, fun_ext}
use Prim.Native.Nat.{ℕ, ◌≤◌}
use native.Mathlib.Omega.{arith}
use lib.ListN.{get_or, replicate}
use Rattle.laws.specs.Lists.{put}
use Rattle.weights_grid.specs.Grids.{count_of, Fits}
use Rattle.weights_grid.specs.declared.Grid.{Grid}
use mathlib.Core.List.{List}
use Rattle.weights_infill.specs.Infill.{infill_of}
use Rattle.weights_infill.specs.Fast.{pair_of, low_of, Pairs}
use Rattle.weights_infill.specs.PlaneLaws.{one-plane, two-planes, low-at, pairs_of}
use Rattle.lanes.specs.Lanes.{eights}
use Rattle.weights_infill.proofs.infill.Goals as goal

-- What neighbours puts, as the laws of planes read it.
filled : (g : Grid) (n : ℕ) (w next : List ℕ) → n ≡ count_of g
    → next ≡ put (pair_of g.planes w) 0 (eights n) (replicate 72 0)
    → next ≡ put (pair_of g.planes w) 0 (eights (count_of g)) (replicate 72 0)
filled g n w next e h = rw (← e) h

pairs : (g : Grid) (n : ℕ) (w next : List ℕ) → Fits g → n ≡ count_of g
    → ((k : ℕ) → count_of g ≤ k → get_or w k 0 ≡ 0) → ((k : ℕ) → get_or w k 0 ≤ 64)
    → next ≡ put (pair_of g.planes w) 0 (eights n) (replicate 72 0) → Pairs g next
pairs g n w next fits e past small h =
    pairs_of g w next fits (λ k. omega (arith, small k)) past (filled g n w next e h)

lows : (g : Grid) (n : ℕ) (w next : List ℕ) → Fits g → n ≡ count_of g
    → ((k : ℕ) → count_of g ≤ k → get_or w k 0 ≡ 0) → ((k : ℕ) → get_or w k 0 ≤ 64)
    → next ≡ put (pair_of g.planes w) 0 (eights n) (replicate 72 0)
    → low_of next ≡ (λ (k : ℕ). get_or w k 0)
lows g n w next fits e past small h =
    fun_ext (low-at g w next fits (λ k. omega (arith, small k)) past (filled g n w next e h))

pub fill_plane-requires : goal.fill_plane-requires
fill_plane-requires c =
    (c.requires.fits.0, c.requires.fits.0.planes.0, c.requires.fits.2, pairs c.args.g c.args.n c.args.wv.now c.neighbours.new.out c.requires.fits.0 c.requires.fits.1 c.requires.past c.requires.light c.neighbours.ensures)

pub fill_plane-requires-then-g-eq2 : goal.fill_plane-requires-then-g-eq2
fill_plane-requires-then-g-eq2 c =
    (c.requires.fits.0, omega arith, refl, pairs c.args.g c.args.n c.args.wv.now c.neighbours.new.out c.requires.fits.0 c.requires.fits.1 c.requires.past c.requires.light c.neighbours.ensures)

pub overflow_mul-g : goal.overflow_mul-g
overflow_mul-g c =
    omega (arith, c.requires.fits.0.sides.texels)

pub put_second-requires : goal.put_second-requires
put_second-requires c =
    c.requires.fits.0.sides.texels

pub returns-then-g-eq2 : goal.returns-then-g-eq2
returns-then-g-eq2 c =
    let g = c.args.g in
    let next = c.neighbours.new.out in
    two-planes g (low_of next) c.requires.fits.0 c.if-g-eq2.true c.fill_plane.new.out c.put_second.new.out c.fill_plane.ensures
    (rw c.fill_plane-then-g-eq2.ensures at c.put_second.ensures) ∙ ap (infill_of g) (lows c.args.g c.args.n c.args.wv.now c.neighbours.new.out c.requires.fits.0 c.requires.fits.1 c.requires.past c.requires.light c.neighbours.ensures)

pub returns-else-g-eq2 : goal.returns-else-g-eq2
returns-else-g-eq2 c =
    let g = c.args.g in
    let next = c.neighbours.new.out in
    let e : g.planes ≡ 1 = omega arith in
    c.fill_plane.ensures ∙ one-plane g (low_of next) c.requires.fits.0 e ∙ ap (infill_of g) (lows c.args.g c.args.n c.args.wv.now c.neighbours.new.out c.requires.fits.0 c.requires.fits.1 c.requires.past c.requires.light c.neighbours.ensures)
