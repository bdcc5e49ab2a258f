-- As fill_rows: the texels of the rows before t are filled, and past a row's end a lane counts 0 times.
use mathlib.Core.Path.{◌≡◌, refl, sym, ap, ◌∙◌}
use Prim.Native.Nat.{ℕ, zero, suc, ◌*◌, ◌/◌, ◌%◌, ◌≤◌, ◌<◌, zero-le}
use native.Mathlib.Omega.{arith}
use lib.ListN.{get_or, replicate, length, take, drop}
use mathlib.Core.List.{List, ◌++◌}
use Rattle.std.proofs.Common.{rules, add-one, length-take}
use Rattle.std.proofs.lemmas.List.Edits.{fill_more}
use Rattle.laws.specs.Numbers.{choice-le}
use Rattle.laws.specs.Lists.{put, put-none, put-turn, zeros-at}
use Rattle.weights_grid.specs.Grids.{down_of, Fits}
use Rattle.weights_grid.specs.declared.Grid.{Grid}
use Rattle.weights_grid.specs.GridLaws.{sides-in, down-at, down-in, row-start}
use Rattle.weights_infill.specs.FillLaws.{texels-none, texels-turn, texels-end}
use Rattle.weights_infill_down.specs.Down.{whole_at, whole_of}
use Rattle.weights_infill_down.specs.DownLaws.{down_is}
use Rattle.footprint.specs.Footprints.{most_weights}
use mathlib.Core.Bool.{cond}
use native.Mathlib.Nat.{mul-le-mul, mul-one, mul-zero}
use lib.Dec.{ltb}
use borrow.Author.Tests.{lt-ltb, le-ltb}
use Rattle.weights_infill_down.proofs.fill_down.Goals as goal

kept : (w s : ℕ) (keep : List ℕ) → w ≤ 16 → keep ≡ put (λ (i : ℕ). 1) 0 w (replicate 16 0)
    → get_or keep s 0 ≡ cond (ltb s w) 1 0
kept w s keep h e = rw e (zeros-at (λ (i : ℕ). 1) w 16 s h)

kept_in : (w s : ℕ) (keep : List ℕ) → w ≤ 16 → keep ≡ put (λ (i : ℕ). 1) 0 w (replicate 16 0)
    → s < w → get_or keep s 0 ≡ 1
kept_in w s keep h e l = kept w s keep h e ∙ rw (lt-ltb s w l)

kept-past : (w s : ℕ) (keep : List ℕ) → w ≤ 16 → keep ≡ put (λ (i : ℕ). 1) 0 w (replicate 16 0)
    → w ≤ s → get_or keep s 0 ≡ 0
kept-past w s keep h e l = kept w s keep h e ∙ rw (le-ltb s w l)

kept-le : (w s : ℕ) (keep : List ℕ) → w ≤ 16 → keep ≡ put (λ (i : ℕ). 1) 0 w (replicate 16 0)
    → get_or keep s 0 ≤ 1
kept-le w s keep h e = rw (kept w s keep h e) (choice-le (ltb s w) 1 0 (omega arith) (omega arith))

-- 1 in the first w places
ones : (w : ℕ) (s : List ℕ) → w ≤ length s → replicate w 1 ++ drop w s ≡ put (λ (i : ℕ). 1) 0 w s
ones zero s h = put-none (λ (i : ℕ). 1) 0 s
ones (suc w) s h =
    let l : w < length s = omega arith in
    rw add-one at (sym (fill_more w 1 s l) ∙ put-turn (λ (i : ℕ). 1) 0 w 1 s _ (ones w s (omega arith)) zero-le refl)

filled : (w : ℕ) (k z : List ℕ) → w ≤ 16 → length z ≡ 16 → k ≡ replicate (length (take w z)) 1 → k ++ drop w z ≡ put (λ (i : ℕ). 1) 0 w z
filled w k z h n e =
    let l : length (take w z) ≡ w = simp length-take (omega arith) in
    ap (λ (t : List ℕ). t ++ drop w z) (rw l at e) ∙ ones w z (omega arith)

in-grid : {g : Grid} → (p t : ℕ) → Fits g → p ≡ down_of g t → t < g.footprint.height → p / 16 ≤ 11
in-grid p t fits e h = rw e (down-in fits t h)

rows : {g : Grid} → (p t n : ℕ) → Fits g → p ≡ down_of g t → t < g.footprint.height → n ≡ p / 16
    → n * g.width ≤ 11 * 12
rows p t n fits e h m =
    mul-le-mul {n₂ = 11} {m₂ = 12} (omega (arith, m, in-grid p t fits e h)) (omega (arith, fits.wide, sides-in fits))

pub step_of-d-requires : goal.step_of-d-requires
step_of-d-requires c = c.requires.0.sides.side-high

pub overflow_cast-height : goal.overflow_cast-height
overflow_cast-height c =
    omega (arith, c.requires.0.high, sides-in c.requires.0)

pub eights-m-requires : goal.eights-m-requires
eights-m-requires c =
    omega (arith, sides-in c.requires.0)

pub loop-t-init : goal.loop-t-init
loop-t-init c =
    let a = c.args in
    (omega arith, c.requires.3 ∙ texels-none a.g.footprint.width (whole_of a.g a.wv.now) most_weights)

pub overflow_cast-t : goal.overflow_cast-t
overflow_cast-t c =
    omega (arith, sides-in c.requires.0)

pub place-p-requires : goal.place-p-requires
place-p-requires c =
    omega (arith, c.requires.0.high, sides-in c.requires.0, c.step_of-d.ensures.1)

pub overflow_mul-from : goal.overflow_mul-from
overflow_mul-from c =
    let place = down-at c.args.g c.step_of-d.result c.place-p.result c.loop-t.t c.place-p.ensures.0 c.step_of-d.ensures.0 in
    omega (arith, rows c.place-p.result c.loop-t.t c.from.result c.requires.0 place c.loop-t-test.true c.from.ensures)

pub fill_row_whole-requires : goal.fill_row_whole-requires
fill_row_whole-requires c =
    let fits = c.requires.0 in
    let place = down-at c.args.g c.step_of-d.result c.place-p.result c.loop-t.t c.place-p.ensures.0 c.step_of-d.ensures.0 in
    (omega (arith, row-start c.requires.0 c.loop-t.t c.loop-t.o (omega arith) c.loop-t.invariant.0, sides-in fits), omega (arith, sides-in fits), omega (arith, rows c.place-p.result c.loop-t.t c.from.result c.requires.0 place c.loop-t-test.true c.from.ensures, fits.wide, sides-in fits), omega arith, λ s. kept-le c.args.g.footprint.width s (c.fill.new.self ++ drop c.args.g.footprint.width (replicate 16 0)) (omega (arith, sides-in c.requires.0)) (filled c.args.g.footprint.width c.fill.new.self (replicate 16 0) (omega (arith, sides-in c.requires.0)) refl (c.fill.ensures.after (λ y e. search rules))))

pub overflow_add-o : goal.overflow_add-o
overflow_add-o c =
    omega (arith, row-start c.requires.0 c.loop-t.t c.loop-t.o (omega arith) c.loop-t.invariant.0, sides-in c.requires.0)

pub loop-t-preserved : goal.loop-t-preserved
loop-t-preserved c =
    let a = c.args in
    let l = c.loop-t in
    let p = c.place-p.result in
    let keep = (c.fill.new.self ++ drop c.args.g.footprint.width (replicate 16 0)) in
    let whole : ℕ → ℕ = whole_at a.wv.now a.g.width (p / 16 * a.g.width) (p % 16) in
    let place = down-at c.args.g c.step_of-d.result c.place-p.result c.loop-t.t c.place-p.ensures.0 c.step_of-d.ensures.0 in
    let lanes = c.eights-m in (
      omega (arith, l.invariant.0),
      texels-turn a.g.footprint.width l.t lanes.result (whole_of a.g a.wv.now) (λ (s : ℕ). whole s * get_or keep s 0)
          l.out _ l.o l.invariant.0 (omega (arith, lanes.ensures))
          (λ s h. ap (λ (x : ℕ). whole s * x) (kept_in c.args.g.footprint.width s keep (omega (arith, sides-in c.requires.0)) (filled c.args.g.footprint.width c.fill.new.self (replicate 16 0) (omega (arith, sides-in c.requires.0)) refl (c.fill.ensures.after (λ y e. search rules))) h) ∙ mul-one (whole s)
          ∙ ap (λ (n : ℕ). whole_at a.wv.now a.g.width (n / 16 * a.g.width) (n % 16) s) place)
          (λ s h m. ap (λ (x : ℕ). whole s * x) (kept-past c.args.g.footprint.width s keep (omega (arith, sides-in c.requires.0)) (filled c.args.g.footprint.width c.fill.new.self (replicate 16 0) (omega (arith, sides-in c.requires.0)) refl (c.fill.ensures.after (λ y e. search rules))) h) ∙ mul-zero (whole s))
          l.invariant.1
          (rw c.from.ensures at c.fill_row_whole.ensures),
    )

pub returns : goal.returns
returns c =
    let a = c.args in
    let l = c.loop-t in
    let e : l.t ≡ a.g.footprint.height = omega arith in
    texels-end a.g (whole_of a.g a.wv.now) l.out l.o (rw e at l.invariant.0) l.invariant.1
    ∙ down_is a.g c.requires.0 c.requires.2 c.requires.1 a.wv.now
