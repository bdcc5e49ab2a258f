-- The columns and the spread rows are the standard's places, so each texel between them is the standard's.
use mathlib.Core.Path.{refl, ap, ◌∙◌}
use Prim.Native.Nat.{ℕ}
use native.Mathlib.Omega.{arith}
use lib.ListN.{get_or}
use mathlib.Core.List.{List}
use native.Mathlib.Nat.{mod-lt}
use Rattle.weights_infill.specs.SpreadLaws.{spread-past}
use Rattle.weights_infill.specs.PlaneLaws.{column-at, column-lt, plane-is}
use Rattle.weights_infill.proofs.fill_plane.Goals as goal

pub spread-requires : goal.spread-requires
spread-requires c =
    let a = c.args in
    let fits = c.requires.0 in record { fits = (fits, c.requires.1, refl); columns = λ s h. column-at a.g fits _ c.columns.new.at s c.columns.ensures.at_after h; past = c.requires.3.past }

pub fill_rows-requires : goal.fill_rows-requires
fill_rows-requires c =
    let a = c.args in
    let fits = c.requires.0 in record { fits = (fits, c.requires.2); sixteenths = λ s. column-lt a.g fits _ c.columns.new.part s c.columns.ensures.part_after (mod-lt _ (omega arith)); past = λ i h. ap (λ (l : List ℕ). get_or l i 0) c.spread.ensures ∙ spread-past a.g a.next.now a.plane fits c.requires.1 i h }

pub returns : goal.returns
returns c = search plane-is
