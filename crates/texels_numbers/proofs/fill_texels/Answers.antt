-- `texels_numbers::fill_texels` meets its contract: the same numbers everywhere, and the same mark. Assumes nothing.
use Rattle.std.proofs.Common.{◌≡◌, ◌∙◌, ℕ, List, length, replicate, take, drop, ◌++◌, length-take, rules, arith, ap}
use Rattle.texels_numbers.specs.NumberLaws.{filled_is}
use Rattle.texels_numbers.proofs.fill_texels.Goals as goal

pub returns-clause-out_after : goal.returns-clause-out_after
returns-clause-out_after c = c.put_fours.ensures _ (λ i r h e. search rules)

pub returns-clause-floats_after : goal.returns-clause-floats_after
returns-clause-floats_after c =
    let a = c.args in
    let l : length (take a.n a.floats.now) ≡ a.n = simp length-take (omega arith) in
    let marks : c.fill.new.self ≡ replicate a.n c.marks_of-marks.result = rw l at (c.fill.ensures.after (λ y e. search rules)) in
    ap (λ (t : List ℕ). t ++ drop a.n a.floats.now) marks ∙ filled_is c.marks_of-marks.result a.n a.floats.now (omega arith) ∙ rw c.marks_of-marks.ensures
