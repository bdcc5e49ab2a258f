-- What the five zeros are written over is the output with zeros in those places.
use Rattle.std.proofs.Common.{◌≡◌, ◌∙◌, sym, refl, List, ℕ, zero, suc, ◌+◌, ◌-◌, ◌≤◌, ◌<◌, length, replicate, take, drop, add-one, take-append-drop, append-nil, length-drop, length-take, rules, arith}
use Rattle.std.proofs.lemmas.Slice.{put_mid-paste}
use Rattle.std.proofs.lemmas.List.Edits.{fill_from_more}
use Rattle.std.proofs.Math.Seq.{paste}
use Rattle.laws.specs.Lists.{put, put-none, put_step}
use Rattle.sequence_groups.proofs.clear.Goals as goal

pasted : (o n : ℕ) (s : List ℕ) → o + n ≤ length s → paste s o (replicate n 0) n ≡ put (λ (k : ℕ). 0) o (o + n) s
pasted o zero s h = let e : o + 0 ≡ o = omega arith in rw (e, append-nil) (take-append-drop o s ∙ put-none (λ (k : ℕ). 0) o s)
pasted o (suc n) s h =
    let l : o + n < length s = omega arith in
    rw add-one at (sym (fill_from_more s o n 0 l)) ∙ put_step (λ (k : ℕ). 0) o n s _ 0 (pasted o n s (omega arith)) refl

pub returns : goal.returns
returns c =
    let a = c.args in
    let n : a.n + 5 - a.n ≡ 5 = omega arith in
    let l : length (take (a.n + 5 - a.n) (drop a.n a.out.now)) ≡ 5 = simp (length-take, length-drop) (omega arith) in
    put_mid-paste a.n _ a.out.now _ (replicate 5 0) 5 (rw l at (c.fill.ensures.after (λ y e. search rules))) (sym n) refl
    ∙ pasted a.n 5 a.out.now (omega arith)
