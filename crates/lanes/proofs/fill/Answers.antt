-- `lanes::fill` meets its contract: what is written over by one word n times is the output with that word from `to` on. Assumes nothing.
use Rattle.std.proofs.Common.{◌≡◌, ◌∙◌, sym, refl, List, ℕ, zero, suc, ◌+◌, ◌-◌, ◌≤◌, ◌<◌, length, replicate, take, drop, add-one, take-append-drop, append-nil, length-drop, length-take, rules, arith}
use Rattle.std.proofs.lemmas.List.{length-replicate}
use Rattle.std.proofs.lemmas.Slice.{put_mid-paste}
use Rattle.std.proofs.lemmas.List.Edits.{fill_from_more}
use Rattle.std.proofs.Math.Seq.{paste}
use Rattle.laws.specs.Lists.{put_at, put_at-none, put_at-turn}
use Rattle.lanes.proofs.fill.Goals as goal

pasted : (w o n : ℕ) (s : List ℕ) → o + n ≤ length s → paste s o (replicate n w) n ≡ put_at (λ (i : ℕ). w) o n s
pasted w o zero s h = let e : o + 0 ≡ o = omega arith in rw (e, append-nil) (take-append-drop o s ∙ put_at-none (λ (i : ℕ). w) o s)
pasted w o (suc n) s h =
    let l : o + n < length s = omega arith in
    let t : paste s o (replicate n w) n ≡ put_at (λ (i : ℕ). w) o n s = pasted w o n s (omega arith) in
    rw add-one at (sym (fill_from_more s o n w l) ∙ put_at-turn (λ (i : ℕ). w) o n w s _ t refl)

pub returns : goal.returns
returns c =
    let a = c.args in
    let n : a.to + a.n - a.to ≡ a.n = omega arith in
    let l : length (take (a.to + a.n - a.to) (drop a.to a.out.now)) ≡ a.n = simp (length-take, length-drop) (omega arith) in
    put_mid-paste a.to _ a.out.now _ (replicate a.n a.word) a.n (rw l at (c.fill.ensures.after (λ y e. search rules))) (sym n) (sym (length-replicate a.n a.word))
    ∙ pasted a.word a.to a.n a.out.now c.requires
