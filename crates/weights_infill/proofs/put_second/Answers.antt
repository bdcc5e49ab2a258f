-- The places from most_texels on hold the first places of the plane.
use Rattle.std.proofs.Common.{◌≡◌, ◌∙◌, sym, List, ℕ, zero, suc, ◌+◌, ◌-◌, ◌≤◌, ◌<◌, length, get_or, take, add-one, length-take, rules, arith}
use Rattle.std.proofs.lemmas.List.{get_or-take}
use Rattle.std.proofs.lemmas.Slice.{put_mid-paste}
use Rattle.std.proofs.lemmas.List.Edits.{paste_none, paste_more}
use Rattle.std.proofs.Math.Seq.{paste}
use Rattle.laws.specs.Lists.{put_at, put_at-none, put_at-turn}
use Rattle.weights_infill.proofs.put_second.Goals as goal

copied : (f : ℕ → ℕ) (xs s : List ℕ) (o n : ℕ) → o + n ≤ length xs → n ≤ length s → ((i : ℕ) → i < n → get_or s i 0 ≡ f i) → paste xs o s n ≡ put_at f o n xs
copied f xs s o zero h l same = sym (paste_none xs o s) ∙ put_at-none f o xs
copied f xs s o (suc n) h l same =
    let room : o + n < length xs = omega arith in
    let more : n < length s = omega arith in
    let before = copied f xs s o n (omega arith) (omega arith) (λ i q. same i (omega arith)) in
    rw add-one at (sym (paste_more xs o s n 0 room more) ∙ put_at-turn f o n _ xs _ before (same n (omega arith)))

pub returns : goal.returns
returns c =
    let a = c.args in
    let first = take a.n a.plane.now in
    let e : 144 + a.n - 144 ≡ a.n = omega arith in
    let l : length first ≡ a.n = simp length-take (omega arith) in
    put_mid-paste 144 _ a.out.now _ first a.n (search rules) (sym e) (sym l)
    ∙ copied _ a.out.now first 144 a.n (omega arith) (omega arith) (λ i h. get_or-take a.n a.plane.now i 0 h)
