-- The ways out of the map's numbers, and the stores of a step's.
-- Assumes nothing.
use Rattle.std.specs.Prelude.{◌≡◌, refl, List, ℕ, ◌+◌, ◌-◌, ◌≤◌, ◌<◌, ◌++◌, ltb, get_or, length, drop, Bool, true, false, cond, set}
use Rattle.std.proofs.Common.{sym, ◌∙◌, arith, ext_get_or, length-append, length-drop, ap, length-set}
use Rattle.std.proofs.Math.Decide.{dec_lt}
use Rattle.std.proofs.Math.ListN.{get_or-append}
use Rattle.std.proofs.lemmas.List.{get_or-append_right, get_or-drop}
use borrow.Author.Tests.{lt-ltb, le-ltb}
use Rattle.laws.specs.Lists.{put, put_in, put-after, length-put, put_first, put-turn}
use Rattle.laws.specs.Numbers.{choice}
use Rattle.footprint.specs.declared.Footprint.{Footprint}
use Rattle.block_map.specs.Answer.{block_map}
use Rattle.block_map.specs.AnswerLaws.{map-small}
use Rattle.params_map.specs.declared.BlockMap.{BlockMap}
use Rattle.astc_numbers.specs.Numbers.{numbers_of, map_answer_in, map_in, led_to}

module _ (m d : BlockMap) (e : m ≡ d) (out : List ℕ) where
  pub refused : 20 ≤ m.answer → (m.answer ≡ map_answer_in d (length out)) × (out ≡ map_in d out)
  unfolding map_answer_in map_in
  refused h = rw (sym e, le-ltb m.answer 20 h) (rw (le-ltb m.answer 20 h) (refl, refl))

  pub no_room : m.answer < 20 → length out < 9 → (22 ≡ map_answer_in d (length out)) × (out ≡ map_in d out)
  unfolding map_answer_in map_in
  no_room h l = rw (sym e, lt-ltb m.answer 20 h, lt-ltb (length out) 9 l) (refl, refl)

  pub written : (n now : List ℕ) → m.answer < 20 → 9 ≤ length out → n ≡ numbers_of m → now ≡ put (λ (k : ℕ). get_or n k 0) 0 9 out
      → (m.answer ≡ map_answer_in d (length out)) × (now ≡ map_in d out)
  unfolding map_answer_in map_in
  written n now h l p q = rw (sym e, lt-ltb m.answer 20 h, le-ltb (length out) 9 l, lt-ltb m.answer 20 h) (refl, rw p at q)

-- no answer is above the refusals
pub map-answer-small : (s : List ℕ) (foot : Footprint) (room : ℕ) → map_answer_in (block_map s foot) room < 23
unfolding map_answer_in
map-answer-small s foot room =
    let l : (block_map s foot).answer < 23 = (map-small s foot).answer in
    choice (ltb (block_map s foot).answer 20) _ _ (choice (ltb room 9) 22 _ (omega arith) l) l

-- ---- what stores leave
-- the length, whatever is stored
pub second-place : (s : List ℕ) (x : ℕ) → 3 ≤ length s → 1 < length (set s 0 x)
second-place s x h = omega (arith, length-set s 0 x)

pub three-stores : (next painted bad : ℕ) (moved : List ℕ) → set (set (set moved 0 next) 1 painted) 2 bad ≡ put (λ (k : ℕ). get_or (led_to next painted bad) k 0) 0 3 moved
unfolding led_to
three-stores next painted bad moved =
    let f : ℕ → ℕ = λ k. get_or (led_to next painted bad) k 0 in
    let one : set moved 0 next ≡ put f 0 1 moved = put_first f 0 moved _ refl in
    let two : set (set moved 0 next) 1 painted ≡ put f 0 2 moved = put-turn f 0 1 _ moved _ one (omega arith) refl in
    put-turn f 0 2 _ moved _ two (omega arith) refl

pub nine : (m : BlockMap) → length (numbers_of m) ≡ 9
unfolding numbers_of
nine m = refl

-- ---- numbers copied to the first places
pub copied-put : (n : ℕ) (xs s : List ℕ) → length xs ≡ n → n ≤ length s → xs ++ drop n s ≡ put (λ (k : ℕ). get_or xs k 0) 0 n s
copied-put n xs s e h = ext_get_or 0 (xs ++ drop n s) (put (λ (i : ℕ). get_or xs i 0) 0 n s) (l ∙ sym (length-put (λ (i : ℕ). get_or xs i 0) 0 n s)) (λ k i. go k (rw l at i) (dec_lt k n))
  where
    l : length (xs ++ drop n s) ≡ length s
    l = simp (length-append, length-drop) (omega arith)

    go : (k : ℕ) → k < length s → Dec (k < n) → get_or (xs ++ drop n s) k 0 ≡ get_or (put (λ (i : ℕ). get_or xs i 0) 0 n s) k 0
    go k i (yes p) = get_or-append xs (drop n s) 0 k (rw e p) ∙ sym (put_in (λ (i : ℕ). get_or xs i 0) 0 n s k i (omega arith) p)
    go k i (no p) =
        let m : n + (k - n) ≡ k = omega arith in
        get_or-append_right xs (drop n s) n k 0 e (omega arith) ∙ get_or-drop n s (k - n) 0 ∙ rw m (sym (put-after (λ (i : ℕ). get_or xs i 0) 0 n s k i (omega arith)))
