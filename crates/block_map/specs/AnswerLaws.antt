-- How large the answer of a block and the numbers of its map are, and the ways out of the map.
-- Assumes nothing.
use Rattle.std.specs.Prelude.{◌≡◌, refl, Bool, true, false, cond, List, eqb, leb, length}
use Rattle.std.proofs.Common.{sym, ◌∙◌, leb→le}
use Prim.Native.Nat.{ℕ, ◌≤◌, ◌<◌}
use native.Mathlib.Omega.{arith}
use borrow.Author.Tests.{ne_eqb, eqb-true, eqb-false}
use Rattle.laws.specs.Numbers.{choice}
use Rattle.laws.specs.Table.{all-at}
use Rattle.bits.specs.Bits.{bytes}
use Rattle.sequence_ranges.specs.Ranges.{tops, top_of}
use Rattle.footprint.specs.Footprints.{texels_of, listed}
use Rattle.footprint.specs.declared.Footprint.{Footprint}
use Rattle.params_rules.specs.Fields.{fields_of, answer}
use Rattle.params_rules.specs.FieldLaws.{ordinary, answer_lt}
use Rattle.params_room.specs.RoomLaws.{range-is}
use Rattle.params_map.specs.Map.{legal_map, no_map, map_of}
use Rattle.params_map.specs.MapLaws.{InOrder, map-answer as answer-mapped, map-legal, map-none, in_order}
use Rattle.params_map.specs.declared.BlockMap.{BlockMap}
use Rattle.block_refusal.specs.Refusal.{first_refusal, block_refusal}
use Rattle.block_refusal.specs.RefusalLaws.{out_first, accepted, not-refused, refusal-small}
use Rattle.block_map.specs.Answer.{answer_of, map_answer, block_map}

-- ---- the answer of a call that is refused, and of one that is not
module _ (s : List ℕ) (foot : Footprint) (room : ℕ) where
  pub answer-refused : (a : ℕ) → a ≡ block_refusal (length s) foot room → (a ≡ 0 → ⊥) → answer_of s foot room ≡ a
  unfolding answer_of
  answer-refused a e n = rw (sym e, ne_eqb a 0 n)

  pub answer-accepted : block_refusal (length s) foot room ≡ 0 → answer_of s foot room ≡ answer (fields_of (bytes 16 s)) foot
  unfolding answer_of
  answer-accepted e = rw e

  -- no answer is above the refusals
  pub answer-small : answer_of s foot room < 23
  unfolding answer_of
  answer-small =
      let l = answer_lt (fields_of (bytes 16 s)) foot in
      choice (eqb (block_refusal (length s) foot room) 0) (answer (fields_of (bytes 16 s)) foot) _ (omega arith) (refusal-small (length s) foot room)

map-answer-lt : (s : List ℕ) (foot : Footprint) → map_answer s foot < 23
unfolding map_answer
map-answer-lt s foot = answer-small s foot (texels_of foot)

-- ---- the ways out of the map
module _ (s : List ℕ) (foot : Footprint) where
  pub map-refused : (a : ℕ) (m : BlockMap) → a ≡ first_refusal (length s) foot → (a ≡ 0 → ⊥) → m ≡ no_map a → m ≡ block_map s foot
  unfolding map_answer block_map
  map-refused a m e n q = q ∙ rw (answer-refused s foot (texels_of foot) a (out_first (length s) foot (texels_of foot) a e n) n, ne_eqb a 0 n)

  pub map-answer : length s ≡ 16 → listed foot ≡ true → map_answer s foot ≡ answer (fields_of (bytes 16 s)) foot
  unfolding map_answer
  map-answer h l = answer-accepted s foot (texels_of foot) (not-refused (length s) foot (texels_of foot) (record { sixteen = h; listed = l; room = omega arith }))

  pub map-block : (v : ℕ) (m : BlockMap) → length s ≡ 16 → listed foot ≡ true → v ≡ bytes 16 s → m ≡ map_of v foot → m ≡ block_map s foot
  unfolding block_map
  map-block v m h l e q = rw (map-answer h l, q, e) (go (eqb a 0) refl)
    where
      a : ℕ
      a = answer (fields_of (bytes 16 s)) foot

      go : (t : Bool) → eqb a 0 ≡ t → map_of (bytes 16 s) foot ≡ cond t (map_of (bytes 16 s) foot) (no_map a)
      go true x = refl
      go false x = map-none (fields_of (bytes 16 s)) foot a refl (eqb-false a 0 x)

-- ---- a map with the answer 0
pub record LegalMap (s : List ℕ) (foot : Footprint) : Type 0 where
  pub sixteen : length s ≡ 16
  pub listed : listed foot ≡ true
  pub answer : answer (fields_of (bytes 16 s)) foot ≡ 0
  pub map : block_map s foot ≡ map_of (bytes 16 s) foot

none : (n : ℕ) → (no_map n).answer ≡ n
unfolding no_map
none n = refl

answer-in : (s : List ℕ) (foot : Footprint) → (block_map s foot).answer ≡ map_answer s foot
unfolding block_map map_answer answer_of
answer-in s foot = go (block_refusal (length s) foot (texels_of foot)) (eqb (block_refusal (length s) foot (texels_of foot)) 0) refl
  where
    v : ℕ
    v = bytes 16 s

    a : ℕ
    a = answer (fields_of v) foot

    inner : (t : Bool) → eqb a 0 ≡ t → (cond t (map_of v foot) (no_map a)).answer ≡ a
    inner true e = answer-mapped (fields_of v) foot
    inner false e = none a

    go : (r : ℕ) (t : Bool) → eqb r 0 ≡ t → (let x : ℕ = cond t a r in (cond (eqb x 0) (map_of v foot) (no_map x)).answer ≡ x)
    go r true e = inner (eqb a 0) refl
    go r false e = rw e (none r)

mapped : (s : List ℕ) (foot : Footprint) → map_answer s foot ≡ 0 → block_map s foot ≡ map_of (bytes 16 s) foot
unfolding block_map
mapped s foot z = rw z

pub legal-map : (s : List ℕ) (foot : Footprint) → (block_map s foot).answer ≡ 0 → LegalMap s foot
unfolding map_answer
legal-map s foot h = go (eqb (block_refusal (length s) foot (texels_of foot)) 0) refl
  where
    z : map_answer s foot ≡ 0
    z = sym (answer-in s foot) ∙ h

    go : (t : Bool) → eqb (block_refusal (length s) foot (texels_of foot)) 0 ≡ t → LegalMap s foot
    go true e =
        let r = eqb-true (block_refusal (length s) foot (texels_of foot)) 0 e in
        let c = accepted (length s) foot (texels_of foot) r in
        record { sixteen = c.sixteen; listed = c.listed; answer = sym (answer-accepted s foot (texels_of foot) r) ∙ z; map = mapped s foot z }
    go false e =
        let n = eqb-false (block_refusal (length s) foot (texels_of foot)) 0 e in
        absurd (n (sym (answer-refused s foot (texels_of foot) _ refl n) ∙ z))

-- ---- how large its numbers are
pub record MapBounds (m : BlockMap) : Type 0 where
  pub answer : m.answer < 23
  pub top : m.top ≤ 255
  pub low_at : m.low_at ≤ 128
  pub low_len : m.low_len ≤ 128
  pub end_at : m.end_at ≤ 128
  pub end_len : m.end_len ≤ 128
  pub extra_at : m.extra_at ≤ 128
  pub extra_len : m.extra_len ≤ 128
  pub weight_at : m.weight_at ≤ 128
  pub weight_len : m.weight_len ≤ 128

top_test : ℕ → Bool
unfolding tops top_of
top_test q = leb (top_of q) 255

top-most : (q : ℕ) → q ≤ 20 → top_of q ≤ 255
unfolding top_test
top-most q h = leb→le (top_of q) 255 (all-at top_test 21 tt q (omega arith))

map-top : (v : ℕ) (foot : Footprint) → answer (fields_of v) foot ≡ 0 → (map_of v foot).top ≤ 255
unfolding legal_map
map-top v foot e =
    let w = range-is _ foot (ordinary (fields_of v) foot e).rules in
    rw (map-legal (fields_of v) foot e) (top-most _ w.most)

order_small : (m : BlockMap) → m.answer < 23 → m.top ≤ 255 → InOrder m → MapBounds m
order_small m h t o = record {
  answer = h;
  top = t;
  low_at = omega (arith, o.first);
  low_len = omega (arith, o.ends, o.extra, o.weights, o.last);
  end_at = omega (arith, o.extra, o.weights, o.last);
  end_len = omega (arith, o.extra, o.weights, o.last);
  extra_at = omega (arith, o.weights, o.last);
  extra_len = omega (arith, o.weights, o.last);
  weight_at = omega (arith, o.last);
  weight_len = omega (arith, o.last);
}

none-small : (a : ℕ) → a < 23 → MapBounds (no_map a)
unfolding no_map
none-small a h = record {
  answer = h;
  top = omega arith;
  low_at = omega arith;
  low_len = omega arith;
  end_at = omega arith;
  end_len = omega arith;
  extra_at = omega arith;
  extra_len = omega arith;
  weight_at = omega arith;
  weight_len = omega arith;
}

other-small : (s : List ℕ) (foot : Footprint) → eqb (map_answer s foot) 0 ≡ false → MapBounds (block_map s foot)
unfolding block_map
other-small s foot e = rw e (none-small (map_answer s foot) (map-answer-lt s foot))

pub map-small : (s : List ℕ) (foot : Footprint) → MapBounds (block_map s foot)
map-small s foot = go (eqb (block_map s foot).answer 0) refl
  where
    go : (t : Bool) → eqb (block_map s foot).answer 0 ≡ t → MapBounds (block_map s foot)
    go true e =
        let l = legal-map s foot (eqb-true _ 0 e) in
        let z : (map_of (bytes 16 s) foot).answer ≡ 0 = answer-mapped (fields_of (bytes 16 s)) foot ∙ l.answer in
        rw l.map (order_small _ (omega (arith, z)) (map-top (bytes 16 s) foot l.answer) (in_order (bytes 16 s) foot z))
    go false e = other-small s foot (rw (answer-in s foot) at e)
