-- The closed forms by which the loops bring values to bytes, and that they give each range's bytes: computed tests over all of its values.
-- Assumes nothing.
use Rattle.std.specs.Prelude.{◌≡◌, Bool, cond, List, ℕ, ◌+◌, ◌*◌, ◌-◌, ◌/◌, ◌%◌, ◌^◌, ◌≤◌, ◌<◌, T, eqb, length, get_or, replicate}
use Rattle.std.proofs.Common.{sym, ap, ◌∙◌, mod-eq_of_lt, one-mul, lt_of_le_of_lt, arith, pow_mono, eqb→eq, lit<, mul-le-mul, mod-lt, lt_of_lt_of_le, pow_pos}
use Rattle.std.proofs.Math.Decide.{dec_lt}
use Rattle.std.proofs.lemmas.List.{length-replicate, get_or-replicate}
use Rattle.laws.specs.Lists.{put, length-put, put_in, put-after, is-list_of}
use Rattle.laws.specs.Table.{all, all-at}
use Rattle.lanes.specs.Lanes.{eights}
use Rattle.sequence_ranges.specs.Ranges.{ranges, range_of, levels}
use Rattle.sequence_ranges.specs.Patterns.{copies, repeated, spelt}
use Rattle.endpoints_unquantise.specs.Patterns.{trit_rows, quint_rows}
use Rattle.endpoints_unquantise.specs.Unquantised.{by_row, unquantise, endpoint_value, endpoint_values}
use Rattle.endpoints_unquantise.specs.declared.Rule.{Rule}
use Rattle.endpoints_unquantise.specs.declared.Repeat.{Repeat}
use Rattle.std.proofs.lemmas.Nat.{shr_le}

-- x, or 255 - x where v is odd
abbrev pub flipped : ℕ → ℕ → ℕ
flipped v x = cond (eqb (v % 2) 0) x (255 - x)

-- the value v by a rule of trits or quints
unfoldable pub unpacked : Rule → ℕ → ℕ
unpacked p v =
    let x = v % 2 ^ p.bits / 2 in
    flipped v ((v / 2 ^ p.bits * p.by + x * p.spread + x / 2 ^ p.over) / 4 % 256)

-- the value v with its bits repeated
unfoldable pub copied : Repeat → ℕ → ℕ
copied p v = (v * p.spread + v / 2 ^ p.over) % 256

-- small enough for 16 bits
pub record Narrow (p : Rule) : Type 0 where
  pub bits : p.bits ≤ 6
  pub by : p.by ≤ 204
  pub spread : p.spread ≤ 278
  pub over : p.over ≤ 8

pub record NarrowRepeat (p : Repeat) : Type 0 where
  pub spread : p.spread ≤ 36
  pub over : p.over ≤ 8

-- f gives the byte of each value of the range q
abbrev pub Gives : (ℕ → ℕ) → ℕ → Type 0
Gives f q = (v : ℕ) → v < levels (range_of q) → f v ≡ endpoint_value q v

pub record Unpacks (q : ℕ) (p : Rule) : Type 0 where
  pub narrow : Narrow p
  pub right : Gives (unpacked p) q

pub record Repeats (q : ℕ) (p : Repeat) : Type 0 where
  pub narrow : NarrowRepeat p
  pub right : Gives (copied p) q

-- ---- the tests
-- f gives the byte of the value v of the range q
unfoldable pub same : (ℕ → ℕ) → ℕ → ℕ → Bool
unfolding ranges range_of spelt trit_rows quint_rows copies repeated by_row unquantise endpoint_value
same f q v = eqb (f v) (endpoint_value q v)

tested : (f : ℕ → ℕ) (q : ℕ) → T (all (same f q) (levels (range_of q))) → Gives f q
unfolding same
tested f q t v h = eqb→eq (f v) (endpoint_value q v) (all-at (same f q) (levels (range_of q)) t v h)

-- at every value of the range q
unfoldable pub same_all : (ℕ → ℕ) → ℕ → Bool
unfolding same levels ranges range_of
same_all f q = all (same f q) (levels (range_of q))

-- a rule that passes the test, as the code has it: r is the rule, and q the range n
pub unpacks : (p r : Rule) (n q : ℕ) → Narrow p → T (same_all (unpacked p) n) → r ≡ p → q ≡ n → Unpacks q r
unfolding same_all
unpacks p r n q s t e h = rw (e, h) (record { narrow = s; right = tested (unpacked p) n t })

pub repeats : (p r : Repeat) (n q : ℕ) → NarrowRepeat p → T (same_all (copied p) n) → r ≡ p → q ≡ n → Repeats q r
unfolding same_all
repeats p r n q s t e h = rw (e, h) (record { narrow = s; right = tested (copied p) n t })

-- ---- the parts of a sum are small enough for 16 bits
pub record Parts (p : Rule) (v : ℕ) : Type 0 where
  pub digit : v / 2 ^ p.bits * p.by ≤ 52020
  pub low : v % 2 ^ p.bits / 2 ≤ 31
  pub spread : v % 2 ^ p.bits / 2 * p.spread ≤ 8618
  pub over : v % 2 ^ p.bits / 2 / 2 ^ p.over ≤ 31

pub parts : (p : Rule) (v : ℕ) → Narrow p → v < 256 → Parts p v
parts p v s h =
    let d : v / 2 ^ p.bits ≤ 255 = omega (arith, shr_le v p.bits) in
    let m : v % 2 ^ p.bits < 64 = lt_of_lt_of_le (mod-lt v (pow_pos p.bits)) (pow_mono s.bits) in
    let x : v % 2 ^ p.bits / 2 ≤ 31 = omega arith in
    record {
      digit = mul-le-mul d s.by;
      low = x;
      spread = mul-le-mul x s.spread;
      over = omega (arith, shr_le (v % 2 ^ p.bits / 2) p.over);
    }

pub copied-most : (p : Repeat) (v : ℕ) → NarrowRepeat p → v < 256 → v * p.spread + v / 2 ^ p.over ≤ 9435
copied-most p v s h =
    let a : v ≤ 255 = omega arith in
    let m : v * p.spread ≤ 9180 = mul-le-mul a s.spread in
    omega (arith, shr_le v p.over)

-- ---- a shifted one is a power of two
pub one_shl : (n : ℕ) → n ≤ 6 → 1 * 2 ^ n % 65536 ≡ 2 ^ n
one_shl n h = rw (one-mul (2 ^ n)) (mod-eq_of_lt (lt_of_le_of_lt (pow_mono h) (lit< tt)))

-- ---- the value 0 is the byte 0, so places past the values may be filled or not
zero_test : ℕ → Bool
unfolding ranges range_of spelt trit_rows quint_rows copies repeated by_row unquantise endpoint_value
zero_test q = eqb (endpoint_value q 0) 0

pub value-zero : (q : ℕ) → q < 21 → endpoint_value q 0 ≡ 0
unfolding zero_test
value-zero q h = eqb→eq (endpoint_value q 0) 0 (all-at zero_test 21 tt q h)

-- what a loop has filled with f's bytes of a sequence's n values is the list of all its bytes
pub all-filled : (f : ℕ → ℕ) (q n : ℕ) (seq out last : List ℕ) → q < 21 → n ≤ 18 → Gives f q → ((i : ℕ) → get_or seq i 0 < levels (range_of q))
    → ((i : ℕ) → n ≤ i → get_or seq i 0 ≡ 0) → out ≡ replicate 32 0 → last ≡ put (λ (k : ℕ). f (get_or seq k 0)) 0 (eights n) out → last ≡ endpoint_values q seq
unfolding endpoint_values
all-filled f q n seq out last h l right small past e d =
    is-list_of _ 32 last (ap length d ∙ length-put g 0 (eights n) out ∙ ap length e ∙ length-replicate {A = ℕ} 32 0) (λ k m. ap (λ (x : List ℕ). get_or x k 0) d ∙ at k m (dec_lt k (eights n)))
  where
    g : ℕ → ℕ
    g k = f (get_or seq k 0)

    inside : (k : ℕ) → k < 32 → k < length out
    inside k m = rw (e, length-replicate {A = ℕ} 32 0) m

    at : (k : ℕ) → k < 32 → Dec (k < eights n) → get_or (put g 0 (eights n) out) k 0 ≡ endpoint_value q (get_or seq k 0)
    at k m (yes p) = put_in g 0 (eights n) out k (inside k m) (omega arith) p ∙ right (get_or seq k 0) (small k)
    at k m (no p) =
        put-after g 0 (eights n) out k (inside k m) (omega arith)
        ∙ ap (λ (x : List ℕ). get_or x k 0) e
        ∙ get_or-replicate 32 k 0 0 m
        ∙ sym (ap (endpoint_value q) (past k (omega arith)) ∙ value-zero q h)
