-- The widest range in closed form: with k whole bits a value, it is one of three. Held to its definition at every count and room by one test.
-- Assumes nothing.
use Rattle.std.specs.Prelude.{◌≡◌, Bool, true, cond, ℕ, ◌+◌, ◌-◌, ◌*◌, ◌/◌, ◌%◌, ◌≤◌, ◌<◌, T, eqb, leb}
use Rattle.std.proofs.Common.{arith, eqb→eq, leb→le, le-leb}
use Rattle.std.proofs.Math.Arith.{digits_div, digits_mod}
use Rattle.std.proofs.lemmas.Bool.{lt-leb}
use Rattle.laws.specs.Table.{all-at, both, both_left, both_right, then, in_then}
use Rattle.sequence_ranges.specs.Ranges.{range_of, ranges}
use Rattle.sequence_ranges.specs.Ranges.{total_of}
use Rattle.params_config.specs.Ranges.{cost}
use Rattle.params_room.specs.Room.{widest}

-- an even count of values, and a room that the narrowest range fits
pub record Roomy (n room : ℕ) : Type 0 where
  pub even : n % 2 ≡ 0
  pub least : 2 ≤ n
  pub most : n ≤ 18
  pub fits : (13 * n + 4) / 5 ≤ room
  pub block : room ≤ 128

-- 65536 / n, rounded up
abbrev pub inverse_of : ℕ → ℕ
inverse_of n =
    cond (eqb n 2) 32768
    (cond (eqb n 4) 16384
    (cond (eqb n 6) 10923
    (cond (eqb n 8) 8192
    (cond (eqb n 10) 6554
    (cond (eqb n 12) 5462
    (cond (eqb n 14) 4682
    (cond (eqb n 16) 4096
    3641)))))))

-- the whole bits a value
unfoldable pub whole_bits : ℕ → ℕ → ℕ
whole_bits n room = room * inverse_of n / 65536

abbrev chosen : ℕ → ℕ → ℕ → ℕ
chosen n room k =
    cond (leb 8 k) 20
    (cond (leb ((k - 1) * n + (n * 8 + 4) / 5) room) (3 * k - 2)
    (cond (leb ((k - 2) * n + (n * 7 + 2) / 3) room) (3 * k - 3)
    (3 * k - 4)))

-- at a count 2 * i and a room that it fits
test : ℕ → ℕ → Bool
unfolding cost widest total_of range_of ranges whole_bits
test i room =
    then (both (leb 1 i) (leb ((13 * (2 * i) + 4) / 5) room))
    (both (leb 2 (whole_bits (2 * i) room)) (eqb (chosen (2 * i) room (whole_bits (2 * i) room)) (widest 16 (2 * i) (128 - room))))

abbrev at : ℕ → Bool
at k = test (k / 129) (k % 129)

pub record Closed (n room : ℕ) : Type 0 where
  pub least : 2 ≤ whole_bits n room
  pub value : chosen n room (whole_bits n room) ≡ widest 16 n (128 - room)

both_true : (a b : Bool) → a ≡ true → b ≡ true → both a b ≡ true
both_true a b p q = rw (p, q)

passed : (i room : ℕ) → T (test i room) → 1 ≤ i → (13 * (2 * i) + 4) / 5 ≤ room → Closed (2 * i) room
unfolding test
passed i room t p q =
    let a = leb 1 i in
    let b = leb ((13 * (2 * i) + 4) / 5) room in
    let k = whole_bits (2 * i) room in
    let l = leb 2 k in
    let m = eqb (chosen (2 * i) room k) (widest 16 (2 * i) (128 - room)) in
    let g = in_then (both a b) (both l m) t (both_true a b (le-leb _ _ p) (le-leb _ _ q)) in
    record { least = leb→le 2 k (both_left l m g); value = eqb→eq _ _ (both_right l m g) }

pub closed : (n room : ℕ) → Roomy n room → Closed n room
unfolding test
closed n room r =
    let i = n / 2 in
    let e : 2 * i ≡ n = omega (arith, r.even) in
    let b : room < 129 = omega (arith, r.block) in
    let l : i * 129 + room < 1290 = omega (arith, r.most, r.block) in
    let t : T (at (i * 129 + room)) = all-at at 1290 tt (i * 129 + room) l in
    rw e at (passed i room (rw (digits_div i b, digits_mod i b) at t) (omega (arith, r.least, e)) (rw e r.fits))

-- ---- each way out of the code
module _ (n room k : ℕ) (f : Roomy n room) (e : k ≡ whole_bits n room) where
  found : chosen n room k ≡ widest 16 n (128 - room)
  found = rw e (closed n room f).value

  pub out-20 : 8 ≤ k → 20 ≡ widest 16 n (128 - room)
  out-20 a = rw (le-leb 8 k a) at found

  pub out-trits : k < 8 → (k - 1) * n + (n * 8 + 4) / 5 ≤ room → 3 * k - 2 ≡ widest 16 n (128 - room)
  out-trits a b = rw (lt-leb 8 k a, le-leb _ _ b) at found

  pub out-quints : k < 8 → room < (k - 1) * n + (n * 8 + 4) / 5 → (k - 2) * n + (n * 7 + 2) / 3 ≤ room → 3 * k - 3 ≡ widest 16 n (128 - room)
  out-quints a b d = rw (lt-leb 8 k a, lt-leb _ _ b, le-leb _ _ d) at found

  pub out-plain : k < 8 → room < (k - 1) * n + (n * 8 + 4) / 5 → room < (k - 2) * n + (n * 7 + 2) / 3 → 3 * k - 4 ≡ widest 16 n (128 - room)
  out-plain a b d = rw (lt-leb 8 k a, lt-leb _ _ b, lt-leb _ _ d) at found
