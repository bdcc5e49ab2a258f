-- The laws of a loop over groups: what holds at each turn, from the first to the last, and what the code asks there.
-- Assumes nothing.
use Rattle.std.specs.Prelude.{◌≡◌, List, ℕ, ◌+◌, ◌*◌, ◌-◌, ◌/◌, ◌%◌, ◌^◌, ◌≤◌, ◌<◌, replicate, T, ltb}
use Rattle.std.proofs.Common.{sym, ap, ◌∙◌, zero-le, le_of_lt, add-mul, zero-mul, one-mul, div-one, mul_assoc, arith, pow-add, shr-shr, lit≤, lt_of_lt_of_le, mul-le-mul_left, ltb→lt, Fits}
use Rattle.std.proofs.Math.Nat.{zero-div, zero-mod, mod-mod, mul-add-mod_self_right}
use Rattle.laws.specs.Lists.{put, put-none, put_same, put_next, put-cleared}
use Rattle.bits.specs.Bits.{bits_at}
use Rattle.bits.specs.Blocks.{value_of}
use Rattle.bits.specs.declared.Block.{Block}
use Rattle.sequence_ranges.specs.Ranges.{per}
use Rattle.sequence_ranges.specs.declared.Kind.{Kind}
use Rattle.sequence_ranges.specs.declared.Kind.TheVariants.{Plain, Trits, Quints}
use Rattle.sequence_ranges.specs.declared.Range.{Range}
use Rattle.sequence_groups.specs.Sequence.{size_of, value_in, group_of, value_at, values_of, group_from}
use Rattle.sequence_groups.specs.GroupLaws.{value_same}
use Rattle.std.specs.Int.{w64}

-- ---- a turn: what is left of w, from its group g on, has the words hi and lo

pub rest-low : (hi lo n v : ℕ) → n ≤ 64 → hi * 2 ^ 64 + lo ≡ v → lo % 2 ^ n ≡ v % 2 ^ n
rest-low hi lo n v l e =
    let m : (64 - n) + n ≡ 64 = omega arith in
    let d : (hi * 2 ^ ((64 - n) + n) + lo) % 2 ^ n ≡ lo % 2 ^ n =
    rw (pow-add 2 (64 - n) n, ← (mul_assoc hi (2 ^ (64 - n)) (2 ^ n))) (mul-add-mod_self_right (hi * 2 ^ (64 - n)) (2 ^ n) lo) in
    sym (rw m at d) ∙ ap (λ (x : ℕ). x % 2 ^ n) e

-- k groups of n bits are skipped
pub rest-next : (w g k g' n m v v' : ℕ) → m ≡ k * n → g + k ≡ g' → v ≡ w / 2 ^ (g * n) → v' ≡ v / 2 ^ m → v' ≡ w / 2 ^ (g' * n)
rest-next w g k g' n m v v' d e p q =
    q ∙ rw (p, d, shr-shr w (g * n) (k * n), ← (add-mul g k n), e)

group-value : (r : Range) (w g hi lo j : ℕ) → size_of r ≤ 64 → hi * 2 ^ 64 + lo ≡ w / 2 ^ (g * size_of r) → j < per r.kind
    → value_in r lo j ≡ value_in r (group_of r w g) j
unfolding group_of bits_at
group-value r w g hi lo j l e m =
    value_same r lo (w / 2 ^ (g * size_of r) % 2 ^ size_of r) j m
    (rest-low hi lo (size_of r) (w / 2 ^ (g * size_of r)) l e ∙ sym (mod-mod (w / 2 ^ (g * size_of r)) (2 ^ size_of r)))

group-place : (r : Range) (w g hi lo i k : ℕ) → size_of r ≤ 64 → hi * 2 ^ 64 + lo ≡ w / 2 ^ (g * size_of r)
    → k - i < per r.kind → k / per r.kind ≡ g → k % per r.kind ≡ k - i → value_in r lo (k - i) ≡ value_at r w k
unfolding value_at
group-place r w g hi lo i k l e m d f = group-value r w g hi lo (k - i) l e m ∙ rw (d, f)

-- a group's values are put at their places
turn : (r : Range) (w g i hi lo : ℕ) (z s t : List ℕ) → size_of r ≤ 64 → hi * 2 ^ 64 + lo ≡ w / 2 ^ (g * size_of r)
    → ((k : ℕ) → i ≤ k → k < i + per r.kind → (k / per r.kind ≡ g) × (k % per r.kind ≡ k - i)) → s ≡ put (value_at r w) 0 i z
    → t ≡ put (group_from r lo i) i (i + per r.kind) s → t ≡ put (value_at r w) 0 (i + per r.kind) z
turn r w g i hi lo z s t l e places p q =
    q
    ∙ put_same (group_from r lo i) (value_at r w) i (i + per r.kind) s
    (λ k a b. group-place r w g hi lo i k l e (omega arith) (places k a b).0 (places k a b).1)
    ∙ ap (put (value_at r w) i (i + per r.kind)) p
    ∙ put_next (value_at r w) 0 i (i + per r.kind) z (omega arith) (omega arith)

-- the last group reached past n
ended : (r : Range) (w n i : ℕ) (s t : List ℕ) → n ≤ i → i ≤ n + 5 → s ≡ put (value_at r w) 0 i (replicate 72 0)
    → t ≡ put (λ (k : ℕ). 0) n (n + 5) s → t ≡ values_of r w n
unfolding values_of
ended r w n i s t l m p q = q ∙ ap (put (λ (k : ℕ). 0) n (n + 5)) p ∙ put-cleared (value_at r w) n i (n + 5) 72 l m

-- ---- what holds before a turn: the values before i are in their places, and v is what is left of the sequence w from value i on, whose group starts there

pub starts : (i n : ℕ) → i < n → n ≤ 64 → i ≤ 64
starts i n h l = omega arith

pub next_fits : (i n k : ℕ) → i < n → n ≤ 64 → T (ltb k 8) → Fits w64 (i + k)
next_fits i n k h l t = record { fits = lt_of_lt_of_le {m = 72} (omega (arith, ltb→lt k 8 t)) (lit≤ tt) }

pub nearer : (i n k : ℕ) → i < n → T (ltb 0 k) → n - (i + k) < n - i
nearer i n k h t = omega (arith, ltb→lt 0 k t)

pub more : (a s : ℕ) → T (ltb 0 s) → 0 < a + s
more a s t = omega (arith, ltb→lt 0 s t)

-- p values of b bits each, and s bits that they share
module _ (p m s b : ℕ) (h : b ≤ m) (t : T (ltb (p * m + s) 64)) where
  pub size-lt : p * b + s < 64
  size-lt = omega (arith, mul-le-mul_left p h, ltb→lt (p * m + s) 64 t)

  pub bits_fit : Fits w64 (p * b)
  bits_fit = record { fits = lt_of_lt_of_le {m = 64} (omega (arith, mul-le-mul_left p h, ltb→lt (p * m + s) 64 t)) (lit≤ tt) }

  pub size_fits : Fits w64 (p * b + s)
  size_fits = record { fits = lt_of_lt_of_le size-lt (lit≤ tt) }

pub record Turned (r : Range) (w n i v : ℕ) (out : List ℕ) : Type 0 where
  pub near : i ≤ n + 5
  pub whole : i % per r.kind ≡ 0
  pub rest : v ≡ w / 2 ^ (i / per r.kind * size_of r)
  pub done : out ≡ put (value_at r w) 0 i (replicate 72 0)

pub turned-first : (r : Range) (w n : ℕ) (out : List ℕ) → out ≡ replicate 72 0 → Turned r w n 0 w out
turned-first r w n out p = record {
  near = zero-le;
  whole = zero-mod (per r.kind);
  rest = rw (zero-div (per r.kind), zero-mul (size_of r)) (sym (div-one w));
  done = p ∙ put-none (value_at r w) 0 (replicate 72 0);
}

-- the group after a whole one, and the places of a group
after : (k : Kind) (i : ℕ) → i % per k ≡ 0 → ((i + per k) % per k ≡ 0) × (i / per k + 1 ≡ (i + per k) / per k)
after Plain i h = (omega arith, omega arith)
after Trits i h = (omega arith, omega arith)
after Quints i h = (omega arith, omega arith)

places : (k : Kind) (i : ℕ) → i % per k ≡ 0 → (j : ℕ) → i ≤ j → j < i + per k → (j / per k ≡ i / per k) × (j % per k ≡ j - i)
places Plain i h j a b = (omega arith, omega arith)
places Trits i h j a b = (omega arith, omega arith)
places Quints i h j a b = (omega arith, omega arith)

per-le : (k : Kind) → per k ≤ 5
per-le Plain = lit≤ tt
per-le Trits = lit≤ tt
per-le Quints = lit≤ tt

-- a group is put, and its m bits are skipped
pub turned-next : (r : Range) (w n i m : ℕ) (s s' : Block) (out out' : List ℕ) → i < n → m < 64 → m ≡ size_of r → Turned r w n i (value_of s) out
    → out' ≡ put (group_from r s.lo i) i (i + per r.kind) out → value_of s' ≡ value_of s / 2 ^ m → Turned r w n (i + per r.kind) (value_of s') out'
turned-next r w n i m s s' out out' h l e t p q = record {
  near = omega (arith, per-le r.kind);
  whole = (after r.kind i t.whole).0;
  rest = rest-next w (i / per r.kind) 1 _ (size_of r) m (value_of s) (value_of s') (e ∙ sym (one-mul (size_of r))) (after r.kind i t.whole).1 t.rest q;
  done = turn r w (i / per r.kind) i s.hi s.lo (replicate 72 0) out out' (rw e at (le_of_lt l)) t.rest (places r.kind i t.whole) t.done p;
}

-- the last group reached past n, and what is past n is cleared
pub turned-last : (r : Range) (w n i v : ℕ) (out out' : List ℕ) → n ≤ i → Turned r w n i v out → out' ≡ put (λ (k : ℕ). 0) n (n + 5) out → out' ≡ values_of r w n
turned-last r w n i v out out' l t q = ended r w n i out out' l t.near t.done q
