-- The laws of plain values: what the code's shifts make of them, and a turn of six.
-- Assumes nothing.
use Rattle.std.specs.Prelude.{◌≡◌, refl, Bool, true, false, cond, List, ℕ, ◌+◌, ◌*◌, ◌-◌, ◌/◌, ◌%◌, ◌^◌, ◌≤◌, ◌<◌, ltb, replicate}
use Rattle.std.proofs.Common.{sym, ap, ◌∙◌, mul-le-mul, add-mul, zero-add, zero-mul, one-mul, div-one, arith, shr-shr}
use Rattle.std.proofs.Math.Nat.{mod-one, sub_self, add-sub_cancel_left}
use Rattle.std.proofs.lemmas.List.{get_or-replicate}
use Rattle.laws.specs.Lists.{is-list_of, put, put_same, put_next}
use Rattle.bits.specs.Bits.{bits_at}
use Rattle.bits.specs.BitLaws.{bits-lt, bits-zero, bits_none, bits-whole}
use Rattle.bits.specs.Blocks.{value_of}
use Rattle.bits.specs.declared.Block.{Block}
use Rattle.sequence_ranges.specs.Ranges.{range}
use Rattle.sequence_ranges.specs.declared.Kind.TheVariants.{Plain}
use Rattle.sequence_groups.specs.Sequence.{size_of, digits_of, value_in, group_of, value_at, values_of}
use Rattle.sequence_groups.specs.GroupLaws.{down, down-low, field-same}
use Rattle.sequence_groups.specs.TurnLaws.{rest-low, rest-next, Turned}
use Rattle.sequence_plain.specs.Plain.{plain_from}

-- what the code's shifts make: the first value, and one further up
pub plain-first : (b d i : ℕ) → d % 2 ^ b ≡ plain_from b d i i
plain-first b d i = rw (sub_self i, zero-mul b, bits-zero d b)

pub plain-next : (b d i j : ℕ) → down b d j % 2 ^ b ≡ plain_from b d i (i + j)
plain-next b d i j = rw (add-sub_cancel_left i j) (down-low b d j b)

bits-shifted : (v p s n : ℕ) → bits_at (v / 2 ^ p) s n ≡ bits_at v (p + s) n
unfolding bits_at
bits-shifted v p s n = rw (shr-shr v p s)

-- plain values have a group each
plain_value : (b w k : ℕ) → value_at (range Plain b) w k ≡ bits_at w (k * b) b
unfolding value_at value_in group_of size_of digits_of
plain_value b w k =
    rw (mod-one k, div-one k, zero-mul (2 ^ b), zero-mul b, one-mul b, zero-add b)
    (zero-add (bits_at (bits_at w (k * b) b) 0 b) ∙ bits-whole (bits_at w (k * b) b) b (bits-lt w (k * b) b))

plain-place : (b w hi lo i k : ℕ) → b ≤ 8 → hi * 2 ^ 64 + lo ≡ w / 2 ^ (i * b) → i ≤ k → k < i + 6
    → bits_at lo ((k - i) * b) b ≡ value_at (range Plain b) w k
plain-place b w hi lo i k l e a c =
    let t : k - i + 1 ≤ 6 = omega arith in
    let m : (k - i + 1) * b ≤ 6 * 8 = mul-le-mul t l in
    let f : (k - i) * b + b ≤ 64 = omega (arith, rw (add-mul (k - i) 1 b, one-mul b) at m) in
    let i-k : i + (k - i) ≡ k = omega arith in
    let g : i * b + (k - i) * b ≡ k * b = sym (add-mul i (k - i) b) ∙ ap (λ (x : ℕ). x * b) i-k in
    field-same lo (w / 2 ^ (i * b)) 64 ((k - i) * b) b (rest-low hi lo 64 (w / 2 ^ (i * b)) (omega arith) e) f
    ∙ bits-shifted w (i * b) ((k - i) * b) b
    ∙ ap (λ (x : ℕ). bits_at w x b) g
    ∙ sym (plain_value b w k)

plain_turn : (b w i hi lo : ℕ) (z s t : List ℕ) → b ≤ 8 → hi * 2 ^ 64 + lo ≡ w / 2 ^ (i * b)
    → s ≡ put (value_at (range Plain b) w) 0 i z → t ≡ put (plain_from b lo i) i (i + 6) s → t ≡ put (value_at (range Plain b) w) 0 (i + 6) z
plain_turn b w i hi lo z s t l e p q =
    q
    ∙ put_same (plain_from b lo i) (value_at (range Plain b) w) i (i + 6) s (λ k a c. plain-place b w hi lo i k l e a c)
    ∙ ap (put (value_at (range Plain b) w) i (i + 6)) p
    ∙ put_next (value_at (range Plain b) w) 0 i (i + 6) z (omega arith) (omega arith)

-- six plain values are put
single : (b j : ℕ) → j / 1 * size_of (range Plain b) ≡ j * b
unfolding size_of
single b j = rw (div-one j, one-mul b, zero-add b)

pub turned_plain : (b w n i m : ℕ) (s s' : Block) (out out' : List ℕ) → i < n → b ≤ 8 → m ≡ 6 * b → Turned (range Plain b) w n i (value_of s) out
    → out' ≡ put (plain_from b s.lo i) i (i + 6) out → value_of s' ≡ value_of s / 2 ^ m → Turned (range Plain b) w n (i + 6) (value_of s') out'
turned_plain b w n i m s s' out out' h l e t p q = record {
  near = omega arith;
  whole = mod-one (i + 6);
  rest = rw (single b (i + 6)) (rest-next w i 6 (i + 6) b m (value_of s) (value_of s') e refl left q);
  done = plain_turn b w i s.hi s.lo (replicate 72 0) out out' l left t.done p;
}
  where
    left : value_of s ≡ w / 2 ^ (i * b)
    left = rw (single b i) at t.rest

-- values of no bits
pub no_bits : (w n : ℕ) → replicate 72 0 ≡ values_of (range Plain 0) w n
unfolding values_of
no_bits w n = is-list_of _ 72 (replicate 72 0) refl (λ k h. get_or-replicate 72 k 0 0 h ∙ sym (none k (ltb k n)))
  where
    none : (k : ℕ) (c : Bool) → cond c (value_at (range Plain 0) w k) 0 ≡ 0
    none k true = plain_value 0 w k ∙ bits_none w (k * 0)
    none k false = refl
