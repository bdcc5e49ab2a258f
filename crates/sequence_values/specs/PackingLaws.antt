-- The laws of the three packings: a group's bits are fewer than a word's, a turn puts it, and values of no bits are 0.
-- Assumes nothing.
use Rattle.std.specs.Prelude.{◌≡◌, List, ℕ, ◌+◌, ◌*◌, ◌/◌, ◌^◌, ◌≤◌, ◌<◌, replicate}
use Rattle.std.proofs.Common.{refl, arith, add_comm}
use Rattle.laws.specs.Lists.{put}
use Rattle.bits.specs.Blocks.{value_of}
use Rattle.bits.specs.declared.Block.{Block}
use Rattle.sequence_ranges.specs.Ranges.{range}
use Rattle.sequence_ranges.specs.declared.Kind.{Kind}
use Rattle.sequence_ranges.specs.declared.Kind.TheVariants.{Plain, Trits, Quints}
use Rattle.sequence_groups.specs.Sequence.{size_of, values_of, group_from}
use Rattle.sequence_groups.specs.TurnLaws.{Turned, turned-next}
use Rattle.sequence_plain.specs.Plain.{plain_from}
use Rattle.sequence_plain.specs.PlainLaws.{turned_plain, no_bits}

pub plain-below : (b : ℕ) → b ≤ 8 → 6 * b < 64
plain-below b h = omega arith

pub trits-below : (b : ℕ) → b ≤ 6 → 5 * b + 8 < 64
trits-below b h = omega arith

pub quints-below : (b : ℕ) → b ≤ 5 → 3 * b + 7 < 64
quints-below b h = omega arith

pub plain-turn : (b w n i : ℕ) (s t : Block) (xs ys : List ℕ) → i < n → b ≤ 8 → Turned (range Plain b) w n i (value_of s) xs
    → ys ≡ put (plain_from b s.lo i) i (i + 6) xs → value_of t ≡ value_of s / 2 ^ (6 * b) → Turned (range Plain b) w n (i + 6) (value_of t) ys
plain-turn b w n i s t xs ys h l = turned_plain b w n i (6 * b) s t xs ys h l refl

pub trits-turn : (b w n i : ℕ) (s t : Block) (xs ys : List ℕ) → i < n → b ≤ 6 → Turned (range Trits b) w n i (value_of s) xs
    → ys ≡ put (group_from (range Trits b) s.lo i) i (i + 5) xs → value_of t ≡ value_of s / 2 ^ (5 * b + 8) → Turned (range Trits b) w n (i + 5) (value_of t) ys
unfolding size_of
trits-turn b w n i s t xs ys h l = turned-next (range Trits b) w n i (5 * b + 8) s t xs ys h (trits-below b l) (add_comm (5 * b) 8)

pub quints-turn : (b w n i : ℕ) (s t : Block) (xs ys : List ℕ) → i < n → b ≤ 5 → Turned (range Quints b) w n i (value_of s) xs
    → ys ≡ put (group_from (range Quints b) s.lo i) i (i + 3) xs → value_of t ≡ value_of s / 2 ^ (3 * b + 7) → Turned (range Quints b) w n (i + 3) (value_of t) ys
unfolding size_of
quints-turn b w n i s t xs ys h l = turned-next (range Quints b) w n i (3 * b + 7) s t xs ys h (quints-below b l) (add_comm (3 * b) 7)

pub plain-none : (b w n : ℕ) → b ≤ 8 → 6 * b ≡ 0 → replicate 72 0 ≡ values_of (range Plain b) w n
plain-none b w n h z = let e : b ≡ 0 = omega arith in rw e (no_bits w n)

pub trits-none : (b w n : ℕ) → b ≤ 6 → 5 * b + 8 ≡ 0 → replicate 72 0 ≡ values_of (range Trits b) w n
trits-none b w n h z = absurd (omega arith)

pub quints-none : (b w n : ℕ) → b ≤ 5 → 3 * b + 7 ≡ 0 → replicate 72 0 ≡ values_of (range Quints b) w n
quints-none b w n h z = absurd (omega arith)
