-- What the map of a legal block is: its fields lie within the block and are disjoint, and no bit outside them counts.
-- Assumes nothing.
use Rattle.std.specs.Prelude.{◌≡◌, Bool, cond, ◌⊎◌, ℕ, ◌+◌, ◌≤◌, ◌<◌}
use Rattle.std.proofs.Math.Path.{refl, sym}
use Rattle.std.proofs.Common.{ap, ◌∙◌, inl, inr, ⊎_elim, arith}
use Rattle.std.proofs.Math.Bool.{true, false}
use borrow.Author.Tests.{ne_eqb, eqb-true}
use Rattle.std.proofs.Math.Dec.{eqb}
use Rattle.bits.specs.Bits.{bits_at}
use Rattle.bits.specs.BitLaws.{same_bits}
use Rattle.footprint.specs.declared.Footprint.{Footprint}
use Rattle.params_low.specs.Low.{is_void, conf_len, low_of}
use Rattle.params_low.specs.LowLaws.{SameBits, void-low, low_same}
use Rattle.params_config.specs.Config.{is_reserved, parts_of, partitions_of, config_of}
use Rattle.params_config.specs.declared.Config.{Config}
use Rattle.params_rules.specs.Rules.{verdict}
use Rattle.params_rules.specs.Fields.{Fields, fields_of, extra_in, answer}
use Rattle.params_rules.specs.FieldLaws.{ordinary, low-is, fields-same, told-void, told-reserved, told-rule}
use Rattle.params_room.specs.RoomLaws.{range-is}
use Rattle.params_map.specs.Map.{legal_map, no_map, map_in, map_of}
use Rattle.params_map.specs.declared.BlockMap.{BlockMap}

-- ---- by the answer
module _ (t : Fields) (f : Footprint) where
  pub map-answer : (map_in t f).answer ≡ answer t f
  unfolding map_in legal_map no_map
  map-answer = go (answer t f) (eqb (answer t f) 0) refl
    where
      go : (a : ℕ) (b : Bool) → eqb a 0 ≡ b → (cond b (legal_map (config_of t.low)) (no_map a)).answer ≡ a
      go a true e = sym (eqb-true _ _ e)
      go a false e = refl

  pub map-legal : answer t f ≡ 0 → map_in t f ≡ legal_map (config_of t.low)
  unfolding map_in
  map-legal e = rw e

  pub map-none : (a : ℕ) → answer t f ≡ a → (a ≡ 0 → ⊥) → map_in t f ≡ no_map a
  unfolding map_in
  map-none a e z = rw (e, ne_eqb a 0 z)

-- ---- the ways out of the code, by its flags and its parts' results
pub out-void : (v : ℕ) (f : Footprint) (r : BlockMap) (w : Bool) → w ≡ is_void v → w ≡ true → r ≡ no_map 1 → r ≡ map_of v f
out-void v f r w i j g = g ∙ sym (map-none (fields_of v) f 1 (told-void v f w i j) (λ h. omega arith))

pub out-reserved : (v : ℕ) (f : Footprint) (c : ℕ) (r : BlockMap) (w s : Bool) → c ≡ low_of v → w ≡ is_void v → w ≡ false → s ≡ is_reserved c → s ≡ true → r ≡ no_map 10 → r ≡ map_of v f
out-reserved v f c r w s q i j m n g = g ∙ sym (map-none (fields_of v) f 10 (told-reserved v f w i j c q s m n) (λ h. omega arith))

pub out-rule : (v : ℕ) (f : Footprint) (c a : ℕ) (k : Config) (r : BlockMap) (w s : Bool) → c ≡ low_of v → w ≡ is_void v → w ≡ false → s ≡ is_reserved c → s ≡ false → k ≡ config_of c → a ≡ verdict k f → (a ≡ 0 → ⊥) → r ≡ no_map a → r ≡ map_of v f
out-rule v f c a k r w s q i j m n o p z g = g ∙ sym (map-none (fields_of v) f a (told-rule v f w i j c q s m n k o a p) z)

pub out-legal : (v : ℕ) (f : Footprint) (c a : ℕ) (k : Config) (r : BlockMap) (w s : Bool) → c ≡ low_of v → w ≡ is_void v → w ≡ false → s ≡ is_reserved c → s ≡ false → k ≡ config_of c → a ≡ verdict k f → a ≡ 0 → r ≡ legal_map k → r ≡ map_of v f
out-legal v f c a k r w s q i j m n o p z g =
    g ∙ ap legal_map (o ∙ ap config_of (q ∙ sym (low-is v))) ∙ sym (map-legal (fields_of v) f (told-rule v f w i j c q s m n k o a p ∙ z))

-- ---- the fields of a legal block stand one after the other, within its 128 bits
pub record InOrder (m : BlockMap) : Type 0 where
  pub first : m.low_at ≡ 0
  pub ends : m.low_len ≤ m.end_at
  pub extra : m.end_at + m.end_len ≤ m.extra_at
  pub weights : m.extra_at + m.extra_len ≡ m.weight_at
  pub last : m.weight_at + m.weight_len ≡ 128

pub in_order : (v : ℕ) (f : Footprint) → (map_of v f).answer ≡ 0 → InOrder (map_of v f)
unfolding legal_map
in_order v f e =
    let a : answer (fields_of v) f ≡ 0 = sym (map-answer (fields_of v) f) ∙ e in
    let l = (ordinary (fields_of v) f a).rules in
    let w = range-is _ f l in
    rw (map-legal (fields_of v) f a)
    (record { first = refl; ends = omega arith; extra = omega (arith, w.fits); weights = omega (arith, w.fits); last = omega (arith, l.most) })

abbrev pub InField : ℕ → ℕ → ℕ → Type 0
InField s n k = (s ≤ k) × (k < s + n)

-- bit k stands in a field of the map
abbrev pub Mapped : BlockMap → ℕ → Type 0
Mapped m k = InField m.low_at m.low_len k ⊎ (InField m.end_at m.end_len k ⊎ (InField m.extra_at m.extra_len k ⊎ InField m.weight_at m.weight_len k))

-- no bit stands in two fields, and none past bit 127
pub record Disjoint (m : BlockMap) (k : ℕ) : Type 0 where
  pub low-ends : InField m.low_at m.low_len k → InField m.end_at m.end_len k → ⊥
  pub low-extra : InField m.low_at m.low_len k → InField m.extra_at m.extra_len k → ⊥
  pub low-weights : InField m.low_at m.low_len k → InField m.weight_at m.weight_len k → ⊥
  pub ends-extra : InField m.end_at m.end_len k → InField m.extra_at m.extra_len k → ⊥
  pub ends-weights : InField m.end_at m.end_len k → InField m.weight_at m.weight_len k → ⊥
  pub extra-weights : InField m.extra_at m.extra_len k → InField m.weight_at m.weight_len k → ⊥
  pub within : Mapped m k → k < 128

pub disjoint : (v : ℕ) (f : Footprint) (k : ℕ) → (map_of v f).answer ≡ 0 → Disjoint (map_of v f) k
disjoint v f k e =
    let m = map_of v f in
    let t : InOrder m = in_order v f e in
    record {
      low-ends = λ a b. omega arith;
      low-extra = λ a b. omega arith;
      low-weights = λ a b. omega arith;
      ends-extra = λ a b. omega arith;
      ends-weights = λ a b. omega arith;
      extra-weights = λ a b. omega arith;
      within = ⊎_elim (λ a. omega arith) (⊎_elim (λ a. omega arith) (⊎_elim (λ a. omega arith) (λ a. omega arith)));
    }

-- ---- locality: whatever stands at the unmapped bits, the fields are the same
-- two blocks have the same bits at every mapped bit
pub record SameMapped (m : BlockMap) (v w : ℕ) : Type 0 where
  pub low : SameBits v w m.low_at m.low_len
  pub ends : SameBits v w m.end_at m.end_len
  pub extra : SameBits v w m.extra_at m.extra_len
  pub weights : SameBits v w m.weight_at m.weight_len

low-at-is : (c : ℕ) → (legal_map (config_of c)).low_at ≡ 0
unfolding legal_map
low-at-is c = refl

low-len-is : (c : ℕ) → (legal_map (config_of c)).low_len ≡ conf_len (bits_at c 11 2 + 1)
unfolding legal_map config_of partitions_of parts_of
low-len-is c = refl

extra-field-is : (c v : ℕ) → bits_at v (legal_map (config_of c)).extra_at (legal_map (config_of c)).extra_len ≡ extra_in (config_of c) v
unfolding legal_map
extra-field-is c v = refl

local : (v w : ℕ) → is_void v ≡ false → SameMapped (legal_map (config_of (low_of v))) v w → fields_of v ≡ fields_of w
local v w h s =
    let m = legal_map (config_of (low_of v)) in
    let l : low_of v ≡ low_of w = low_same v w (rw (low-at-is (low_of v), low-len-is (low_of v)) at s.low) in
    let x : extra_in (config_of (low_of v)) v ≡ extra_in (config_of (low_of v)) w =
    sym (extra-field-is (low_of v) v) ∙ same_bits v w m.extra_at m.extra_len s.extra ∙ extra-field-is (low_of v) w in
    fields-same v w h l (x ∙ ap (λ (c : ℕ). extra_in (config_of c) w) l)

-- and so are the numbers of the endpoints and of the weights
pub record SameBlock (v w : ℕ) (m : BlockMap) : Type 0 where
  pub fields : fields_of v ≡ fields_of w
  pub ends : bits_at v m.end_at m.end_len ≡ bits_at w m.end_at m.end_len
  pub weights : bits_at v m.weight_at m.weight_len ≡ bits_at w m.weight_at m.weight_len

pub unmapped : (v w : ℕ) (f : Footprint) → (map_of v f).answer ≡ 0 → ((k : ℕ) → Mapped (map_of v f) k → bits_at v k 1 ≡ bits_at w k 1) → SameBlock v w (map_of v f)
unmapped v w f e h =
    let m = map_of v f in
    let a : answer (fields_of v) f ≡ 0 = sym (map-answer (fields_of v) f) ∙ e in
    let s : SameMapped m v w = record {
      low = λ k a b. h k (inl (a, b));
      ends = λ k a b. h k (inr (inl (a, b)));
      extra = λ k a b. h k (inr (inr (inl (a, b))));
      weights = λ k a b. h k (inr (inr (inr (a, b))));
    } in
    let n : is_void v ≡ false = sym (void-low v) ∙ ap is_void (sym (low-is v)) ∙ (ordinary (fields_of v) f a).void in
    record {
      fields = local v w n (rw (map-legal (fields_of v) f a, low-is v) at s);
      ends = same_bits v w m.end_at m.end_len s.ends;
      weights = same_bits v w m.weight_at m.weight_len s.weights;
    }
