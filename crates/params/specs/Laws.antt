-- What the parameters of a block are by its answer, and that nothing outside its map counts.
-- Assumes nothing.
use Rattle.std.specs.Prelude.{◌≡◌, Bool, cond, ℕ, ◌+◌, ◌-◌, ◌*◌, ◌/◌, ◌≤◌, ◌<◌, Result, Ok, Err, IfOk, IsErrAnd}
use Rattle.std.proofs.Math.Path.{refl, sym}
use Rattle.std.proofs.Common.{ap, ◌∙◌, arith, lt_of_lt_of_le, pow_mono}
use Rattle.std.proofs.Math.Bool.{true, false}
use Rattle.std.proofs.Math.Dec.{eqb}
use borrow.Author.Tests.{eq-eqb, ne_eqb, eqb-true, eqb-false}
use Rattle.laws.specs.Numbers.{choice}
use Rattle.answers.specs.Results.{rule_number}
use Rattle.answers.specs.ResultLaws.{rule-least, one-rule}
use Rattle.answers.specs.declared.Rule.{Rule}
use Rattle.bits.specs.Bits.{bits_at, reversed}
use Rattle.bits.specs.BitLaws.{bits-lt}
use Rattle.bits_reversal.specs.ReversalLaws.{reversed-top}
use Rattle.footprint.specs.declared.Footprint.{Footprint}
use Rattle.params_low.specs.Low.{is_void, low_of}
use Rattle.params_modes.specs.Modes.{values_to}
use Rattle.params_modes.specs.ModeLaws.{Coded, values_low}
use Rattle.params_config.specs.Config.{is_reserved, config_of}
use Rattle.params_config.specs.Bounds.{ConfigBounds}
use Rattle.params_config.specs.declared.Config.{Config}
use Rattle.params_rules.specs.Rules.{used, verdict}
use Rattle.params_rules.specs.Fields.{Fields, fields_of, extra_in, answer}
use Rattle.params_rules.specs.FieldLaws.{ordinary, low-is, extra-is, told-reserved, told-rule}
use Rattle.params_room.specs.RoomLaws.{Widest, range-is}
use Rattle.params_map.specs.Map.{legal_map, map_in, map_of}
use Rattle.params_map.specs.MapLaws.{map-answer, map-legal, in_order, Mapped, SameBlock, unmapped}
use Rattle.params.specs.Params.{upper_of, code_in, legal, refused, told, params_in, params_of, ends_field, weights_field}
use Rattle.params.specs.declared.Params.{Params}

-- ---- by the answer
module _ (t : Fields) (f : Footprint) where
  pub answer-is : (params_in t f).answer ≡ answer t f
  unfolding params_in legal refused
  answer-is = go (answer t f) (eqb (answer t f) 0) refl
    where
      go : (a : ℕ) (b : Bool) → eqb a 0 ≡ b → (cond b (legal (config_of t.low) t.extra) (refused a)).answer ≡ a
      go a true e = sym (eqb-true _ _ e)
      go a false e = refl

  pub legal-is : answer t f ≡ 0 → params_in t f ≡ legal (config_of t.low) t.extra
  unfolding params_in
  legal-is e = rw e

  pub refused-is : (a : ℕ) → answer t f ≡ a → (a ≡ 0 → ⊥) → params_in t f ≡ refused a
  unfolding params_in
  refused-is a e z = rw (e, ne_eqb a 0 z)

-- ---- a result that a rule is passed up in tells the rule's parameters, and none but one result tells what it does
pub passed-told : (r : Result Params Rule) (e : Rule) → IsErrAnd r (λ d. d ≡ e) → told r ≡ refused (rule_number e)
passed-told (Ok p) e h = absurd h
passed-told (Err d) e h = ap (λ (x : Rule). refused (rule_number x)) h

pub one-told : (a b : Result Params Rule) → told a ≡ told b → IfOk a (λ p. p.answer ≡ 0) → IfOk b (λ p. p.answer ≡ 0) → a ≡ b
unfolding refused
one-told (Ok p) (Ok q) h m n = ap (λ (x : Params). Ok x) h
one-told (Ok p) (Err s) h m n = absurd (omega (arith, ap (λ (x : Params). x.answer) h, m, rule-least s))
one-told (Err r) (Ok q) h m n = absurd (omega (arith, ap (λ (x : Params). x.answer) h, n, rule-least r))
one-told (Err r) (Err s) h m n = ap (λ (x : Rule). Err x) (one-rule r s (ap (λ (x : Params). x.answer) h))

-- ---- the ways out of the code for a block that is not void, by its flag and its parts' results
pub out-reserved : (v : ℕ) (f : Footprint) (c : ℕ) (r : Params) (s : Bool) → c ≡ low_of v → is_void v ≡ false → s ≡ is_reserved c → s ≡ true → r ≡ refused 10 → r ≡ params_of v f
out-reserved v f c r s q h m n g = g ∙ sym (refused-is (fields_of v) f 10 (told-reserved v f (is_void v) refl h c q s m n) (λ x. omega arith))

pub out-rule : (v : ℕ) (f : Footprint) (c a : ℕ) (k : Config) (r : Params) (s : Bool) → c ≡ low_of v → is_void v ≡ false → s ≡ is_reserved c → s ≡ false → k ≡ config_of c → a ≡ verdict k f → (a ≡ 0 → ⊥) → r ≡ refused a → r ≡ params_of v f
out-rule v f c a k r s q h m n o p z g = g ∙ sym (refused-is (fields_of v) f a (told-rule v f (is_void v) refl h c q s m n k o a p) z)

pub out-legal : (v : ℕ) (f : Footprint) (c a : ℕ) (k : Config) (r : Params) (s : Bool) → c ≡ low_of v → is_void v ≡ false → s ≡ is_reserved c → s ≡ false → k ≡ config_of c → a ≡ verdict k f → a ≡ 0 → r ≡ legal k (extra_in k v) → r ≡ params_of v f
out-legal v f c a k r s q h m n o p z g =
    let d : k ≡ config_of (low_of v) = o ∙ ap config_of q in
    g ∙ ap (λ (x : Config). legal x (extra_in x v)) d
    ∙ ap (legal (config_of (low_of v))) (sym (extra-is v))
    ∙ ap (λ (x : ℕ). legal (config_of x) (fields_of v).extra) (sym (low-is v))
    ∙ sym (legal-is (fields_of v) f (told-rule v f (is_void v) refl h c q s m n k o a p ∙ z))

-- ---- the extra field has ten bits at most
extra-lt : (v s n : ℕ) → n ≤ 10 → bits_at v s n < 1024
extra-lt v s n h = lt_of_lt_of_le (bits-lt v s n) (pow_mono h)

pub extra-of : (k : Config) (v r : ℕ) → ConfigBounds k → r ≡ extra_in k v → (r ≡ extra_in k v) × (r < 1024)
extra-of k v r s e = (e, rw e (extra-lt v _ _ (omega (arith, s.mode_bits, s.planes))))

pub upper_lt : (planes e : ℕ) → e < 1024 → upper_of planes e < 1024
unfolding upper_of
upper_lt planes e h = choice (eqb planes 2) (e / 4) e (omega arith) h

-- ---- the mode bits
pub code-alone : (k : Config) (e : ℕ) → ConfigBounds k → k.base ≡ 0 → (k.low_modes ≡ code_in k e) × (Coded k.base k.low_modes)
unfolding code_in
code-alone k e s z = (rw (eq-eqb k.base 0 z), s.coded)

pub code-based : (k : Config) (e x : ℕ) → ConfigBounds k → (k.base ≡ 0 → ⊥) → x ≡ upper_of k.planes e → (k.low_modes + 16 * x ≡ code_in k e) × (Coded k.base (k.low_modes + 16 * x))
unfolding code_in
code-based k e x s z d = (rw (ne_eqb k.base 0 z, d), record { most = s.coded.most; alone = λ h. absurd (z h) })

pub code_is : (k : Config) (e : ℕ) → ConfigBounds k → Coded k.base (code_in k e)
unfolding code_in
code_is k e s = go (eqb k.base 0) refl
  where
    go : (t : Bool) → eqb k.base 0 ≡ t → Coded k.base (cond t k.low_modes (k.low_modes + 16 * upper_of k.planes e))
    go true h = s.coded
    go false h = record { most = s.coded.most; alone = λ z. absurd (eqb-false _ _ h z) }

-- the modes take as many values as the low configuration says: their classes stand in it
pub code-values : (k : Config) (e p : ℕ) → p ≤ 4 → values_to k.base (code_in k e) p ≡ values_to k.base k.low_modes p
unfolding code_in
code-values k e p h = go (eqb k.base 0) refl
  where
    go : (t : Bool) → eqb k.base 0 ≡ t → values_to k.base (cond t k.low_modes (k.low_modes + 16 * upper_of k.planes e)) p ≡ values_to k.base k.low_modes p
    go true z = refl
    go false z = values_low k.base k.low_modes (upper_of k.planes e) p (eqb-false _ _ z) h

-- ---- a legal block's range is the widest that has room
pub range-widest : (v : ℕ) (f : Footprint) → (params_of v f).answer ≡ 0 → Widest 20 (params_of v f).config.values (used (params_of v f).config) (params_of v f).endpoint_range
unfolding legal
range-widest v f e =
    let a : answer (fields_of v) f ≡ 0 = sym (answer-is (fields_of v) f) ∙ e in
    rw (legal-is (fields_of v) f a) (range-is _ f (ordinary (fields_of v) f a).rules)

-- ---- locality: a block that has the same fields has the same parameters and the same map
pub params_same : (v w : ℕ) (f : Footprint) → fields_of v ≡ fields_of w → params_of v f ≡ params_of w f
params_same v w f e = ap (λ (t : Fields). params_in t f) e

pub map_same : (v w : ℕ) (f : Footprint) → fields_of v ≡ fields_of w → map_of v f ≡ map_of w f
map_same v w f e = ap (λ (t : Fields). map_in t f) e

-- the map and the parameters give the same answer, and name the same endpoints and weights
pub one_answer : (v : ℕ) (f : Footprint) → (map_of v f).answer ≡ (params_of v f).answer
one_answer v f = map-answer (fields_of v) f ∙ sym (answer-is (fields_of v) f)

pub ends-mapped : (v w : ℕ) (f : Footprint) → (params_of v f).answer ≡ 0 → bits_at w (map_of v f).end_at (map_of v f).end_len ≡ ends_field (params_of v f) w
unfolding legal legal_map
ends-mapped v w f e =
    let a : answer (fields_of v) f ≡ 0 = sym (answer-is (fields_of v) f) ∙ e in
    rw (map-legal (fields_of v) f a, legal-is (fields_of v) f a)

weights-len : (v : ℕ) (f : Footprint) → (params_of v f).answer ≡ 0 → (map_of v f).weight_len ≡ (params_of v f).config.weight_len
unfolding legal legal_map
weights-len v f e =
    let a : answer (fields_of v) f ≡ 0 = sym (answer-is (fields_of v) f) ∙ e in
    rw (map-legal (fields_of v) f a, legal-is (fields_of v) f a)

pub weights-mapped : (v w : ℕ) (f : Footprint) → (params_of v f).answer ≡ 0 → reversed (map_of v f).weight_len (bits_at w (map_of v f).weight_at (map_of v f).weight_len) ≡ weights_field (params_of v f) w
weights-mapped v w f e =
    let m = map_of v f in
    let o = in_order v f (one_answer v f ∙ e) in
    let s : m.weight_at ≡ 128 - m.weight_len = omega (arith, o.last) in
    rw (s, ← (weights-len v f e)) (sym (reversed-top 128 m.weight_len w (omega (arith, o.last))))

-- whatever stands at the unmapped bits of a legal block, its fields, parameters, endpoints and weights are the same
pub record SameParams (v w : ℕ) (f : Footprint) : Type 0 where
  pub fields : fields_of v ≡ fields_of w
  pub params : params_of v f ≡ params_of w f
  pub ends : ends_field (params_of v f) v ≡ ends_field (params_of v f) w
  pub weights : weights_field (params_of v f) v ≡ weights_field (params_of v f) w

pub local : (v w : ℕ) (f : Footprint) → (params_of v f).answer ≡ 0 → ((k : ℕ) → Mapped (map_of v f) k → bits_at v k 1 ≡ bits_at w k 1) → SameParams v w f
local v w f e h =
    let m = map_of v f in
    let s : SameBlock v w m = unmapped v w f (one_answer v f ∙ e) h in
    record {
      fields = s.fields;
      params = params_same v w f s.fields;
      ends = sym (ends-mapped v v f e) ∙ s.ends ∙ ends-mapped v w f e;
      weights = sym (weights-mapped v v f e) ∙ ap (reversed m.weight_len) s.weights ∙ weights-mapped v w f e;
    }
