-- What an answer says of a block, and that a block is judged by its fields alone.
-- Assumes nothing.
use Rattle.std.specs.Prelude.{◌≡◌, refl, Bool, true, false, ℕ, ◌<◌}
use Rattle.std.proofs.Common.{sym, ap, ◌∙◌, arith}
use Rattle.laws.specs.Numbers.{choice}
use Rattle.footprint.specs.declared.Footprint.{Footprint}
use Rattle.params_low.specs.Low.{is_void, low_of}
use Rattle.params_low.specs.LowLaws.{void-low, extent-none}
use Rattle.params_config.specs.Config.{is_reserved, config_of}
use Rattle.params_config.specs.declared.Config.{Config}
use Rattle.params_rules.specs.Rules.{verdict}
use Rattle.params_rules.specs.RuleLaws.{Legal, verdict-legal, passed, neither, not-1, verdict-lt}
use Rattle.params_rules.specs.Fields.{Fields, fields_of, extra_in, answer}

-- ---- a legal block
pub record Ordinary (t : Fields) (f : Footprint) : Type 0 where
  pub void : is_void t.low ≡ false
  pub free : is_reserved t.low ≡ false
  pub rules : Legal (config_of t.low) f

pub ordinary : (t : Fields) (f : Footprint) → answer t f ≡ 0 → Ordinary t f
unfolding answer
ordinary t f e =
    let s1 = passed _ 0 _ e in
    let s2 = passed _ 9 _ s1.1 in
    record { void = s1.0; free = s2.0; rules = verdict-legal _ _ s2.1 }

-- every answer is below those of a call that is refused
pub answer_lt : (t : Fields) (f : Footprint) → answer t f < 20
unfolding answer
answer_lt t f = choice (is_void t.low) 1 _ (omega arith) (choice (is_reserved t.low) 10 _ (omega arith) (verdict-lt (config_of t.low) f))

-- ---- the fields of the block v
pub low-is : (v : ℕ) → (fields_of v).low ≡ low_of v
unfolding fields_of
low-is v = refl

pub extra-is : (v : ℕ) → (fields_of v).extra ≡ extra_in (config_of (low_of v)) v
unfolding fields_of
extra-is v = refl

-- a block that is not void has the fields of another with the same low configuration and the same extra field
pub fields-same : (v w : ℕ) → is_void v ≡ false → low_of v ≡ low_of w → extra_in (config_of (low_of v)) v ≡ extra_in (config_of (low_of w)) w → fields_of v ≡ fields_of w
unfolding fields_of
fields-same v w h l x =
    let h' : is_void w ≡ false = sym (void-low w) ∙ ap is_void (sym l) ∙ void-low v ∙ h in
    rw (extent-none v h, extent-none w h', x, l)

-- ---- a void block answers 1, and no other does
pub answer-void : (v : ℕ) (f : Footprint) → is_void v ≡ true → answer (fields_of v) f ≡ 1
unfolding answer fields_of
answer-void v f h = rw (void-low v, h)

pub void-alone : (v : ℕ) (f : Footprint) → is_void v ≡ false → answer (fields_of v) f ≡ 1 → ⊥
unfolding answer fields_of
void-alone v f h e = neither (is_reserved (low_of v)) 10 _ (λ z. omega arith) (not-1 (config_of (low_of v)) f) (rw (void-low v, h) at e)

-- ---- the answer as a decoder finds it that makes the checks one after the other: w and s are its flags
module _ (v : ℕ) (f : Footprint) (w : Bool) (i : w ≡ is_void v) where
  pub told-void : w ≡ true → answer (fields_of v) f ≡ 1
  told-void j = answer-void v f (sym i ∙ j)

  module _ (j : w ≡ false) (c : ℕ) (q : c ≡ low_of v) (s : Bool) (m : s ≡ is_reserved c) where
    pub told-reserved : s ≡ true → answer (fields_of v) f ≡ 10
    unfolding answer fields_of
    told-reserved n = rw (void-low v, ← i, j, ← q, ← m, n)

    pub told-rule : s ≡ false → (k : Config) → k ≡ config_of c → (a : ℕ) → a ≡ verdict k f → answer (fields_of v) f ≡ a
    unfolding answer fields_of
    told-rule n k o a p = rw (void-low v, ← i, j, ← q, ← m, n, ← o, p)
