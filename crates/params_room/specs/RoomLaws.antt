-- The range that a legal block's endpoints have: it fits, and none wider does.
-- Assumes nothing.
use Rattle.std.specs.Prelude.{◌≡◌, refl, Bool, true, false, cond, ℕ, zero, suc, ◌+◌, ◌-◌, ◌*◌, ◌/◌, ◌≤◌, ◌<◌, leb}
use Rattle.std.proofs.Common.{sym, ◌∙◌, subst, arith, leb-true, leb-false}
use Rattle.sequence_ranges.specs.Ranges.{range_of, ranges}
use Rattle.sequence_ranges.specs.Ranges.{total_of}
use Rattle.footprint.specs.declared.Footprint.{Footprint}
use Rattle.params_config.specs.Ranges.{cost}
use Rattle.params_config.specs.Config.{config_of}
use Rattle.params_config.specs.Bounds.{ConfigBounds, small}
use Rattle.params_config.specs.declared.Config.{Config}
use Rattle.params_rules.specs.Rules.{used, verdict}
use Rattle.params_rules.specs.RuleLaws.{Legal, verdict-legal}
use Rattle.params_room.specs.Room.{widest, end_range}
use Rattle.params_room.specs.Closed.{Roomy}

-- ---- the widest range
-- the narrowest range takes ceil (13 n / 5) bits
cost-4 : (n : ℕ) → cost 4 n ≡ (13 * n + 4) / 5
unfolding cost total_of range_of ranges
cost-4 n = omega arith

-- what `widest` finds: it fits if any does, and none above it does
pub record Widest (top n used q : ℕ) : Type 0 where
  pub least : 4 ≤ q
  pub most : q ≤ top
  pub fits : cost q n + used ≤ 128
  pub best : (r : ℕ) → q < r → r ≤ top → 128 < cost r n + used

pub widest-is : (k n used : ℕ) → cost 4 n + used ≤ 128 → Widest (k + 4) n used (widest k n used)
unfolding widest
widest-is zero n used h = record { least = omega arith; most = omega arith; fits = h; best = λ r a b. omega arith }
widest-is (suc k) n used h = go (leb (cost (suc k + 4) n + used) 128) refl (widest-is k n used h)
  where
    go : (b : Bool) → leb (cost (suc k + 4) n + used) 128 ≡ b → Widest (k + 4) n used (widest k n used) → Widest (suc k + 4) n used (cond b (suc k + 4) (widest k n used))
    go true e w = record { least = omega arith; most = omega arith; fits = leb-true _ _ e; best = λ r a b. omega arith }
    go false e w = record { least = w.least; most = omega arith; fits = w.fits; best = λ r a b. last r a b (leb r (k + 4)) refl }
      where
        last : (r : ℕ) → widest k n used < r → r ≤ suc k + 4 → (t : Bool) → leb r (k + 4) ≡ t → 128 < cost r n + used
        last r a b true u = w.best r a (leb-true _ _ u)
        last r a b false u =
            let l : k + 4 < r = leb-false _ _ u in
            let s : suc k + 4 ≡ r = omega arith in
            subst (λ (x : ℕ). 128 < cost x n + used) s (leb-false _ _ e)

-- ---- a configuration that breaks no rule
pub range-is : (k : Config) (f : Footprint) → Legal k f → Widest 20 k.values (used k) (end_range k)
range-is k f l = widest-is 16 k.values (used k) (omega (arith, cost-4 k.values, l.room))

-- what the code is given: small numbers, and room
pub record LegalConfig (k : Config) : Type 0 where
  pub small : ConfigBounds k
  pub roomy : Roomy k.values (128 - used k)
  pub room : used k ≤ 128

pub given : (c : ℕ) (k : Config) (f : Footprint) (a : ℕ) → k ≡ config_of c → a ≡ verdict k f → a ≡ 0 → LegalConfig k
given c k f a o e z =
    let l = verdict-legal k f (sym e ∙ z) in
    let s : ConfigBounds k = rw o (small c) in
    record {
      small = s;
      roomy = record { even = s.pairs; least = s.pair; most = l.values; fits = omega (arith, l.room); block = omega arith };
      room = omega (arith, l.room);
    }
