-- How large modes are, that their classes stand in the low four bits of the code, and how many values they take.
-- Assumes nothing.
use Rattle.std.specs.Prelude.{◌≡◌, Bool, ltb, get_or}
use Rattle.std.proofs.Math.Path.{refl}
use Rattle.std.proofs.Math.Bool.{true, false, cond}
use Prim.Native.Nat.{ℕ, zero, suc, ◌+◌, ◌-◌, ◌*◌, ◌/◌, ◌%◌, ◌^◌, ◌≤◌, ◌<◌}
use native.Mathlib.Omega.{arith}
use Rattle.std.proofs.Math.Dec.{eqb}
use Rattle.std.proofs.Common.{eq-eqb, ne_eqb, eqb-true, lt-ltb}
use Rattle.laws.specs.Numbers.{choice}
use Rattle.bits.specs.Bits.{bits_at}
use Rattle.bits.specs.BitLaws.{bits-lt}
use Rattle.params_modes.specs.Modes.{class_in, mode_in, modes_of, values_to}

-- a base has two bits, and one mode for all partitions has four
pub record Coded (base code : ℕ) : Type 0 where
  pub most : base ≤ 3
  pub alone : base ≡ 0 → code < 16

module _ (base code : ℕ) (h : Coded base code) where
  pub class-most : (i : ℕ) → class_in base code i ≤ 3
  unfolding class_in
  class-most i = go (eqb base 0) refl
    where
      go : (t : Bool) → eqb base 0 ≡ t → cond t (code / 4) (base - 1 + bits_at code i 1) ≤ 3
      go true e = omega (arith, h.alone (eqb-true _ _ e))
      go false e = omega (arith, h.most, bits-lt code i 1)

  pub mode-lt : (parts i : ℕ) → mode_in parts base code i < 16
  unfolding mode_in
  mode-lt parts i = go (eqb base 0) refl
    where
      go : (t : Bool) → eqb base 0 ≡ t → cond t code (4 * class_in base code i + bits_at code (parts + 2 * i) 2) < 16
      go true e = h.alone (eqb-true _ _ e)
      go false e = omega (arith, class-most i, bits-lt code (parts + 2 * i) 2)

  pub modes-lt : (parts i : ℕ) → get_or (modes_of parts base code) i 0 < 16
  modes-lt parts zero = choice (ltb 0 parts) _ 0 (mode-lt parts 0) (omega arith)
  modes-lt parts (suc zero) = choice (ltb 1 parts) _ 0 (mode-lt parts 1) (omega arith)
  modes-lt parts (suc (suc zero)) = choice (ltb 2 parts) _ 0 (mode-lt parts 2) (omega arith)
  modes-lt parts (suc (suc (suc zero))) = choice (ltb 3 parts) _ 0 (mode-lt parts 3) (omega arith)
  modes-lt parts (suc (suc (suc (suc i)))) = omega arith

  pub values-most : (p : ℕ) → values_to base code p ≤ 8 * p
  unfolding values_to
  values-most zero = omega arith
  values-most (suc p) = omega (arith, values-most p, class-most p)

-- ---- the modes of the list
pub mode-is : (parts base code i : ℕ) → i < 4 → i < parts → get_or (modes_of parts base code) i 0 ≡ mode_in parts base code i
mode-is parts base code zero h l = rw (lt-ltb 0 parts l)
mode-is parts base code (suc zero) h l = rw (lt-ltb 1 parts l)
mode-is parts base code (suc (suc zero)) h l = rw (lt-ltb 2 parts l)
mode-is parts base code (suc (suc (suc zero))) h l = rw (lt-ltb 3 parts l)
mode-is parts base code (suc (suc (suc (suc i)))) h l = absurd (no h)
  where
    no : suc (suc (suc (suc i))) < 4 → ⊥
    no g = omega arith

-- ---- a class is a quarter of the mode
pub mode-class : (parts base code i : ℕ) → mode_in parts base code i / 4 ≡ class_in base code i
unfolding mode_in class_in
mode-class parts base code i = go (eqb base 0)
  where
    go : (t : Bool) → cond t code (4 * cond t (code / 4) (base - 1 + bits_at code i 1) + bits_at code (parts + 2 * i) 2) / 4 ≡ cond t (code / 4) (base - 1 + bits_at code i 1)
    go true = refl
    go false = omega (arith, bits-lt code (parts + 2 * i) 2)

-- ---- the classes stand in the low four bits: bits above them change none
low_bit : (code x i : ℕ) → i < 4 → bits_at (code + 16 * x) i 1 ≡ bits_at code i 1
unfolding bits_at
low_bit code x zero h = omega arith
low_bit code x (suc zero) h = omega arith
low_bit code x (suc (suc zero)) h = omega arith
low_bit code x (suc (suc (suc zero))) h = omega arith
low_bit code x (suc (suc (suc (suc i)))) h = absurd (no h)
  where
    no : suc (suc (suc (suc i))) < 4 → ⊥
    no g = omega arith

pub class_low : (base code x i : ℕ) → (base ≡ 0 → ⊥) → i < 4 → class_in base (code + 16 * x) i ≡ class_in base code i
unfolding class_in
class_low base code x i z h = rw (ne_eqb base 0 z, low_bit code x i h)

pub values_low : (base code x p : ℕ) → (base ≡ 0 → ⊥) → p ≤ 4 → values_to base (code + 16 * x) p ≡ values_to base code p
unfolding values_to
values_low base code x zero z h = refl
values_low base code x (suc p) z h = rw (values_low base code x p z (omega arith), class_low base code x p z (omega arith))

-- ---- how many values there are
pub values-even : (base code p : ℕ) → values_to base code p % 2 ≡ 0
unfolding values_to
values-even base code zero = omega arith
values-even base code (suc p) = omega (arith, values-even base code p)

pub values-least : (base code p : ℕ) → 1 ≤ p → 2 ≤ values_to base code p
unfolding values_to
values-least base code zero h = omega arith
values-least base code (suc p) h = omega arith

-- ---- the ways out of the code
module _ (base code i : ℕ) (h : Coded base code) where
  pub class-alone : base ≡ 0 → (code / 4 ≡ class_in base code i) × (code / 4 ≤ 3)
  unfolding class_in
  class-alone e = (rw (eq-eqb base 0 e), omega (arith, h.alone e))

  pub class-based : (base ≡ 0 → ⊥) → (base - 1 + code / 2 ^ i % 2 ≡ class_in base code i) × (base - 1 + code / 2 ^ i % 2 ≤ 3)
  unfolding class_in bits_at
  class-based e = (rw (ne_eqb base 0 e), omega (arith, h.most))

  pub mode-alone : (parts : ℕ) → base ≡ 0 → (code ≡ mode_in parts base code i) × (code < 16)
  unfolding mode_in
  mode-alone parts e = (rw (eq-eqb base 0 e), h.alone e)

  pub mode-based : (parts r : ℕ) → (base ≡ 0 → ⊥) → (r ≡ class_in base code i) × (r ≤ 3)
      → (4 * r + code / 2 ^ (parts + 2 * i) % 4 ≡ mode_in parts base code i) × (4 * r + code / 2 ^ (parts + 2 * i) % 4 < 16)
  unfolding mode_in bits_at
  mode-based parts r e d = (rw (ne_eqb base 0 e, d.0), omega (arith, d.1))
