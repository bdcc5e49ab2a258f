-- Numbers that several layers meet: a choice of two, and what the last arm of a match on a number says of it.
-- Assumes nothing.
use Rattle.std.specs.Prelude.{◌≡◌, Bool, true, false, cond, ℕ, zero, suc, ◌≤◌, ◌<◌}
use Rattle.std.proofs.Common.{zero-le, arith}

-- a choice of two numbers below n is below n
pub choice : {n : ℕ} (b : Bool) (x y : ℕ) → x < n → y < n → cond b x y < n
choice true x y h l = h
choice false x y h l = l

-- and of two that are at most n
pub choice-le : {n : ℕ} (b : Bool) (x y : ℕ) → x ≤ n → y ≤ n → cond b x y ≤ n
choice-le true x y h l = h
choice-le false x y h l = l

-- b is none of the numbers below n: the last arm's fact, where the others are 0, 1, .., n - 1
abbrev pub NoneBelow : ℕ → ℕ → Type 0
NoneBelow zero b = Unit {0}
NoneBelow (suc n) b = NoneBelow n b × (b ≡ n → ⊥)

not-below : (n b : ℕ) → NoneBelow n b → n ≤ b
not-below zero b r = zero-le
not-below (suc n) b r = past (not-below n b r.0) r.1
  where
    past : n ≤ b → (b ≡ n → ⊥) → suc n ≤ b
    past l h = omega arith

-- so the last arm stands for n alone, where b is at most n
pub last_arm : (n b : ℕ) → b ≤ n → NoneBelow n b → b ≡ n
last_arm n b h r = omega (arith, not-below n b r)
