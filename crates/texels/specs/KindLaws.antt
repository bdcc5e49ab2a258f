-- The laws of the kinds, and of what a partition has.
-- Assumes nothing.
use Rattle.std.specs.Prelude.{◌≡◌, refl, Bool, true, false, cond, List, ℕ, zero, suc, ◌<◌, eqb, get_or}
use Rattle.std.proofs.Common.{arith}
use Rattle.endpoints_colours.specs.Colours.{nothing}
use Rattle.endpoints_colours.specs.declared.Mark.{Mark}
use Rattle.endpoints_colours.specs.declared.Mark.TheVariants.{Ldr, Hdr}
use Rattle.endpoints_colours.specs.declared.Endpoints.{Endpoints}
use Rattle.texels.specs.Kinds.{kind_by, either_of, any_of}

-- ---- kinds
pub both-ldr : (c a : Mark) → kind_by c a ≡ 0 → (c ≡ Ldr) × (a ≡ Ldr)
both-ldr Ldr Ldr e = (refl, refl)
both-ldr Ldr Hdr e = absurd (omega arith)
both-ldr Hdr Ldr e = absurd (omega arith)
both-ldr Hdr Hdr e = absurd (omega arith)

pub both-hdr : (c a : Mark) → kind_by c a ≡ 1 → (c ≡ Hdr) × (a ≡ Hdr)
both-hdr Ldr Ldr e = absurd (omega arith)
both-hdr Ldr Hdr e = absurd (omega arith)
both-hdr Hdr Ldr e = absurd (omega arith)
both-hdr Hdr Hdr e = (refl, refl)

-- ---- what a partition has
-- a number picked is the number of the endpoints picked
pub either-field : (φ : Endpoints → ℕ) (p : ℕ) (a b : Endpoints) {x : ℕ} → x ≡ either_of p (φ a) (φ b) → x ≡ φ (either_of p a b)
either-field φ p a b {x} = go (eqb p 0)
  where
    go : (t : Bool) → x ≡ cond t (φ a) (φ b) → x ≡ φ (cond t a b)
    go true e = e
    go false e = e

past : {A : Type 0} {p : ℕ} → suc (suc (suc (suc p))) < 4 → A
past h = absurd (omega arith)

pub any_field : (φ : Endpoints → ℕ) (p : ℕ) (a b c d : Endpoints) {x : ℕ} → p < 4 → x ≡ any_of p (φ a) (φ b) (φ c) (φ d) 0 → x ≡ φ (any_of p a b c d nothing)
any_field φ zero a b c d h e = e
any_field φ (suc zero) a b c d h e = e
any_field φ (suc (suc zero)) a b c d h e = e
any_field φ (suc (suc (suc zero))) a b c d h e = e
any_field φ (suc (suc (suc (suc p)))) a b c d h e = past h

-- an entry picked of four is the list's
pub any_entry : {A : Type 0} (s : List A) (z : A) (p : ℕ) → p < 4 → any_of p (get_or s 0 z) (get_or s 1 z) (get_or s 2 z) (get_or s 3 z) z ≡ get_or s p z
any_entry s z zero h = refl
any_entry s z (suc zero) h = refl
any_entry s z (suc (suc zero)) h = refl
any_entry s z (suc (suc (suc zero))) h = refl
any_entry s z (suc (suc (suc (suc p)))) h = past h

pub either-entry : {A : Type 0} (s : List A) (z : A) (p : ℕ) → p < 2 → either_of p (get_or s 0 z) (get_or s 1 z) ≡ get_or s p z
either-entry s z zero h = refl
either-entry s z (suc zero) h = refl
either-entry s z (suc (suc p)) h = absurd (two h)
  where
    two : {p : ℕ} → suc (suc p) < 2 → ⊥
    two h = omega arith
