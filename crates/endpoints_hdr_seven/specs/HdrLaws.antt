-- The numbers of mode 7 in closed form, for each sub-mode, held to the table.
-- Assumes nothing.
use Rattle.std.specs.Prelude.{◌≡◌, ℕ, ◌+◌, ◌*◌, ◌/◌, ◌%◌, ◌<◌}
use Rattle.std.proofs.Common.{◌∙◌, arith}
use Rattle.endpoints_rules.specs.Hdr.{given, seven_rows, seven_shifts, seven_part, seven_of}
use Rattle.endpoints_rules.specs.BitLaws.{bits-6, bits-7, bits-8}
use Rattle.endpoints_rules.specs.declared.Seven.{Seven}

pub record Below (n : ℕ) (c : Seven) : Type 0 where
  pub r : c.r < n
  pub g : c.g < n
  pub b : c.b < n
  pub s : c.s < n

-- ---- the numbers of mode 7 in each sub-mode
abbrev pub seven_by : ℕ → ℕ → ℕ → ℕ → ℕ → Seven
seven_by r g b s by = record { r = r * by; g = g * by; b = b * by; s = s * by }

same_by : {r r' g g' b b' s s' : ℕ} (by : ℕ) → r ≡ r' → g ≡ g' → b ≡ b' → s ≡ s' → seven_by r g b s by ≡ seven_by r' g' b' s' by
same_by by p q u w = rw (p, q, u, w)

module _ (m v0 v1 v2 v3 : ℕ) (x : Seven) (h : v3 < 256) where
  pub seven-0 : m ≡ 0 → x ≡ seven_by (v0 % 64 + v3 / 128 * 64 + v2 / 64 % 2 * 128 + v1 / 32 % 2 * 256 + v1 / 64 % 2 * 512 + v2 / 32 % 2 * 1024) (v1 % 32) (v2 % 32) (v3 % 128) 2 → x ≡ seven_of m v0 v1 v2 v3
  unfolding seven_of seven_part given seven_rows seven_shifts
  seven-0 e d = d ∙ rw e (same_by 2 (omega arith) (omega arith) (omega arith) (omega (arith, bits-7 v3)))

  pub seven-1 : m ≡ 1 → x ≡ seven_by (v0 % 64 + v3 / 128 * 64 + v2 / 64 % 2 * 128 + v1 / 64 % 2 * 256 + v3 / 32 % 2 * 512 + v3 / 64 % 2 * 1024) (v1 % 64) (v2 % 64) (v3 % 32) 2 → x ≡ seven_of m v0 v1 v2 v3
  unfolding seven_of seven_part given seven_rows seven_shifts
  seven-1 e d = d ∙ rw e (same_by 2 (omega arith) (omega (arith, bits-6 v1)) (omega (arith, bits-6 v2)) (omega arith))

  pub seven-2 : m ≡ 2 → x ≡ seven_by (v0 % 64 + v2 / 32 % 2 * 64 + v2 / 64 % 2 * 128 + v1 / 32 % 2 * 256 + v1 / 64 % 2 * 512) (v1 % 32) (v2 % 32) (v3) 4 → x ≡ seven_of m v0 v1 v2 v3
  unfolding seven_of seven_part given seven_rows seven_shifts
  seven-2 e d = d ∙ rw e (same_by 4 (omega arith) (omega arith) (omega arith) (omega (arith, bits-8 v3 h)))

  pub seven-3 : m ≡ 3 → x ≡ seven_by (v0 % 64 + v3 / 128 * 64 + v2 / 64 % 2 * 128 + v1 / 64 % 2 * 256) (v1 % 64) (v2 % 64) (v3 % 128) 8 → x ≡ seven_of m v0 v1 v2 v3
  unfolding seven_of seven_part given seven_rows seven_shifts
  seven-3 e d = d ∙ rw e (same_by 8 (omega arith) (omega (arith, bits-6 v1)) (omega (arith, bits-6 v2)) (omega (arith, bits-7 v3)))

  pub seven-4 : m ≡ 4 → x ≡ seven_by (v0 % 64 + v3 / 128 * 64 + v3 / 64 % 2 * 128) (v1 % 128) (v2 % 128) (v3 % 64) 16 → x ≡ seven_of m v0 v1 v2 v3
  unfolding seven_of seven_part given seven_rows seven_shifts
  seven-4 e d = d ∙ rw e (same_by 16 (omega arith) (omega (arith, bits-7 v1)) (omega (arith, bits-7 v2)) (omega (arith, bits-6 v3)))

  pub seven-5 : m ≡ 5 → x ≡ seven_by (v0 % 64 + v3 / 128 * 64) (v1 % 128) (v2 % 128) (v3 % 128) 32 → x ≡ seven_of m v0 v1 v2 v3
  unfolding seven_of seven_part given seven_rows seven_shifts
  seven-5 e d = d ∙ rw e (same_by 32 (omega arith) (omega (arith, bits-7 v1)) (omega (arith, bits-7 v2)) (omega (arith, bits-7 v3)))
