-- The factors are no negative numbers and add to 16, so the sums fit and the weight is a byte.
use Prim.Native.Nat.{ℕ, ◌+◌, ◌*◌, ◌-◌, ◌/◌, ◌%◌, ◌≤◌}
use native.Mathlib.Omega.{arith}
use native.Mathlib.Nat.{mul-le-mul}
use Rattle.weights_infill.specs.InfillLaws.{shares, between_le, between_is}
use Rattle.weights_infill.proofs.mixed.Goals as goal

below : (x w : ℕ) → x ≤ 255 → w ≤ 16 → x * w ≤ 4080
below x w l m = mul-le-mul l m

-- each of the four products is at most 255 * 16
terms : (c : goal.Start) → let w = (c.args.f * c.args.h + 8) / 16 in
    (c.args.a % 256 * (16 - c.args.h - (c.args.f - w)) ≤ 4080) × (c.args.a / 256 * (c.args.f - w) ≤ 4080)
    × (c.args.b % 256 * (c.args.h - w) ≤ 4080) × (c.args.b / 256 * w ≤ 4080)
terms c =
    let s = shares c.args.f c.args.h c.requires.0 c.requires.1 in
    (below _ _ (omega arith) (omega arith), below _ _ (omega arith) (omega arith), below _ _ (omega arith) (omega arith), below _ _ (omega arith) (omega (arith, s)))

pub overflow_mul-w11 : goal.overflow_mul-w11
overflow_mul-w11 c = omega (arith, mul-le-mul {n₁ = c.args.f} {m₁ = c.args.h} {n₂ = 15} {m₂ = 15} (omega arith) (omega arith))

pub overflow_add-w11 : goal.overflow_add-w11
overflow_add-w11 c = omega (arith, mul-le-mul {n₁ = c.args.f} {m₁ = c.args.h} {n₂ = 15} {m₂ = 15} (omega arith) (omega arith))

pub overflow_sub-w01 : goal.overflow_sub-w01
overflow_sub-w01 c = omega (arith, shares c.args.f c.args.h c.requires.0 c.requires.1)

pub overflow_sub-w10 : goal.overflow_sub-w10
overflow_sub-w10 c = omega (arith, shares c.args.f c.args.h c.requires.0 c.requires.1)

pub overflow_sub-w00-2 : goal.overflow_sub-w00-2
overflow_sub-w00-2 c = omega (arith, shares c.args.f c.args.h c.requires.0 c.requires.1)

pub overflow_mul-result : goal.overflow_mul-result
overflow_mul-result c = omega (arith, terms c)

pub overflow_mul-result-2 : goal.overflow_mul-result-2
overflow_mul-result-2 c = omega (arith, terms c)

pub overflow_add-result : goal.overflow_add-result
overflow_add-result c = omega (arith, terms c)

pub overflow_mul-result-3 : goal.overflow_mul-result-3
overflow_mul-result-3 c = omega (arith, terms c)

pub overflow_add-result-2 : goal.overflow_add-result-2
overflow_add-result-2 c = omega (arith, terms c)

pub overflow_mul-result-4 : goal.overflow_mul-result-4
overflow_mul-result-4 c = omega (arith, terms c)

pub overflow_add-result-3 : goal.overflow_add-result-3
overflow_add-result-3 c = omega (arith, terms c)

pub overflow_add-result-4 : goal.overflow_add-result-4
overflow_add-result-4 c = omega (arith, terms c)

pub overflow_cast-result : goal.overflow_cast-result
overflow_cast-result c =
    record {
      fits = rw (between_is c.args.a c.args.b c.args.f c.args.h c.requires.0 c.requires.1)
          (omega (arith, between_le c.args.a c.args.b c.args.f c.args.h c.requires.0 c.requires.1 c.ranges.a.fits c.ranges.b.fits));
    }

pub returns : goal.returns
returns c = between_is c.args.a c.args.b c.args.f c.args.h c.requires.0 c.requires.1
