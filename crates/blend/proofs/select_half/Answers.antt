-- `blend::select_half` meets its contract: the common factor of 16 is taken out of the sum. Assumes nothing.
use Rattle.blend.specs.BlendLaws.{shares-most, hdr-half-is}
use native.Mathlib.Omega.{arith}
use Rattle.blend.proofs.select_half.Goals as goal

pub overflow_mul-v0 : goal.overflow_mul-v0
overflow_mul-v0 c = omega (arith, shares-most c.args.v0 c.args.v1 c.args.weight c.requires.1.1, shares-most c.args.v1 c.args.v0 c.args.weight c.requires.1.1)

pub overflow_mul-v1 : goal.overflow_mul-v1
overflow_mul-v1 c = omega (arith, shares-most c.args.v0 c.args.v1 c.args.weight c.requires.1.1, shares-most c.args.v1 c.args.v0 c.args.weight c.requires.1.1)

pub overflow_add-v0 : goal.overflow_add-v0
overflow_add-v0 c = omega (arith, shares-most c.args.v0 c.args.v1 c.args.weight c.requires.1.1, shares-most c.args.v1 c.args.v0 c.args.weight c.requires.1.1)

pub overflow_add-v0-2 : goal.overflow_add-v0-2
overflow_add-v0-2 c = omega (arith, shares-most c.args.v0 c.args.v1 c.args.weight c.requires.1.1, shares-most c.args.v1 c.args.v0 c.args.weight c.requires.1.1)

pub hdr_half-requires : goal.hdr_half-requires
hdr_half-requires c = omega (arith, shares-most c.args.v0 c.args.v1 c.args.weight c.requires.1.1, shares-most c.args.v1 c.args.v0 c.args.weight c.requires.1.1)

pub returns : goal.returns
returns c = hdr-half-is _ _ _ _ c.requires.0 c.requires.1.0 c.requires.1.1 c.hdr_half.ensures
