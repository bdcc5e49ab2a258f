-- The sequence that is read downwards and infilled is the one of the weight field.
use native.Mathlib.Nat.{mul-le-mul}
use Rattle.block_ordinary.specs.Parts.{range-legal, weights-given, weights-is}
use mathlib.Core.Path.{refl}
use native.Mathlib.Omega.{arith}
use Rattle.block_ordinary.proofs.weights_of.Goals as goal

pub overflow_mul-k : goal.overflow_mul-k
overflow_mul-k c =
    let f = c.requires.ready.facts in
    omega (arith, mul-le-mul f.width f.height, mul-le-mul (mul-le-mul f.width f.height) f.planes.1)

pub overflow_mul-k-2 : goal.overflow_mul-k-2
overflow_mul-k-2 c =
    let f = c.requires.ready.facts in
    omega (arith, mul-le-mul f.width f.height, mul-le-mul (mul-le-mul f.width f.height) f.planes.1)

pub decode_intseq_reverse-requires : goal.decode_intseq_reverse-requires
decode_intseq_reverse-requires c =
    let p = c.requires in
    let k = p.ready in
    (refl, range-legal _ _ (omega (arith, k.facts.weight-range)) c.range_of.ensures, k.fits.few)

pub decode_weights-requires : goal.decode_weights-requires
decode_weights-requires c =
    weights-given c.args.p c.args.f _ c.requires.ready _ _ _ c.range_of.ensures c.decode_intseq_reverse.ensures c.requires.out_value

pub returns : goal.returns
returns c =
    weights-is c.args.p c.args.f _ c.requires.ready _ _ _ c.range_of.ensures c.decode_intseq_reverse.ensures c.decode_weights.ensures
