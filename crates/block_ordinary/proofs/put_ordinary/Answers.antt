-- `block_ordinary::put_ordinary` meets its contract: what the parts promise is what both forms ask, and the lanes are those of the parts. Assumes nothing.
use Rattle.block_ordinary.specs.Parts.{paint-given, words-put, samples-put}
use mathlib.Core.Path.{refl}
use Rattle.block_ordinary.proofs.put_ordinary.Goals as goal

pub invariant_of-d : goal.invariant_of-d
invariant_of-d c =
    let k = c.requires in
    record { given = paint-given c.args.p c.args.f k.facts _ _ _ _ _ _ refl k.sides.texels c.ends_of.ensures c.weights_of.ensures c.partition_of.ensures }

pub invariant_of-d-in-Samples : goal.invariant_of-d-in-Samples
invariant_of-d-in-Samples c =
    let k = c.requires in
    record { given = paint-given c.args.p c.args.f k.facts _ _ _ _ _ _ refl k.sides.texels c.ends_of.ensures c.weights_of.ensures c.partition_of.ensures }

pub returns-in-Words : goal.returns-in-Words
returns-in-Words c =
    words-put _ _ c.args.f _ _ _ _ _ _ c.ends_of.ensures c.weights_of.ensures c.partition_of.ensures refl _ c.in-Words.is c.applicate_color.ensures

pub returns-in-Samples : goal.returns-in-Samples
returns-in-Samples c =
    samples-put _ _ c.args.f _ _ _ _ _ _ c.ends_of.ensures c.weights_of.ensures c.partition_of.ensures refl _ c.in-Samples.is c.put_samples.ensures
