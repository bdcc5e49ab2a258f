-- The ramps are those of the definition for the block's count of partitions, so the largest of them at each texel is the definition's.
use Rattle.partition_ramps.specs.RampLaws.{ramp-held}
use Rattle.partition.specs.Rows.{of_two, of_four}
use Rattle.partition.specs.PartitionLaws.{of_two-is, of_three, of-four, flat-gentle, last-count}
use Rattle.partition.proofs.select_partition.Goals as goal

pub fill-requires-clause-gentle : goal.fill-requires-clause-gentle
fill-requires-clause-gentle c =
    let small = c.scale_of-scale.ensures.1 in
    ((ramp-held _ _ _ _ _ c.ramp_of-a.ensures small).gentle, (ramp-held _ _ _ _ _ c.ramp_of-b.ensures small).gentle)

pub fill-requires-then-parts-eq3-clause-gentle : goal.fill-requires-then-parts-eq3-clause-gentle
fill-requires-then-parts-eq3-clause-gentle c =
    let small = c.scale_of-scale.ensures.1 in (
      (ramp-held _ _ _ _ _ c.ramp_of-a.ensures small).gentle,
      ((ramp-held _ _ _ _ _ c.ramp_of-b.ensures small).gentle, ((ramp-held _ _ _ _ _ c.ramp_of-c.ensures small).gentle, flat-gentle)),
    )

pub fill-requires-2-clause-gentle : goal.fill-requires-2-clause-gentle
fill-requires-2-clause-gentle c =
    let small = c.scale_of-scale.ensures.1 in (
      (ramp-held _ _ _ _ _ c.ramp_of-a.ensures small).gentle,
      (
        (ramp-held _ _ _ _ _ c.ramp_of-b.ensures small).gentle,
        ((ramp-held _ _ _ _ _ c.ramp_of-c.ensures small).gentle, (ramp-held _ _ _ _ _ c.ramp_of-d.ensures small).gentle),
      ),
    )

pub returns-then-parts-eq2 : goal.returns-then-parts-eq2
unfolding of_two
returns-then-parts-eq2 c =
    of_two-is c.args.number c.args.parts _ c.args.f _ _ c.scale_of-scale.ensures.0 c.scale_of-scale.ensures.1 _ _ c.if-parts-eq2.true
    c.ramp_of-a.ensures c.ramp_of-b.ensures c.fill.ensures

pub returns-then-parts-eq3 : goal.returns-then-parts-eq3
unfolding of_four
returns-then-parts-eq3 c =
    of_three c.args.number c.args.parts _ c.args.f _ _ c.scale_of-scale.ensures.0 c.scale_of-scale.ensures.1 _ _ _ c.if-parts-eq3.true
    c.ramp_of-a.ensures c.ramp_of-b.ensures c.ramp_of-c.ensures c.fill-then-parts-eq3.ensures

pub returns : goal.returns
unfolding of_four
returns c =
    of-four c.args.number c.args.parts _ c.args.f _ _ c.scale_of-scale.ensures.0 c.scale_of-scale.ensures.1 _ _ _ _
    (last-count _ c.requires.1.0.0 c.if-parts-eq2.false c.if-parts-eq3.false) c.ramp_of-a.ensures c.ramp_of-b.ensures
    c.ramp_of-c.ensures c.ramp_of-d.ensures c.fill-2.ensures
