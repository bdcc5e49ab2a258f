-- `astc_numbers::put_map`: each way out is a law of NumberLaws, and the map's numbers are small. Assumes nothing.
use Rattle.block_map.specs.AnswerLaws.{map-small}
use Rattle.astc_numbers.specs.NumberLaws.{refused, no_room, written}
use native.Mathlib.Omega.{arith}
use Rattle.astc_numbers.proofs.put_map.Goals as goal

pub returns-then-m : goal.returns-then-m
returns-then-m c =
    let both = refused _ _ c.block_map-m.ensures _ c.if-m.true in record { value = both.0; map_after = both.1 }

pub returns-then-map-lt9 : goal.returns-then-map-lt9
returns-then-map-lt9 c =
    let both = no_room _ _ c.block_map-m.ensures _ c.if-m.false (omega (arith, c.if-map-lt9.true)) in record { value = both.0; map_after = both.1 }

pub numbers_of-requires : goal.numbers_of-requires
numbers_of-requires c =
    rw c.block_map-m.ensures (map-small _ _)

pub returns : goal.returns
returns c =
    let both = written _ _ c.block_map-m.ensures _ _ _ c.if-m.false c.if-map-lt9.false c.numbers_of.ensures c.put_numbers.ensures in record { value = both.0; map_after = both.1 }
