-- `params_map::decode_block_map` meets its contract: a law for each way out, in the order of the checks. Assumes nothing.
use Rattle.answers.specs.ResultLaws.{broken-some}
use Rattle.params_config.specs.Bounds.{small_of}
use Rattle.params_room.specs.RoomLaws.{given}
use Rattle.params_map.specs.MapLaws.{out-void, out-reserved, out-legal, out-rule}
use mathlib.Core.Path.{refl}
use Rattle.params_map.proofs.decode_block_map.Goals as goal

pub returns-then-is_void : goal.returns-then-is_void
returns-then-is_void c = out-void _ _ _ _ c.is_void.ensures c.if-is_void.true (rw c.from.ensures at c.no_map.ensures)

pub returns-then-is_reserved : goal.returns-then-is_reserved
returns-then-is_reserved c =
    out-reserved _ _ _ _ _ _ c.low_config-c.ensures c.is_void.ensures c.if-is_void.false c.is_reserved.ensures c.if-is_reserved.true
    (rw c.from-then-is_reserved.ensures at c.no_map-then-is_reserved.ensures)

pub judge-requires : goal.judge-requires
judge-requires c = search small_of

pub invariant_of-legal_map : goal.invariant_of-legal_map
invariant_of-legal_map c = record { legal = given _ _ _ 0 c.read_config-config.ensures c.in-Ok.ensures refl }

pub returns-in-Ok : goal.returns-in-Ok
returns-in-Ok c =
    out-legal _ _ _ 0 _ _ _ _ c.low_config-c.ensures c.is_void.ensures c.if-is_void.false c.is_reserved.ensures c.if-is_reserved.false
    c.read_config-config.ensures c.in-Ok.ensures refl c.legal_map.ensures

pub returns-in-Err : goal.returns-in-Err
returns-in-Err c =
    out-rule _ _ _ _ _ _ _ _ c.low_config-c.ensures c.is_void.ensures c.if-is_void.false c.is_reserved.ensures c.if-is_reserved.false
    c.read_config-config.ensures c.in-Err.ensures (broken-some c.in-Err.rule) (rw c.from-in-Err.ensures at c.no_map-in-Err.ensures)
