-- `astc::astc_block_map`: the answer fits in 32 bits. Assumes nothing.
use Rattle.astc_numbers.specs.NumberLaws.{map-answer-small}
use Prim.Native.Nat.{◌<◌}
use native.Mathlib.Omega.{arith}
use borrow.Author.Rules.{rules}
use Rattle.astc.proofs.astc_block_map.Goals as goal

pub overflow_cast-result : goal.overflow_cast-result
overflow_cast-result c = let d = c.put_map in let l : d.result < 23 = rw d.ensures.value (map-answer-small _ _ _) in omega (arith, l)

pub returns : goal.returns
returns c = record { value = c.put_map.ensures.value; map_after = c.put_map.ensures.map_after }
