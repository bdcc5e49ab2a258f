-- `params_map::top_of` meets its contract: the largest value by the kind of the range, tested at all 21 ranges. Assumes nothing.
use Rattle.params_map.specs.TopLaws.{top-of-kind, kept-of-kind, bits-of-range}
use native.Mathlib.Omega.{arith}
use Rattle.params_map.proofs.top_of.Goals as goal

pub overflow_shl-result : goal.overflow_shl-result
overflow_shl-result c = omega (arith, bits-of-range _ c.requires _ c.range_of-r.ensures)

pub overflow_sub-result : goal.overflow_sub-result
overflow_sub-result c = kept-of-kind _ c.requires _ c.range_of-r.ensures _ c.in-Plain.is

pub returns-in-Plain : goal.returns-in-Plain
returns-in-Plain c = top-of-kind _ c.requires _ c.range_of-r.ensures _ c.in-Plain.is

pub overflow_shl-result-in-Trits : goal.overflow_shl-result-in-Trits
overflow_shl-result-in-Trits c = omega (arith, bits-of-range _ c.requires _ c.range_of-r.ensures)

pub overflow_sub-result-in-Trits : goal.overflow_sub-result-in-Trits
overflow_sub-result-in-Trits c = kept-of-kind _ c.requires _ c.range_of-r.ensures _ c.in-Trits.is

pub returns-in-Trits : goal.returns-in-Trits
returns-in-Trits c = top-of-kind _ c.requires _ c.range_of-r.ensures _ c.in-Trits.is

pub overflow_shl-result-in-Quints : goal.overflow_shl-result-in-Quints
overflow_shl-result-in-Quints c = omega (arith, bits-of-range _ c.requires _ c.range_of-r.ensures)

pub overflow_sub-result-in-Quints : goal.overflow_sub-result-in-Quints
overflow_sub-result-in-Quints c = kept-of-kind _ c.requires _ c.range_of-r.ensures _ c.in-Quints.is

pub returns-in-Quints : goal.returns-in-Quints
returns-in-Quints c = top-of-kind _ c.requires _ c.range_of-r.ensures _ c.in-Quints.is
