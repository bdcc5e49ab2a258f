-- `params_map::legal_map` meets its contract: each number is that of the definition. Assumes nothing.
use Rattle.params_map.specs.Map.{legal_map}
use Rattle.params_map.proofs.legal_map.Goals as goal

pub returns : goal.returns
unfolding legal_map
returns c =
    simp (c.range_bits.ensures, c.top_of.ensures, c.extra_len-extra.ensures, c.end_range-range.ensures.0, c.from.ensures)
