-- `program_leaves::put_partitions` meets its contract: the modes are below 16, and take at most 18 values. Assumes nothing.
use Rattle.program_leaves.proofs.colours.put_partitions.Goals as goal

pub decode_endpoints-ends-requires : goal.decode_endpoints-ends-requires
decode_endpoints-ends-requires c =
    let p = c.requires in
    record { le_parts = p.0; by_index = λ i h. p.1.0 i; parts_bound = rw p.1.1.0 at p.1.1.1.0 }
