-- The sequence that is read, unquantised and decoded is the one of the endpoint field.
use mathlib.Core.Path.{refl}
use Prim.Native.Nat.{ℕ}
use native.Mathlib.Omega.{arith}
use Rattle.bits.specs.Bits.{bits_at}
use Rattle.bits.specs.Blocks.{value_of}
use Rattle.sequence_ranges.specs.Ranges.{total_of}
use Rattle.block_ordinary.specs.Parts.{range-legal, below, past, ends_is}
use Rattle.block_ordinary.proofs.ends_of.Goals as goal

pub decode_intseq-requires : goal.decode_intseq-requires
decode_intseq-requires c =
    let f = c.requires in
    (refl, range-legal _ _ f.most c.range_of.ensures, omega (arith, f.values), f.low)

pub unquantize-requires : goal.unquantize-requires
unquantize-requires c =
    let f = c.requires in
    let k = c.args.p.config in
    let e = c.range_of.ensures in
    let d = c.decode_intseq.ensures in
    let w : ℕ = bits_at (value_of c.args.b) k.low_len (total_of c.range_of.result k.values) in
    record { out_value = refl; n_bound = (f.values, f.least, f.most); by_index = below _ w _ _ _ e d; by_index_2 = past w _ _ _ d }

pub decode_endpoints-requires : goal.decode_endpoints-requires
decode_endpoints-requires c =
    let f = c.requires in
    record { le_parts = (f.part, f.parts); by_index = λ i h. f.modes i; parts_bound = rw f.count f.values }

pub returns : goal.returns
returns c =
    ends_is c.args.p _ c.requires _ _ _ _ c.range_of.ensures c.decode_intseq.ensures c.unquantize.ensures c.decode_endpoints.ensures
