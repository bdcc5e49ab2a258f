-- `endpoints_hdr_modes::decode_endpoints_hdr11`: where no component is major, the colours are the closed forms. Assumes nothing.
use Rattle.std.proofs.Common.{arith}
use Rattle.endpoints_hdr_modes.specs.ElevenLaws.{Bytes, eleven-out}
use Rattle.endpoints_hdr_modes.proofs.hdr11.decode_endpoints_hdr11.Goals as goal

pub returns : goal.returns
returns c =
    let b : Bytes c.args.v = record { v0 = omega arith; v1 = omega arith; v2 = omega arith; v3 = omega arith; v4 = omega arith; v5 = omega arith } in
    eleven-out _ _ _ _ _ _ _ _ b c.if-major-eq3.false c.parts_of_eleven-e.ensures.0 c.first_eleven.ensures c.swap.ensures c.second_eleven.ensures c.swap-2.ensures c.set_endpoint_hdr-2.ensures
