-- `partition_ramps::hash` meets its contract: step by step, each sum of 32 bits as the one over whole numbers. Assumes nothing.
use Rattle.std.proofs.Common.{refl, ℕ, ◌+◌, ◌*◌, ◌%◌, ◌^◌}
use Rattle.partition_ramps.specs.Ramps.{xor_down, sub_up}
use Rattle.partition_ramps.specs.RampLaws.{hash-steps, wrapped-add}
use Rattle.partition_ramps.proofs.hash.Goals as goal

pub returns : goal.returns
returns c =
    let b : ℕ = sub_up 17 (xor_down 15 c.args.seed) in
    let m : ℕ = (b + b * 2 ^ 7 % 2 ^ 32) % 2 ^ 32 in
    let d : ℕ = (m + m * 2 ^ 4 % 2 ^ 32) % 2 ^ 32 in
    let e : ℕ = xor_down 5 d in
    hash-steps c.args.seed b m d ((e + e * 2 ^ 16 % 2 ^ 32) % 2 ^ 32) refl (wrapped-add b (b * 2 ^ 7)) (wrapped-add m (m * 2 ^ 4)) (wrapped-add e (e * 2 ^ 16))
