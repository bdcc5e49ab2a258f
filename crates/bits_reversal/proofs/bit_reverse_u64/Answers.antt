-- Six exchanges, of runs of 1, 2, 4, 8, 16 and 32 bits, reverse the word (`six-swaps`). For each of them the pairs of runs fill the word, and
-- the mask is computed.
use mathlib.Core.Path.{refl}
use native.Mathlib.Omega.{arith}
use Rattle.bits_reversal.specs.Swaps.{lower_runs}
use Rattle.bits_reversal.specs.SwapLaws.{six-swaps}
use Rattle.bits_reversal.proofs.bit_reverse_u64.Goals as goal

pub swap_runs-in_pairs-requires : goal.swap_runs-in_pairs-requires
unfolding lower_runs
swap_runs-in_pairs-requires c = record { short = omega arith; fills = refl; lower = refl }

pub swap_runs-in_nibbles-requires : goal.swap_runs-in_nibbles-requires
unfolding lower_runs
swap_runs-in_nibbles-requires c = record { short = omega arith; fills = refl; lower = refl }

pub swap_runs-in_bytes-requires : goal.swap_runs-in_bytes-requires
unfolding lower_runs
swap_runs-in_bytes-requires c = record { short = omega arith; fills = refl; lower = refl }

pub swap_runs-in_quarters-requires : goal.swap_runs-in_quarters-requires
unfolding lower_runs
swap_runs-in_quarters-requires c = record { short = omega arith; fills = refl; lower = refl }

pub swap_runs-in_halves-requires : goal.swap_runs-in_halves-requires
unfolding lower_runs
swap_runs-in_halves-requires c = record { short = omega arith; fills = refl; lower = refl }

pub swap_runs-requires : goal.swap_runs-requires
unfolding lower_runs
swap_runs-requires c = record { short = omega arith; fills = refl; lower = refl }

pub returns : goal.returns
returns c =
    six-swaps
    c.args.x
    (omega arith)
    c.swap_runs-in_pairs.ensures
    c.swap_runs-in_nibbles.ensures
    c.swap_runs-in_bytes.ensures
    c.swap_runs-in_quarters.ensures
    c.swap_runs-in_halves.ensures
    c.swap_runs.ensures
