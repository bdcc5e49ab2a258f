-- The types of answers by the numbers of the table.
-- Assumes nothing.
use Rattle.std.specs.Prelude.{ℕ, Result, Ok, Err}
use Rattle.answers.specs.declared.Refusal.{Refusal}
use Rattle.answers.specs.declared.Refusal.TheVariants.{BlockLength, Footprint, OutputTooShort, Options, ImageSide, DataLength, Position, NoBlocks, PastTheEnd}
use Rattle.answers.specs.declared.Rule.{Rule}
use Rattle.answers.specs.declared.Rule.TheVariants.{ReservedMode, GridTooLarge, TooManyWeights, WeightBits, DualPlaneOfFour, TooManyValues, TooLittleRoom, BadExtent}
use Rattle.answers.specs.declared.Verdict.{Verdict}
use Rattle.answers.specs.declared.Verdict.TheVariants.{Legal, VoidExtent, Broken}
use Rattle.answers.specs.Answers.{legal, void_extent, reserved_mode, grid_too_large, too_many_weights, weight_bits, dual_plane_of_four, too_many_values, too_little_room, block_length, not_listed, output_too_short, bad_options, image_side, data_length, no_position, no_blocks, past_the_end}

-- ---- a value's number
abbrev pub refusal_number : Refusal → ℕ
refusal_number BlockLength = block_length
refusal_number Footprint = not_listed
refusal_number OutputTooShort = output_too_short
refusal_number Options = bad_options
refusal_number ImageSide = image_side
refusal_number DataLength = data_length
refusal_number Position = no_position
refusal_number NoBlocks = no_blocks
refusal_number PastTheEnd = past_the_end

-- 17 is of the standard's reading alone
abbrev pub rule_number : Rule → ℕ
rule_number ReservedMode = reserved_mode
rule_number GridTooLarge = grid_too_large
rule_number TooManyWeights = too_many_weights
rule_number WeightBits = weight_bits
rule_number DualPlaneOfFour = dual_plane_of_four
rule_number TooManyValues = too_many_values
rule_number TooLittleRoom = too_little_room
rule_number BadExtent = 17

abbrev pub verdict_number : Verdict → ℕ
verdict_number Legal = legal
verdict_number VoidExtent = void_extent
verdict_number (Broken rule) = rule_number rule

-- ---- a result's number: 0 where a call is not refused, and where a block breaks no rule
abbrev pub refused : Result (Unit {0}) Refusal → ℕ
refused (Ok done) = 0
refused (Err refusal) = refusal_number refusal

abbrev pub broken : Result (Unit {0}) Rule → ℕ
broken (Ok done) = 0
broken (Err rule) = rule_number rule

abbrev pub answered : Result Verdict Refusal → ℕ
answered (Ok verdict) = verdict_number verdict
answered (Err refusal) = refusal_number refusal
