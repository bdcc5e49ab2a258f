-- The checks that the C surface adds to those of what it calls.
-- Assumes nothing.
use Rattle.std.specs.Prelude.{cond, ℕ, eqb, ltb}
use Rattle.answers.specs.Answers.{output_too_short, bad_options}
use Rattle.image_shape.specs.Shapes.{refusal_of}
use Rattle.image_shape.specs.declared.Shape.{Shape}

-- no option has landed: any other number than 0 is 23
unfoldable pub options_refusal : ℕ → ℕ
options_refusal options = cond (eqb options 0) 0 bad_options

-- a step tells C where it led in three places: fewer are 22, after the image's own refusals
unfoldable pub places_refusal : Shape → ℕ → ℕ → ℕ → ℕ
places_refusal m len room places = let a = refusal_of m len room in cond (ltb places 3) (cond (eqb a 0) output_too_short a) 0
