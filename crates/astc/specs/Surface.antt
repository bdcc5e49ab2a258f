-- A call for a block's channels, which takes options; and a step that also tells C where it led, in an output that may be too short.
-- Assumes nothing.
use Rattle.std.specs.Prelude.{cond, List, ℕ, eqb, ltb, get_or, length}
use Rattle.laws.specs.Lists.{put}
use Rattle.footprint.specs.declared.Footprint.{Footprint}
use Rattle.block_map.specs.Answer.{answer_of}
use Rattle.block_channels.specs.BlockChannels.{room_of, numbers_of, marks_in}
use Rattle.image_shape.specs.Shapes.{shape}
use Rattle.image.specs.Image.{step_answer, step_of, stepped}
use Rattle.image.specs.declared.Cursor.{Cursor}
use Rattle.image.specs.declared.Step.{Step}
use Rattle.astc_checks.specs.Checks.{options_refusal, places_refusal}
use Rattle.astc_numbers.specs.Numbers.{led_to}

-- ---- channels
-- its options are looked at before all other checks
unfoldable pub channels_answer : ℕ → List ℕ → Footprint → ℕ → ℕ → ℕ
channels_answer options s foot places marks = let a = options_refusal options in cond (eqb a 0) (answer_of s foot (room_of places marks)) a

-- what the two outputs hold afterwards
unfoldable pub channels_in : ℕ → List ℕ → Footprint → ℕ → List ℕ → List ℕ
channels_in options s foot marks out = cond (eqb (options_refusal options) 0) (numbers_of s foot marks out) out

unfoldable pub floats_in : ℕ → List ℕ → Footprint → ℕ → List ℕ → List ℕ
floats_in options s foot places floats = cond (eqb (options_refusal options) 0) (marks_in s foot places floats) floats

-- ---- a step
abbrev pub cursor : ℕ → ℕ → ℕ → ℕ → ℕ → Cursor
cursor width height bw bh next = record { shape = shape width height bw bh; next = next }

-- its places for where it led are asked for after the image's own refusals and before the step's
unfoldable pub step_answer_in : Cursor → ℕ → ℕ → ℕ → ℕ → ℕ
step_answer_in c len blocks room places = let a = places_refusal c.shape len room places in cond (eqb a 0) (step_answer c len blocks room) a

-- the words afterwards
unfoldable pub stepped_in : List ℕ → Cursor → ℕ → ℕ → List ℕ → List ℕ
stepped_in d c blocks places out = cond (ltb places 3) out (stepped d c blocks out)

-- where it led
abbrev pub led_of : Step → List ℕ
led_of s = led_to s.cursor.next s.painted s.bad

unfoldable pub moved_in : List ℕ → Cursor → ℕ → ℕ → List ℕ → List ℕ
moved_in d c blocks room moved = cond (ltb (length moved) 3) moved (put (λ (k : ℕ). get_or (led_of (step_of d c blocks room)) k 0) 0 3 moved)
