-- The ways out of the C functions of a block's channels and of a step.
-- Assumes nothing.
use Rattle.std.specs.Prelude.{◌≡◌, List, ℕ, ◌<◌, get_or}
use Rattle.std.proofs.Math.Path.{refl}
use Rattle.std.proofs.Common.{sym}
use Rattle.std.proofs.Math.ListN.{length}
use borrow.Author.Tests.{ne_eqb, lt-ltb, le-ltb}
use Rattle.laws.specs.Lists.{put}
use Rattle.footprint.specs.declared.Footprint.{Footprint}
use Rattle.block_map.specs.Answer.{answer_of}
use Rattle.block_channels.specs.BlockChannels.{room_of, numbers_of, marks_in}
use Rattle.image.specs.Image.{step_of, stepped}
use Rattle.image.specs.StepLaws.{step-answer}
use Rattle.image.specs.declared.Cursor.{Cursor}
use Rattle.image.specs.declared.Step.{Step}
use Rattle.astc_checks.specs.Checks.{options_refusal, places_refusal}
use Rattle.astc_checks.specs.CheckLaws.{three-places, few-places}
use Rattle.astc.specs.Surface.{channels_answer, channels_in, floats_in, step_answer_in, stepped_in, led_of, moved_in}

-- ---- channels
module _ (options : ℕ) (s : List ℕ) (foot : Footprint) (out floats : List ℕ) where
  abbrev Channels : ℕ → List ℕ → List ℕ → Type 0
  Channels a now marks =
      (a ≡ channels_answer options s foot (length out) (length floats)) × (now ≡ channels_in options s foot (length floats) out) × (marks ≡ floats_in options s foot (length out) floats)

  module _ (r : ℕ) (e : r ≡ options_refusal options) where
    pub optioned : (r ≡ 0 → ⊥) → Channels r out floats
    unfolding channels_answer channels_in floats_in
    optioned n = rw (sym e, ne_eqb r 0 n) (refl, refl, refl)

    pub answered : (a : ℕ) (now marks : List ℕ) → r ≡ 0
        → (a ≡ answer_of s foot (room_of (length out) (length floats))) × (now ≡ numbers_of s foot (length floats) out) × (marks ≡ marks_in s foot (length out) floats) → Channels a now marks
    unfolding channels_answer channels_in floats_in
    answered a now marks z d = rw (sym e, z) d

-- ---- a step
module _ (d : List ℕ) (c : Cursor) (blocks : ℕ) (out moved : List ℕ) where
  -- what is promised of a step: the answer, the words, and where it led
  abbrev pub Outcome : ℕ → List ℕ → List ℕ → Type 0
  Outcome a now led =
      (a ≡ step_answer_in c (length d) blocks (length out) (length moved)) × ((now ≡ stepped_in d c blocks (length moved) out) × (led ≡ moved_in d c blocks (length out) moved))

  module _ (r : ℕ) (e : r ≡ places_refusal c.shape (length d) (length out) (length moved)) where
    pub refused : (r ≡ 0 → ⊥) → Outcome r out moved
    unfolding step_answer_in stepped_in moved_in
    refused n =
        let h : length moved < 3 = few-places c.shape (length d) (length out) (length moved) r e n in
        rw (sym e, ne_eqb r 0 n, lt-ltb (length moved) 3 h) (refl, (refl, refl))

    pub stepped-on : (s : Step) (now led : List ℕ) → r ≡ 0 → s ≡ step_of d c blocks (length out) → now ≡ stepped d c blocks out
        → led ≡ put (λ (k : ℕ). get_or (led_of s) k 0) 0 3 moved → Outcome s.answer now led
    unfolding step_answer_in stepped_in moved_in
    stepped-on s now led z f p q =
        rw (sym e, z, le-ltb (length moved) 3 (three-places c.shape (length d) (length out) (length moved) r e z)) (rw f (step-answer d c blocks (length out)), (p, rw f at q))
