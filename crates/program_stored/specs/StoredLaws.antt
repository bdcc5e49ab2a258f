-- The ways out of a comparison: another answer, or the same one and the words.
-- Assumes nothing.
use Rattle.std.specs.Prelude.{◌≡◌, true, List, ℕ, ltb, get_or, length}
use Rattle.std.proofs.Common.{eq-eqb, ne_eqb}
use Rattle.footprint.specs.Footprints.{most_texels}
use Rattle.program_compare.specs.Compare.{differences}
use Rattle.program_stored.specs.Stored.{stored_words, texels_of, differs_from}

module _ (head stored : List ℕ) (answer a : ℕ) (words : List ℕ) (e : a ≡ get_or head 2 0) where
  pub other-answer : (answer ≡ a → ⊥) → true ≡ differs_from head stored answer words
  unfolding differs_from
  other-answer d = rw (ne_eqb answer (get_or head 2 0) (rw e at d))

  pub same_answer : (whole : List ℕ) (n found : ℕ) → answer ≡ a → length words ≡ most_texels → whole ≡ stored_words stored → n ≡ texels_of head
      → found ≡ differences words whole n (length words) → ltb 0 found ≡ differs_from head stored answer words
  unfolding differs_from
  same_answer whole n found d l q m f =
      let g : found ≡ differences words whole n most_texels = rw l at f in
      rw (eq-eqb answer (get_or head 2 0) (rw e at d), g, m, q)
