-- The ways out of a record's answer.
-- Assumes nothing.
use Rattle.std.specs.Prelude.{◌≡◌, List, ℕ, ◌-◌, length, get_or, drop, take}
use Rattle.std.proofs.Common.{◌∙◌, suc-ne-zero, arith, length-drop, take_all}
use Rattle.footprint.specs.Footprints.{footprint}
use Rattle.block_refusal.specs.RefusalLaws.{first-20, out_first}
use Rattle.block_map.specs.Answer.{answer_of}
use Rattle.block.specs.Block.{painted_of}
use Rattle.block.specs.Entry.{call-refused}
use Rattle.program_listing.specs.Listing.{answer_in, words_in}

-- a record of another length has no block of sixteen bytes
pub short : (r words : List ℕ) → (length r ≡ 18 → ⊥) → (20 ≡ answer_in r (length words)) × (words ≡ words_in r words)
short r words h =
    call-refused (drop 2 r) (footprint (get_or r 0 0) (get_or r 1 0)) words 20 (out_first _ _ _ 20 (first-20 _ _ (λ e. h (omega (arith, e, length-drop 2 r)))) (suc-ne-zero 19)) (suc-ne-zero 19)

-- a record of eighteen bytes has its block after the first two
pub whole : (r words words' : List ℕ) (bw bh a : ℕ) → bw ≡ get_or r 0 0 → bh ≡ get_or r 1 0 → a ≡ answer_of (take (length r - 2) (drop 2 r)) (footprint bw bh) (length words)
    → words' ≡ painted_of (take (length r - 2) (drop 2 r)) (footprint bw bh) words → (a ≡ answer_in r (length words)) × (words' ≡ words_in r words)
whole r words words' bw bh a w h e p =
    let t : take (length r - 2) (drop 2 r) ≡ drop 2 r = take_all (length r - 2) (drop 2 r) (omega (arith, length-drop 2 r)) in
    (e ∙ rw (t, w, h), p ∙ rw (t, w, h))
