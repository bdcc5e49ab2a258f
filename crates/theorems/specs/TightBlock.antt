-- Each public promise of the block allows one outcome (Tight says what that means).
-- Assumes nothing.
use Rattle.std.specs.Prelude.{◌≡◌, List, ℕ, Result, length}
use Rattle.answers.specs.Results.{refused, broken, answered}
use Rattle.answers.specs.ResultLaws.{one-refused, one-broken, one-answered}
use Rattle.answers.specs.declared.Refusal.{Refusal}
use Rattle.answers.specs.declared.Rule.{Rule}
use Rattle.answers.specs.declared.Verdict.{Verdict}
use Rattle.footprint.specs.declared.Footprint.{Footprint}
use Rattle.bits.specs.Bits.{bytes}
use Rattle.bits.specs.Blocks.{value_of}
use Rattle.bits.specs.declared.Block.{Block}
use Rattle.params_map.specs.declared.BlockMap.{BlockMap}
use Rattle.channels.specs.declared.Samples.{Samples}
use Rattle.lanes.specs.declared.Form.{Form}
use Rattle.block_void.specs.Void.{void_word, void_samples}
use Rattle.block_refusal.specs.Refusal.{first_refusal, block_refusal, texel_refusal}
use Rattle.block_map.specs.Answer.{answer_of, block_map}
use Rattle.block.specs.Block.{painted_of}
use Rattle.block_channels.specs.BlockChannels.{room_of, numbers_of, marks_in, texel_answered}
use Rattle.block_channels.specs.declared.Answered.{Answered}
use Rattle.block_ordinary.specs.Ordinary.{block_answer, lanes_in}
use Rattle.theorems.specs.Tight.{Tight, TightBoth, TightThree, TightBlock, one, told, told-both, told-three, block}

-- ---- block
pub void-color : (b : Block) → Tight ℕ (λ r. r ≡ void_word (value_of b))
void-color b = one ℕ (void_word (value_of b))

pub block-map : (s : List ℕ) (f : Footprint) → Tight BlockMap (λ r. r ≡ block_map s f)
block-map s f = one BlockMap (block_map s f)

pub decode-ordinary : (b : Block) (f : Footprint) (h : List ℕ) (form : Form)
    → TightBoth (Result (Unit {0}) Rule) (List ℕ) (λ a lanes. (broken a ≡ block_answer (value_of b) f) × (lanes ≡ lanes_in form (value_of b) f h))
decode-ordinary b f h form = told-both (Result (Unit {0}) Rule) (List ℕ) broken one-broken (block_answer (value_of b) f) (lanes_in form (value_of b) f h)

pub first-refusal : (len : ℕ) (f : Footprint) → Tight (Result (Unit {0}) Refusal) (λ r. refused r ≡ first_refusal len f)
first-refusal len f = told (Result (Unit {0}) Refusal) refused one-refused (first_refusal len f)

pub refusal : (len : ℕ) (f : Footprint) (room : ℕ) → Tight (Result (Unit {0}) Refusal) (λ r. refused r ≡ block_refusal len f room)
refusal len f room = told (Result (Unit {0}) Refusal) refused one-refused (block_refusal len f room)

pub texel-refusal : (len : ℕ) (f : Footprint) (t : ℕ) → Tight (Result (Unit {0}) Refusal) (λ r. refused r ≡ texel_refusal len f t)
texel-refusal len f t = told (Result (Unit {0}) Refusal) refused one-refused (texel_refusal len f t)

pub decode-astc-block : (s : List ℕ) (f : Footprint) (o : List ℕ) → TightBoth (Result Verdict Refusal) (List ℕ) (λ a out. (answered a ≡ answer_of s f (length o)) × (out ≡ painted_of s f o))
decode-astc-block s f o = told-both (Result Verdict Refusal) (List ℕ) answered one-answered (answer_of s f (length o)) (painted_of s f o)

pub load : (s : List ℕ) → TightBlock (λ r. value_of r ≡ bytes 16 s)
load s = block (bytes 16 s)

pub void-samples : (b : Block) → Tight Samples (λ r. r ≡ void_samples (value_of b))
void-samples b = one Samples (void_samples (value_of b))

-- ---- channels of a block
pub decode-channels : (s : List ℕ) (f : Footprint) (o m : List ℕ)
    → TightThree (Result Verdict Refusal) (List ℕ) (List ℕ) (λ a out floats. (answered a ≡ answer_of s f (room_of (length o) (length m))) × (out ≡ numbers_of s f (length m) o) × (floats ≡ marks_in s f (length o) m))
decode-channels s f o m = told-three (Result Verdict Refusal) (List ℕ) (List ℕ) answered one-answered (answer_of s f (room_of (length o) (length m))) (numbers_of s f (length m) o) (marks_in s f (length o) m)

pub texel-channels : (s : List ℕ) (f : Footprint) (t : ℕ) → Tight Answered (λ r. r ≡ texel_answered s f t)
texel-channels s f t = one Answered (texel_answered s f t)
