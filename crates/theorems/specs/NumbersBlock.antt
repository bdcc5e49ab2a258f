-- Promises of the block as statements on the numbers and lists of their definitions alone: each allows one outcome (Tight says what that means). Beside
-- the other promises stands the same of what the functions give and take today: results, and values of types that hold what is asked of them.
-- Assumes nothing.
use Rattle.std.specs.Prelude.{◌≡◌, List, ℕ, length}
use Rattle.footprint.specs.declared.Footprint.{Footprint}
use Rattle.bits.specs.Blocks.{value_of}
use Rattle.bits.specs.declared.Block.{Block}
use Rattle.lanes.specs.declared.Form.{Form}
use Rattle.block_void.specs.Void.{void_answer}
use Rattle.block_refusal.specs.Refusal.{first_refusal, block_refusal, texel_refusal}
use Rattle.block_map.specs.Answer.{answer_of}
use Rattle.block.specs.Block.{painted_of}
use Rattle.block_channels.specs.BlockChannels.{room_of, numbers_of, marks_in}
use Rattle.block_ordinary.specs.Ordinary.{block_answer, lanes_in}
use Rattle.theorems.specs.Tight.{Tight, TightBoth, TightThree, one, both, three, block}
use Rattle.sequence_ranges.specs.Digits.{trit_table, quint_table}

pub void-answer : (b : Block) → Tight ℕ (λ r. r ≡ void_answer (value_of b))
void-answer b = one ℕ (void_answer (value_of b))

pub decode-ordinary : (b : Block) (f : Footprint) (h : List ℕ) (form : Form)
    → TightBoth ℕ (List ℕ) (λ a lanes. (a ≡ block_answer (value_of b) f) × (lanes ≡ lanes_in form (value_of b) f h))
decode-ordinary b f h form = both ℕ (List ℕ) (block_answer (value_of b) f) (lanes_in form (value_of b) f h)

pub first-refusal : (len : ℕ) (f : Footprint) → Tight ℕ (λ r. r ≡ first_refusal len f)
first-refusal len f = one ℕ (first_refusal len f)

pub refusal : (len : ℕ) (f : Footprint) (room : ℕ) → Tight ℕ (λ r. r ≡ block_refusal len f room)
refusal len f room = one ℕ (block_refusal len f room)

pub texel-refusal : (len : ℕ) (f : Footprint) (t : ℕ) → Tight ℕ (λ r. r ≡ texel_refusal len f t)
texel-refusal len f t = one ℕ (texel_refusal len f t)

pub decode-astc-block : (s : List ℕ) (f : Footprint) (o : List ℕ) → TightBoth ℕ (List ℕ) (λ a out. (a ≡ answer_of s f (length o)) × (out ≡ painted_of s f o))
decode-astc-block s f o = both ℕ (List ℕ) (answer_of s f (length o)) (painted_of s f o)

-- ---- channels of a block
pub decode-channels : (s : List ℕ) (f : Footprint) (o m : List ℕ)
    → TightThree ℕ (List ℕ) (List ℕ) (λ a out floats. (a ≡ answer_of s f (room_of (length o) (length m))) × (out ≡ numbers_of s f (length m) o) × (floats ≡ marks_in s f (length o) m))
decode-channels s f o m = three ℕ (List ℕ) (List ℕ) (answer_of s f (room_of (length o) (length m))) (numbers_of s f (length m) o) (marks_in s f (length o) m)

-- the two tables, of trits and of quints
pub make-tables : Tight (List ℕ × List ℕ) (λ r. r ≡ (trit_table, quint_table))
make-tables = one (List ℕ × List ℕ) (trit_table, quint_table)
