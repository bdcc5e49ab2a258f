-- Each public promise of what the programs do beside the decoder allows one outcome (Tight says what that means).
-- Assumes nothing.
use Rattle.std.specs.Prelude.{◌≡◌, Bool, cond, List, ℕ, ◌+◌, ◌≤◌, length}
use Rattle.std.proofs.Common.{sym, ◌∙◌}
use Rattle.program_counts.specs.Counts.{more}
use Rattle.program_text.specs.Text.{decimal, count_line, Placed}
use Rattle.program_compare.specs.Compare.{differences, differs_from}
use Rattle.program_compare.specs.declared.Came.{Came}
use Rattle.program_line.specs.Line.{line_of}
use Rattle.program_stored.specs.Stored.{closed_at, record_in, answer_in}
use Rattle.program_stored.specs.declared.Tally.{Tally}
use Rattle.theorems.specs.Tight.{Tight, TightBoth, one, both}

-- ---- counts
pub added : (count n : ℕ) → Tight ℕ (λ r. r ≡ more count n)
added count n = one ℕ (more count n)

pub one-if : (holds : Bool) → Tight ℕ (λ r. (r ≡ cond holds 1 0) × (r ≤ 1))
one-if holds r s p q = p.0 ∙ sym q.0

-- ---- text: a text that is placed tells the line and the place after it
placed_alike : (s : List ℕ) (at : ℕ) (t : List ℕ) → TightBoth ℕ (List ℕ) (λ r line. Placed s at t line r)
placed_alike s at t r r' x y p q = (p.next ∙ sym q.next, p.line ∙ sym q.line)

pub put-text : (s : List ℕ) (at : ℕ) (text : List ℕ) → TightBoth ℕ (List ℕ) (λ r line. Placed s at text line r)
put-text = placed_alike

pub put-number : (s : List ℕ) (at n : ℕ) → TightBoth ℕ (List ℕ) (λ r line. (Placed s at (decimal n) line r) × (r ≤ at + 20))
put-number s at n r r' x y p q = placed_alike s at (decimal n) r r' x y p.0 q.0

pub lay-out-count : (s label : List ℕ) (count : ℕ) → TightBoth ℕ (List ℕ) (λ r line. (Placed s 0 (count_line label count) line r) × (r ≤ length s))
lay-out-count s label count r r' x y p q = placed_alike s 0 (count_line label count) r r' x y p.0 q.0

pub print-count : (label : List ℕ) (count : ℕ) → Tight ℕ (λ r. r ≡ length (count_line label count))
print-count label count = one ℕ (length (count_line label count))

-- ---- words and counts held to what they should be
pub count-differences : (words whole : List ℕ) (n : ℕ) → Tight ℕ (λ r. r ≡ differences words whole n (length words))
count-differences words whole n = one ℕ (differences words whole n (length words))

pub differs : (w : Came) (blocks bad found : ℕ) → Tight Bool (λ r. r ≡ differs_from w blocks bad found)
differs w blocks bad found = one Bool (differs_from w blocks bad found)

-- ---- the line of a listed block
pub lay-out : (s : List ℕ) (number answer word : ℕ) → TightBoth ℕ (List ℕ) (λ r line. (Placed s 0 (line_of number answer word) line r) × (r ≤ 126))
lay-out s number answer word r r' x y p q = placed_alike s 0 (line_of number answer word) r r' x y p.0 q.0

-- ---- stored records
pub closed : (t : Tally) (malformed : Bool) → Tight Tally (λ r. r ≡ closed_at t malformed)
closed t malformed = one Tally (closed_at t malformed)

pub count-record : (t : Tally) (head stored : List ℕ) (answer : ℕ) (words answers : List ℕ)
    → TightBoth Tally (List ℕ) (λ r after. (r ≡ record_in t head stored answer words) × (after ≡ answer_in answers head))
count-record t head stored answer words answers = both Tally (List ℕ) (record_in t head stored answer words) (answer_in answers head)
