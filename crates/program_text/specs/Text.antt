-- A number in decimal, the line of a count, and a text placed in a line. A text is a list of bytes, in ASCII.
-- Assumes nothing.
use Rattle.std.specs.Prelude.{◌≡◌, cond, List, [], ◌∷◌, ◌++◌, ℕ, zero, suc, ◌+◌, ◌/◌, ◌%◌, ltb, length, take, drop}

-- the decimal digits of n, of which there are at most d
unfoldable pub digits_of : ℕ → ℕ → List ℕ
digits_of zero n = []
digits_of (suc d) n = cond (ltb n 10) ((48 + n) ∷ []) (digits_of d (n / 10) ++ ((48 + n % 10) ∷ []))

-- a number of 64 bits has at most 20
unfoldable pub decimal : ℕ → List ℕ
decimal n = digits_of 20 n

-- a label, a count and a newline
abbrev pub count_line : List ℕ → ℕ → List ℕ
count_line label n = label ++ decimal n ++ (10 ∷ [])

-- the line s with the text t from place at on
abbrev pub placed : List ℕ → ℕ → List ℕ → List ℕ
placed s at t = take at s ++ t ++ drop (at + length t) s

-- the line s became s' by the text t from place at on, and r is the place after it
pub record Placed (s : List ℕ) (at : ℕ) (t s' : List ℕ) (r : ℕ) : Type 0 where
  pub line : s' ≡ placed s at t
  pub next : r ≡ at + length t
