-- How eight bits hold five trits, and seven bits three quints: the rule of the standard.
-- Written from the ASTC chapter's section "Integer Sequence Encoding".
-- Assumes nothing.
use Rattle.std.specs.Prelude.{cond, List, [], ◌∷◌, ℕ, ◌+◌, ◌*◌, ◌-◌, eqb}
use Rattle.laws.specs.Lists.{list_of}
use Rattle.bits.specs.Bits.{bits_at}

-- the two bits {a, b and not a}
unfoldable pub pair : ℕ → ℕ → ℕ
pair a b = a * 2 + b * (1 - a)

-- the trits 0, 1 and 2, of C, before the others
unfoldable pub low_trits : ℕ → List ℕ → List ℕ
low_trits c others =
    cond (eqb (bits_at c 0 2) 3)
    (pair (bits_at c 3 1) (bits_at c 2 1) ∷ bits_at c 4 1 ∷ 2 ∷ others)
    (cond (eqb (bits_at c 2 2) 3) (bits_at c 0 2 ∷ 2 ∷ 2 ∷ others) (pair (bits_at c 1 1) (bits_at c 0 1) ∷ bits_at c 2 2 ∷ bits_at c 4 1 ∷ others))

-- the five trits of T
unfoldable pub trits : ℕ → List ℕ
trits t =
    cond (eqb (bits_at t 2 3) 7)
    (low_trits (bits_at t 5 3 * 4 + bits_at t 0 2) (2 ∷ 2 ∷ []))
    (low_trits (bits_at t 0 5)
    (cond (eqb (bits_at t 5 2) 3) (bits_at t 7 1 ∷ 2 ∷ []) (bits_at t 5 2 ∷ bits_at t 7 1 ∷ [])))

-- the quints 0 and 1, of C, before the third
unfoldable pub low_quints : ℕ → ℕ → List ℕ
low_quints c q2 = cond (eqb (bits_at c 0 3) 5) (bits_at c 3 2 ∷ 4 ∷ q2 ∷ []) (bits_at c 0 3 ∷ bits_at c 3 2 ∷ q2 ∷ [])

-- the three quints of Q
unfoldable pub quints : ℕ → List ℕ
quints q =
    cond (eqb (bits_at q 1 2) 3)
    (cond (eqb (bits_at q 5 2) 0)
    (4 ∷ 4 ∷ (bits_at q 0 1 * 4 + (bits_at q 4 1 * 2 + bits_at q 3 1) * (1 - bits_at q 0 1)) ∷ [])
    (low_quints (bits_at q 3 2 * 8 + (3 - bits_at q 5 2) * 2 + bits_at q 0 1) 4))
    (low_quints (bits_at q 0 5) (bits_at q 5 2))

-- digits as one number, three bits each, the first the lowest
unfoldable pub packed : List ℕ → ℕ
packed [] = 0
packed (x ∷ xs) = packed xs * 8 + x

-- the two tables that are lent: the digits of each T, and of each Q
unfoldable pub trit_table : List ℕ
trit_table = list_of (λ (t : ℕ). packed (trits t)) 0 256

unfoldable pub quint_table : List ℕ
quint_table = list_of (λ (q : ℕ). packed (quints q)) 0 128
