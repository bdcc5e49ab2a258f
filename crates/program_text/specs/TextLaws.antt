-- Laws of texts: the fewest digits of a number are its decimal ones, and texts placed one after the other are one text.
-- Assumes nothing.
use Rattle.std.specs.Prelude.{◌≡◌, List, [], ◌∷◌, ◌++◌, ℕ, zero, suc, ◌+◌, ◌-◌, ◌*◌, ◌/◌, ◌%◌, ◌^◌, ◌≤◌, ◌<◌, length, get_or, set, take, drop}
use Rattle.std.proofs.Common.{sym, ap, ◌∙◌, append_assoc, pow-suc, add-one, arith, length-append, pow-add, length-take-le, take_at, drop-drop, lt-ltb, le-ltb}
use Rattle.std.proofs.Math.Decide.{dec_lt}
use Rattle.std.proofs.Math.Seq.{take-length, drop-append-add, paste, paste-suc}
use Rattle.io.specs.Digits.{last_digits, IsDigitCount}
use Rattle.program_text.specs.Text.{digits_of, decimal, placed, Placed}

-- ---- decimal numbers
ten-pos : (j : ℕ) → 0 < 10 ^ j
ten-pos zero = omega arith
ten-pos (suc j) = rw (pow-suc 10 j) (omega (arith, ten-pos j))

fewest-are : (d k n : ℕ) → k ≤ d → IsDigitCount 10 1 n k → last_digits 10 k n ≡ digits_of d n
unfolding digits_of
fewest-are d zero n h f = absurd (no f.0)
  where
    no : 1 ≤ 0 → ⊥
    no p = omega arith
fewest-are zero (suc k) n h f = absurd (no h)
  where
    no : suc k ≤ 0 → ⊥
    no p = omega arith
fewest-are (suc d) (suc zero) n h f =
    let l : n < 10 = f.1 in
    let e : n % 10 ≡ n = omega arith in
    rw (e, lt-ltb n 10 l)
fewest-are (suc d) (suc (suc j)) n h f =
    let p : 0 < 10 ^ j = ten-pos j in
    let s : 10 ^ suc j ≡ 10 ^ j * 10 = pow-suc 10 j in
    let t : 10 ^ suc (suc j) ≡ 10 ^ suc j * 10 = pow-suc 10 (suc j) in
    let m : suc (suc j) - 1 ≡ suc j = omega arith in
    let m' : suc j - 1 ≡ j = omega arith in
    let low : 10 ^ suc j ≤ n = rw m at (f.2 (omega arith)) in
    let high : n < 10 ^ suc (suc j) = f.1 in
    let big : 10 ≤ n = omega arith in
    let r : n % 10 < 10 = omega arith in
    rw (le-ltb n 10 big, lt-ltb (n % 10) 10 r)
    (ap (λ (l : List ℕ). l ++ ((48 + n % 10) ∷ []))
    (fewest-are d (suc j) (n / 10) (omega arith) (omega arith, omega arith, λ q. rw m' (omega arith))))

-- a number of 64 bits has at most 20 digits
pub fewest-most : (k n : ℕ) → n < 2 ^ 64 → IsDigitCount 10 1 n k → k ≤ 20
fewest-most k n h f = go (dec_lt 20 k)
  where
    above : 20 < k → 10 ^ 20 * 10 ^ (k - 21) ≤ n
    above l =
        let e : k - 1 ≡ 20 + (k - 21) = omega arith in
        rw (pow-add 10 20 (k - 21)) at (rw e at (f.2 (omega arith)))

    go : Dec (20 < k) → k ≤ 20
    go (yes l) = omega (arith, above l, ten-pos (k - 21))
    go (no l) = omega arith

pub decimal-is : (k n : ℕ) (s : List ℕ) → n < 2 ^ 64 → IsDigitCount 10 1 n k → s ≡ last_digits 10 k n → s ≡ decimal n
unfolding decimal
decimal-is k n s h f e = e ∙ fewest-are 20 k n (fewest-most k n h f) f

-- ---- texts in a line
-- a turn of the loop that copies a text: one byte more
pub placed-turn : (s line t : List ℕ) (at i : ℕ) → line ≡ paste s at t i → at + length t ≤ length s → i < length t → set line (at + i) (get_or t i 0) ≡ paste s at t (i + 1)
placed-turn s line t at i e h l =
    ap (λ (x : List ℕ). set x (at + i) (get_or t i 0)) e ∙ paste-suc s at t i 0 (omega arith) l ∙ ap (paste s at t) (sym (add-one i))

-- its end: the whole text is copied
pub placed-whole : (s : List ℕ) (at : ℕ) (t : List ℕ) → paste s at t (length t) ≡ placed s at t
placed-whole s at t = rw (take-length t)

-- one text after the other
pub placed-next : {s s' s'' : List ℕ} {at : ℕ} {t u : List ℕ} {m n : ℕ} → Placed s at t s' m → Placed s' m u s'' n → n ≤ length s → Placed s at (t ++ u) s'' n
placed-next {s} {s'} {s''} {at} {t} {u} {m} {n} p q h = record { line = q.line ∙ joined; next = q.next ∙ count }
  where
    front : List ℕ
    front = take at s ++ t

    rest : List ℕ
    rest = drop (at + length t) s

    long : length front ≡ m
    long = length-append (take at s) t ∙ ap (λ (k : ℕ). k + length t) (length-take-le at s (omega (arith, p.next, q.next))) ∙ sym p.next

    taken : take m (front ++ rest) ≡ front
    taken = take_at front rest m long

    dropped : drop (m + length u) (front ++ rest) ≡ drop (m + length u) s
    dropped =
        ap (λ (k : ℕ). drop (k + length u) (front ++ rest)) (sym long)
        ∙ drop-append-add front rest (length u)
        ∙ drop-drop (length u) (at + length t) s
        ∙ ap (λ (k : ℕ). drop (k + length u) s) (sym p.next)

    count : m + length u ≡ at + length (t ++ u)
    count = rw (length-append t u) (omega (arith, p.next))

    joined : placed s' m u ≡ placed s at (t ++ u)
    joined =
        ap (λ (l : List ℕ). placed l m u) p.line
        ∙ ap (λ (l : List ℕ). l ++ u ++ drop (m + length u) (front ++ rest)) taken
        ∙ ap (λ (l : List ℕ). front ++ u ++ l) dropped
        ∙ ap (λ (l : List ℕ). l ++ drop (m + length u) s) (append_assoc (take at s) t u)
        ∙ ap (λ (k : ℕ). take at s ++ (t ++ u) ++ drop k s) count

-- a promise of a placed text allows one outcome
pub placed_one : {s x y t : List ℕ} {at r q : ℕ} → Placed s at t x r → Placed s at t y q → (x ≡ y) × (r ≡ q)
placed_one p q = (p.line ∙ sym q.line, p.next ∙ sym q.next)
