-- Lists that are filled place by place: a list of a function's values, and a list with some places filled anew.
-- Assumes nothing.
use Rattle.std.specs.Prelude.{◌≡◌, refl, Bool, true, false, cond, ◌&&◌, List, [], ◌∷◌, ℕ, zero, suc, ◌+◌, ◌-◌, ◌*◌, ◌/◌, ◌%◌, ◌≤◌, ◌<◌, T, leb, ltb, eqb, length, get_or, set, replicate}
use Rattle.std.proofs.Common.{sym, ◌∙◌, add-zero, zero-add, suc-add, add-suc, mul-zero, mul-add, mul-one, mul_comm, not-suc-le-zero, le_of_suc-le-suc, arith, eqb→eq, length-set, ext_get_or, get_or-set_same, get_or-set_other, lt-ltb, le-ltb, le-leb}
use Rattle.std.proofs.Math.Path.{ap}
use Rattle.std.proofs.Math.Decide.{dec_lt}
use Rattle.std.proofs.Math.Arith.{digits_div, digits_mod}
use Rattle.std.proofs.lemmas.List.{length-replicate, get_or-replicate}
use Rattle.std.proofs.Math.ListN.{get_or-eq_default}
use Rattle.laws.specs.Table.{every, at}
use Rattle.std.proofs.lemmas.Bool.{lt-leb}

-- ---- definitions

-- the n values f i, f (i + 1), ..
unfoldable pub list_of : (ℕ → ℕ) → ℕ → ℕ → List ℕ
list_of f i zero = []
list_of f i (suc n) = f i ∷ list_of f (suc i) n

-- each entry x, at the place k, as g k x; the places are counted from i
unfoldable pub map_at : (ℕ → ℕ → ℕ) → ℕ → List ℕ → List ℕ
map_at g i [] = []
map_at g i (x ∷ xs) = g i x ∷ map_at g (suc i) xs

-- f k at a place k from a to e - 1, and x at any other
abbrev pub filled : (ℕ → ℕ) → ℕ → ℕ → ℕ → ℕ → ℕ
filled f a e k x = cond (leb a k && ltb k e) (f k) x

-- the list s with f k at each of its places k from a to e - 1
unfoldable pub put : (ℕ → ℕ) → ℕ → ℕ → List ℕ → List ℕ
put f a e s = map_at (filled f a e) 0 s

-- the list s with f 0, f 1, .., n of them, from place o on
unfoldable pub put_at : (ℕ → ℕ) → ℕ → ℕ → List ℕ → List ℕ
put_at f o n s = put (λ (k : ℕ). f (k - o)) o (o + n) s

-- ---- the list of a function's values
pub length-list_of : (f : ℕ → ℕ) (i n : ℕ) → length (list_of f i n) ≡ n
unfolding list_of
length-list_of f i zero = refl
length-list_of f i (suc n) = ap suc (length-list_of f (suc i) n)

pub get_or-list_of : (f : ℕ → ℕ) (i n k : ℕ) → k < n → get_or (list_of f i n) k 0 ≡ f (i + k)
unfolding list_of
get_or-list_of f i zero k h = absurd (not-suc-le-zero h)
get_or-list_of f i (suc n) zero h = ap f (sym (add-zero i))
get_or-list_of f i (suc n) (suc k) h =
    get_or-list_of f (suc i) n k (le_of_suc-le-suc h) ∙ ap f (suc-add i k ∙ sym (add-suc i k))

-- a list that has f k at each place k is the list of f's values
pub is-list_of : (f : ℕ → ℕ) (n : ℕ) (s : List ℕ) → length s ≡ n → ((k : ℕ) → k < n → get_or s k 0 ≡ f k) → s ≡ list_of f 0 n
is-list_of f n s e h =
    ext_get_or 0 s (list_of f 0 n) (e ∙ sym (length-list_of f 0 n))
    (λ k l. let m : k < n = omega arith in h k m ∙ ap f (sym (zero-add k)) ∙ sym (get_or-list_of f 0 n k m))

-- a table whose entry k passes the test that it is f k, at each of its places, is the list of f's values
pub tested : (f : ℕ → ℕ) (n : ℕ) (s : List ℕ) → length s ≡ n → T (every (λ (k x : ℕ). eqb x (f k)) 0 s) → s ≡ list_of f 0 n
tested f n s e t =
    is-list_of f n s e (λ k h. eqb→eq (get_or s k 0) (f k) (at (λ (k x : ℕ). eqb x (f k)) s t k (rw e h)))

-- ---- places filled anew
pub length-map_at : (g : ℕ → ℕ → ℕ) (i : ℕ) (s : List ℕ) → length (map_at g i s) ≡ length s
unfolding map_at
length-map_at g i [] = refl
length-map_at g i (x ∷ xs) = ap suc (length-map_at g (suc i) xs)

pub get_or-map_at : (g : ℕ → ℕ → ℕ) (i : ℕ) (s : List ℕ) (k : ℕ) → k < length s → get_or (map_at g i s) k 0 ≡ g (i + k) (get_or s k 0)
unfolding map_at
get_or-map_at g i [] k h = absurd (not-suc-le-zero h)
get_or-map_at g i (x ∷ xs) zero h = ap (λ (m : ℕ). g m x) (sym (add-zero i))
get_or-map_at g i (x ∷ xs) (suc k) h =
    get_or-map_at g (suc i) xs k (le_of_suc-le-suc h) ∙ ap (λ (m : ℕ). g m (get_or xs k 0)) (suc-add i k ∙ sym (add-suc i k))

module _ (f : ℕ → ℕ) (a e : ℕ) (s : List ℕ) where
  pub length-put : length (put f a e s) ≡ length s
  unfolding put
  length-put = length-map_at (filled f a e) 0 s

  get_or-put : (k : ℕ) → k < length s → get_or (put f a e s) k 0 ≡ filled f a e k (get_or s k 0)
  unfolding put
  get_or-put k h = get_or-map_at (filled f a e) 0 s k h ∙ ap (λ (m : ℕ). filled f a e m (get_or s k 0)) (zero-add k)

  pub put_in : (k : ℕ) → k < length s → a ≤ k → k < e → get_or (put f a e s) k 0 ≡ f k
  put_in k h l m = get_or-put k h ∙ rw (le-leb a k l, lt-ltb k e m)

  pub put-before : (k : ℕ) → k < length s → k < a → get_or (put f a e s) k 0 ≡ get_or s k 0
  put-before k h l = get_or-put k h ∙ rw (lt-leb a k l)

  pub put-after : (k : ℕ) → k < length s → e ≤ k → get_or (put f a e s) k 0 ≡ get_or s k 0
  put-after k h l = get_or-put k h ∙ rw (le-ltb k e l) (other (leb a k))
    where
      other : (b : Bool) → cond (b && false) (f k) (get_or s k 0) ≡ get_or s k 0
      other true = refl
      other false = refl

-- two lists filled alike, where they agree at each place before, among and after the places filled
ext-put : (f : ℕ → ℕ) (a e : ℕ) (s t : List ℕ) → length t ≡ length s → ((k : ℕ) → k < length s → k < a → get_or t k 0 ≡ get_or s k 0)
    → ((k : ℕ) → k < length s → a ≤ k → k < e → get_or t k 0 ≡ f k) → ((k : ℕ) → k < length s → a ≤ k → e ≤ k → get_or t k 0 ≡ get_or s k 0) → t ≡ put f a e s
ext-put f a e s t l before among after =
    ext_get_or 0 t (put f a e s) (l ∙ sym (length-put f a e s)) (λ k h. at k (rw l at h) (dec_lt k a) (dec_lt k e))
  where
    at : (k : ℕ) → k < length s → Dec (k < a) → Dec (k < e) → get_or t k 0 ≡ get_or (put f a e s) k 0
    at k h (yes p) q = before k h p ∙ sym (put-before f a e s k h p)
    at k h (no p) (yes q) = among k h (omega arith) q ∙ sym (put_in f a e s k h (omega arith) q)
    at k h (no p) (no q) = after k h (omega arith) (omega arith) ∙ sym (put-after f a e s k h (omega arith))

-- nothing is filled
pub put-none : (f : ℕ → ℕ) (a : ℕ) (s : List ℕ) → s ≡ put f a a s
put-none f a s = ext-put f a a s s refl (λ k h p. refl) (λ k h p q. absurd (clash k p q)) (λ k h p q. refl)
  where
    clash : (k : ℕ) → a ≤ k → k < a → ⊥
    clash k p q = omega arith

-- a turn of a loop that fills: one place more
pub put-more : (f : ℕ → ℕ) (a e : ℕ) (s : List ℕ) (x : ℕ) → a ≤ e → x ≡ f e → set (put f a e s) e x ≡ put f a (e + 1) s
put-more f a e s x l q = ext-put f a (e + 1) s (set (put f a e s) e x) (length-set (put f a e s) e x ∙ length-put f a e s) before among after
  where
    other : (k : ℕ) → (k ≡ e → ⊥) → get_or (set (put f a e s) e x) k 0 ≡ get_or (put f a e s) k 0
    other k n = get_or-set_other (put f a e s) e k x 0 n

    before : (k : ℕ) → k < length s → k < a → get_or (set (put f a e s) e x) k 0 ≡ get_or s k 0
    before k h p = other k (λ z. omega arith) ∙ put-before f a e s k h p

    last : (k : ℕ) → k < length s → a ≤ k → k < e + 1 → Dec (k < e) → get_or (set (put f a e s) e x) k 0 ≡ f k
    last k h p m (yes b) = other k (λ z. omega arith) ∙ put_in f a e s k h p b
    last k h p m (no b) =
        let z : k ≡ e = omega arith in
        rw z (get_or-set_same (put f a e s) e x 0 (rw (length-put f a e s) (rw z at h)) ∙ q)

    among : (k : ℕ) → k < length s → a ≤ k → k < e + 1 → get_or (set (put f a e s) e x) k 0 ≡ f k
    among k h p m = last k h p m (dec_lt k e)

    after : (k : ℕ) → k < length s → a ≤ k → e + 1 ≤ k → get_or (set (put f a e s) e x) k 0 ≡ get_or s k 0
    after k h p m = other k (λ z. omega arith) ∙ put-after f a e s k h (omega arith)

-- the same, where the places are counted from a: the first store, and one after n others
pub put_first : (f : ℕ → ℕ) (a : ℕ) (s : List ℕ) (x : ℕ) → x ≡ f a → set s a x ≡ put f a (a + 1) s
put_first f a s x q = ap (λ (t : List ℕ). set t a x) (put-none f a s) ∙ put-more f a a s x (omega arith) q

pub put_step : (f : ℕ → ℕ) (a n : ℕ) (s t : List ℕ) (x : ℕ) → t ≡ put f a (a + n) s → x ≡ f (a + n) → set t (a + n) x ≡ put f a (a + suc n) s
put_step f a n s t x p q =
    let e : a + n + 1 ≡ a + suc n = omega arith in
    ap (λ (u : List ℕ). set u (a + n) x) p ∙ put-more f a (a + n) s x (omega arith) q ∙ ap (λ (m : ℕ). put f a m s) e

-- what is filled depends on f's values at those places alone
pub put_same : (f g : ℕ → ℕ) (a e : ℕ) (s : List ℕ) → ((k : ℕ) → a ≤ k → k < e → f k ≡ g k) → put f a e s ≡ put g a e s
put_same f g a e s same =
    ext-put g a e s (put f a e s) (length-put f a e s) (λ k h p. put-before f a e s k h p) (λ k h p q. put_in f a e s k h p q ∙ same k p q)
    (λ k h p q. put-after f a e s k h q)

-- one stretch after the other
pub put_next : (f : ℕ → ℕ) (a m e : ℕ) (s : List ℕ) → a ≤ m → m ≤ e → put f m e (put f a m s) ≡ put f a e s
put_next f a m e s l r =
    ext-put f a e s (put f m e t) (length-put f m e t ∙ n) (λ k h p. put-before f m e t k (in-t k h) (omega arith) ∙ put-before f a m s k h p)
    (λ k h p q. among k h p q (dec_lt k m)) (λ k h p q. put-after f m e t k (in-t k h) q ∙ put-after f a m s k h (omega arith))
  where
    t : List ℕ
    t = put f a m s

    n : length t ≡ length s
    n = length-put f a m s

    in-t : (k : ℕ) → k < length s → k < length t
    in-t k h = rw n h

    among : (k : ℕ) → k < length s → a ≤ k → k < e → Dec (k < m) → get_or (put f m e t) k 0 ≡ f k
    among k h p q (yes b) = put-before f m e t k (in-t k h) b ∙ put_in f a m s k h p b
    among k h p q (no b) = put_in f m e t k (in-t k h) (omega arith) q

-- the first n places of zeros are filled: a list of f's values, and 0 after them
pub put-zeros : (f : ℕ → ℕ) (n m : ℕ) → put f 0 n (replicate m 0) ≡ list_of (λ (k : ℕ). cond (ltb k n) (f k) 0) 0 m
put-zeros f n m = is-list_of _ m (put f 0 n z) (length-put f 0 n z ∙ length-replicate m 0) (λ k h. at k h (dec_lt k n))
  where
    z : List ℕ
    z = replicate m 0

    in-z : (k : ℕ) → k < m → k < length z
    in-z k h = rw (length-replicate {A = ℕ} m 0) h

    at : (k : ℕ) → k < m → Dec (k < n) → get_or (put f 0 n z) k 0 ≡ cond (ltb k n) (f k) 0
    at k h (yes p) = put_in f 0 n z k (in-z k h) (omega arith) p ∙ rw (lt-ltb k n p)
    at k h (no p) = put-after f 0 n z k (in-z k h) (omega arith) ∙ get_or-replicate m k 0 0 h ∙ rw (le-ltb k n (omega arith))

-- the same, of a list that is known to be filled so far
pub put-turn : (f : ℕ → ℕ) (a e x : ℕ) (s t : List ℕ) → t ≡ put f a e s → a ≤ e → x ≡ f e → set t e x ≡ put f a (e + 1) s
put-turn f a e x s t h l q = rw h (put-more f a e s x l q)

-- the loop's end
pub put-end : (f : ℕ → ℕ) (a i e : ℕ) (s t : List ℕ) → t ≡ put f a i s → i ≤ e → e ≤ i → t ≡ put f a e s
put-end f a i e s t h l m = h ∙ ap (λ (k : ℕ). put f a k s) (omega arith)

-- zeros of which the first n places are filled, at any place
pub zeros-at : (f : ℕ → ℕ) (n m k : ℕ) → n ≤ m → get_or (put f 0 n (replicate m 0)) k 0 ≡ cond (ltb k n) (f k) 0
zeros-at f n m k l = rw (put-zeros f n m) (at (dec_lt k m))
  where
    g : ℕ → ℕ
    g k = cond (ltb k n) (f k) 0

    at : Dec (k < m) → get_or (list_of g 0 m) k 0 ≡ g k
    at (yes h) = get_or-list_of g 0 m k h ∙ ap g (zero-add k)
    at (no h) = get_or-eq_default (list_of g 0 m) 0 (rw (length-list_of g 0 m) (omega arith)) ∙ rw (le-ltb k n (omega arith))

-- the same, where f is 0 from n on
pub zeros-all : (f : ℕ → ℕ) (n m k : ℕ) → n ≤ m → ((k : ℕ) → n ≤ k → f k ≡ 0) → get_or (put f 0 n (replicate m 0)) k 0 ≡ f k
zeros-all f n m k l z = zeros-at f n m k l ∙ at (dec_lt k n)
  where
    at : Dec (k < n) → cond (ltb k n) (f k) 0 ≡ f k
    at (yes h) = rw (lt-ltb k n h)
    at (no h) = rw (le-ltb k n (omega arith)) (sym (z k (omega arith)))

-- a list of zeros, as a list of values that are 0
pub zeros-list_of : (f : ℕ → ℕ) (n : ℕ) → ((k : ℕ) → k < n → f k ≡ 0) → replicate n 0 ≡ list_of f 0 n
zeros-list_of f n z = is-list_of f n (replicate n 0) (length-replicate n 0) (λ k h. get_or-replicate n k 0 0 h ∙ sym (z k h))

-- a list of f's values is one of g's, where the two agree
pub list_of-same : (f g : ℕ → ℕ) (n : ℕ) → ((k : ℕ) → k < n → f k ≡ g k) → list_of f 0 n ≡ list_of g 0 n
list_of-same f g n same =
    is-list_of g n (list_of f 0 n) (length-list_of f 0 n) (λ k h. get_or-list_of f 0 n k h ∙ ap f (zero-add k) ∙ same k h)

-- past its end a list has 0
pub get_d_past : (s : List ℕ) (n k : ℕ) → length s ≡ n → n ≤ k → get_or s k 0 ≡ 0
get_d_past s n k l h = get_or-eq_default s 0 (omega arith)

-- a list of g's values with f's from a to e - 1: one of h's, where those agree
pub put-list_of : (f g h : ℕ → ℕ) (a e n : ℕ) → ((k : ℕ) → k < n → k < a → g k ≡ h k) → ((k : ℕ) → k < n → a ≤ k → k < e → f k ≡ h k)
    → ((k : ℕ) → k < n → a ≤ k → e ≤ k → g k ≡ h k) → put f a e (list_of g 0 n) ≡ list_of h 0 n
put-list_of f g h a e n before among after =
    is-list_of h n (put f a e t) (length-put f a e t ∙ length-list_of g 0 n) (λ k l. at k l (dec_lt k a) (dec_lt k e))
  where
    t : List ℕ
    t = list_of g 0 n

    in-t : (k : ℕ) → k < n → k < length t
    in-t k l = rw (length-list_of g 0 n) l

    old : (k : ℕ) → k < n → get_or t k 0 ≡ g k
    old k l = get_or-list_of g 0 n k l ∙ ap g (zero-add k)

    at : (k : ℕ) → k < n → Dec (k < a) → Dec (k < e) → get_or (put f a e t) k 0 ≡ h k
    at k l (yes p) q = put-before f a e t k (in-t k l) p ∙ old k l ∙ before k l p
    at k l (no p) (yes q) = put_in f a e t k (in-t k l) (omega arith) q ∙ among k l (omega arith) q
    at k l (no p) (no q) = put-after f a e t k (in-t k l) (omega arith) ∙ old k l ∙ after k l (omega arith) (omega arith)

-- the same, where more than n places were filled and those from n to c are 0 again
pub put-cleared : (f : ℕ → ℕ) (n e c m : ℕ) → n ≤ e → e ≤ c → put (λ (k : ℕ). 0) n c (put f 0 e (replicate m 0)) ≡ list_of (λ (k : ℕ). cond (ltb k n) (f k) 0) 0 m
put-cleared f n e c m l r = is-list_of _ m (put zero n c t) (length-put zero n c t ∙ lt) (λ k h. at k h (dec_lt k n) (dec_lt k c))
  where
    zero : ℕ → ℕ
    zero k = 0

    z : List ℕ
    z = replicate m 0

    t : List ℕ
    t = put f 0 e z

    lz : length z ≡ m
    lz = length-replicate {A = ℕ} m 0

    lt : length t ≡ m
    lt = length-put f 0 e z ∙ lz

    in-z : (k : ℕ) → k < m → k < length z
    in-z k h = rw lz h

    in-t : (k : ℕ) → k < m → k < length t
    in-t k h = rw lt h

    at : (k : ℕ) → k < m → Dec (k < n) → Dec (k < c) → get_or (put zero n c t) k 0 ≡ cond (ltb k n) (f k) 0
    at k h (yes p) q =
        put-before zero n c t k (in-t k h) p ∙ put_in f 0 e z k (in-z k h) (omega arith) (omega arith) ∙ rw (lt-ltb k n p)
    at k h (no p) (yes q) = put_in zero n c t k (in-t k h) (omega arith) q ∙ rw (le-ltb k n (omega arith))
    at k h (no p) (no q) =
        put-after zero n c t k (in-t k h) (omega arith)
        ∙ put-after f 0 e z k (in-z k h) (omega arith)
        ∙ get_or-replicate m k 0 0 h
        ∙ rw (le-ltb k n (omega arith))

-- ---- values from a place on
pub put_at-none : (f : ℕ → ℕ) (o : ℕ) (s : List ℕ) → s ≡ put_at f o 0 s
unfolding put_at
put_at-none f o s = rw (add-zero o) (put-none _ o s)

-- a turn of a loop
pub put_at-turn : (f : ℕ → ℕ) (o i x : ℕ) (s t : List ℕ) → t ≡ put_at f o i s → x ≡ f i → set t (o + i) x ≡ put_at f o (i + 1) s
unfolding put_at
put_at-turn f o i x s t h q =
    let e : o + i - o ≡ i = omega arith in
    let n : o + i + 1 ≡ o + (i + 1) = omega arith in
    rw n at (put-turn (λ (k : ℕ). f (k - o)) o (o + i) x s t h (omega arith) (q ∙ ap f (sym e)))

-- the loop's end
pub put_at-end : (f : ℕ → ℕ) (o i n : ℕ) (s t : List ℕ) → t ≡ put_at f o i s → i ≤ n → n ≤ i → t ≡ put_at f o n s
put_at-end f o i n s t h l m = h ∙ ap (λ (k : ℕ). put_at f o k s) (omega arith)

pub length-put_at : (f : ℕ → ℕ) (o n : ℕ) (s : List ℕ) → length (put_at f o n s) ≡ length s
unfolding put_at
length-put_at f o n s = length-put (λ (k : ℕ). f (k - o)) o (o + n) s

-- from place 0 on
pub put_at-first : (f : ℕ → ℕ) (n : ℕ) (s : List ℕ) → put_at f 0 n s ≡ put f 0 n s
unfolding put_at
put_at-first f n s = rw (zero-add n) (put_same (λ (k : ℕ). f (k - 0)) f 0 n s (λ k a b. let e : k - 0 ≡ k = omega arith in ap f e))

-- a list of g's values with f's from o on: one of h's, where those agree
pub put_at-list_of : (f g h : ℕ → ℕ) (o n m : ℕ) → ((k : ℕ) → k < m → k < o → g k ≡ h k) → ((i : ℕ) → i < n → o + i < m → f i ≡ h (o + i))
    → ((k : ℕ) → k < m → o + n ≤ k → g k ≡ h k) → put_at f o n (list_of g 0 m) ≡ list_of h 0 m
unfolding put_at
put_at-list_of f g h o n m before among after =
    put-list_of (λ (k : ℕ). f (k - o)) g h o (o + n) m before
    (λ k l a b. let e : o + (k - o) ≡ k = omega arith in among (k - o) (omega arith) (rw e l) ∙ ap h e) (λ k l a b. after k l b)

-- ---- row by row
-- f at the column and the row of place k, in rows of w places
abbrev pub texels : (ℕ → ℕ → ℕ) → ℕ → ℕ → ℕ
texels f w k = f (k % w) (k / w)

in_row : (w y k : ℕ) → 0 < w → w * y ≤ k → k < w * y + w → (k % w ≡ k - w * y) × (k / w ≡ y)
in_row w y k p l h =
    let j = k - w * y in
    let e : k ≡ y * w + j = omega (arith, mul_comm w y) in
    let b : j < w = omega arith in
    (ap (λ (n : ℕ). n % w) e ∙ digits_mod y b, ap (λ (n : ℕ). n / w) e ∙ digits_div y b)

-- a loop that fills one row after the other: before its first turn
pub put-rows : (f : ℕ → ℕ) (w : ℕ) (s : List ℕ) → s ≡ put f 0 (w * 0) s
put-rows f w s = rw (mul-zero w) (put-none f 0 s)

-- a turn of a loop that fills one row after the other, where its row y is filled by g
pub put-row : (f : ℕ → ℕ → ℕ) (g : ℕ → ℕ) (w y : ℕ) (s : List ℕ) → 0 < w → ((k : ℕ) → w * y ≤ k → k < w * y + w → g k ≡ f (k - w * y) y)
    → put g (w * y) (w * y + w) (put (texels f w) 0 (w * y) s) ≡ put (texels f w) 0 (w * (y + 1)) s
put-row f g w y s p h =
    put_same g (texels f w) (w * y) (w * y + w) _ (λ k a b. let r = in_row w y k p a b in rw (r.0, r.1) (h k a b))
    ∙ put_next (texels f w) 0 (w * y) (w * y + w) s (omega arith) (omega arith)
    ∙ ap (λ (n : ℕ). put (texels f w) 0 n s) (sym (mul-add w y 1 ∙ ap (λ (n : ℕ). w * y + n) (mul-one w)))
