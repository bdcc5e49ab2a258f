-- Halves as values: each is sig * 2 ^ (x - 1) / 2 ^ 24, an `f32` holds it, and what the code computes for it has that fraction. Assumes nothing.
use mathlib.Core.Path.{◌≡◌, refl, sym, ap, ◌∙◌, subst}
use Prim.Native.Nat.{ℕ, zero, suc, ◌+◌, ◌-◌, ◌*◌, ◌/◌, ◌%◌, ◌^◌, ◌≤◌, ◌<◌}
use native.Mathlib.Nat.{mul_assoc, mul-one, mul_right_comm, mul-mul-mul_comm, not-le_of_lt, lt_of_lt_of_le, le_of_lt}
use native.Mathlib.Omega.{arith}
use mathlib.Core.Logic.{◌⊎◌, inl, inr}
use mathlib.Core.Bool.{Bool, true, false, not, cond}
use lib.Dec.{T, leb, eqb, leb→le, le→leb, eqb→eq, not_T, lit<, lit≤}
use lib.IntN.{pos, negsuc}
use lib.Pow.{pow-add, pow_pos}
use lib.Ieee.{Float, nan, inf, fin, binary32, unlike, odd, round, mul, neg, fits, is_nan, in_float, nan_bits, of_fields, of_bits, of_int}
use lib.Ieee.Fits.{eq→eqb, odd-fits, mul-fits, inf-fits, nan-fits, cond-fits}
use lib.Ieee.Bits.{is_true, is_false, cond_no, nan_bits_is, of_bits-fits}
use lib.Ieee.Exact.{HasValue, odd_sign, round_exact}
use lib.Ieee.Back.{round_whole}
use Rattle.half.specs.Half.{sign, sig, value, half, field, digits, product}
use Rattle.half.specs.Fractions.{value-unique, rescale, mul_val, odd_shift}
use Rattle.half.specs.HalfLaws.{not_eqb, value-val, sig-lt, room, value_of}

-- ---- the sign
odd-neg : (d q k l : ℕ) → odd d true q k l ≡ neg (odd d false q k l)
unfolding odd neg
odd-neg d zero k l = refl
odd-neg d (suc q) k l = refl

pub value-neg : (x t : ℕ) → value true x t ≡ neg (value false x t)
unfolding value neg
value-neg x t = go (eqb x 31) (eqb t 0)
  where
    go : (a b : Bool) → cond a (cond b (inf true) nan) (odd 11 true (sig x t) (x - 1) 24) ≡ neg (cond a (cond b (inf false) nan) (odd 11 false (sig x t) (x - 1) 24))
    go true true = refl
    go true false = refl
    go false b = odd-neg 11 (sig x t) (x - 1) 24

-- ---- a subnormal half: its digits times 2 ^ -24
tiny-val : (t : ℕ) → t < 1024 → HasValue (mul binary32 (of_int binary32 (pos t)) (fin false 1 (negsuc 23))) false (t * 1) (1 * 2 ^ 24)
unfolding of_int
tiny-val t h =
    subst (λ (v : Float). HasValue v false (t * 1) (1 * 2 ^ 24))
    (sym (mul_val binary32 (round binary32 false t 1) (fin false 1 (negsuc 23)) false false t 1 1 (2 ^ 24) (lit< tt) (pow_pos 24) (round_whole binary32 false t (le_of_lt (lt_of_lt_of_le h (lit≤ tt)))) (refl, refl)))
    (round_exact binary32 false (t * 1) (1 * 2 ^ 24) t (0 + 125) (lit< tt) (lt_of_lt_of_le h (lit≤ tt)) (room t 10 0 125 h (lit≤ tt)) (ap (λ (z : ℕ). z * 2 ^ 149) (mul-one t) ∙ sym (mul_assoc t (2 ^ 125) (2 ^ 24))))

-- ---- a normal half: the pattern of its `f32`
of_bits_is : (b : ℕ) → of_bits binary32 b ≡ of_fields binary32 (leb 2147483648 b) (b % 2147483648 / 8388608) (b % 8388608)
unfolding of_bits
of_bits_is b = refl

under_ones : (t x : ℕ) → suc x < 255 → of_fields binary32 false (suc x) t ≡ odd 24 false (8388608 + t) x 149
unfolding of_fields
under_ones t x h = cond_no (eqb (suc x) 255) (cond (eqb t 0) (inf false) nan) (odd 24 false (8388608 + t) x 149) (not_eqb (suc x) 255 (λ e. omega arith))

abbrev pub pattern : ℕ → ℕ → ℕ
pattern x t = (x + 112) * 8388608 + t * 8192

pattern-is : (x t : ℕ) → x < 31 → t < 1024 → of_bits binary32 (pattern x t) ≡ odd 24 false (8388608 + t * 8192) (x + 111) 149
pattern-is x t h k =
    of_bits_is (pattern x t)
    ∙ ap (λ (s : Bool). of_fields binary32 s (pattern x t % 2147483648 / 8388608) (pattern x t % 8388608)) (is_false (leb 2147483648 (pattern x t)) (not_T (leb 2147483648 (pattern x t)) (λ (u : T (leb 2147483648 (pattern x t))). not-le_of_lt (omega arith) (leb→le 2147483648 (pattern x t) u))))
    ∙ ap (λ (z : ℕ). of_fields binary32 false z (pattern x t % 8388608)) {y = suc (x + 111)} (omega arith)
    ∙ ap (λ (z : ℕ). of_fields binary32 false (suc (x + 111)) z) {y = t * 8192} (omega arith)
    ∙ under_ones (t * 8192) (x + 111) (omega arith)

normal-val : (x t : ℕ) → 1 ≤ x → x < 31 → t < 1024 → HasValue (of_bits binary32 (pattern x t)) false ((1024 + t) * 2 ^ (x - 1)) (2 ^ 24)
normal-val x t l h k =
    let P = 2 ^ (x - 1) in
    let e : 2 ^ (x + 111) ≡ P * 2 ^ 112 = ap (λ (z : ℕ). 2 ^ z) {y = x - 1 + 112} (omega arith) ∙ pow-add 2 (x - 1) 112 in
    let a : 8388608 + t * 8192 ≡ (1024 + t) * 8192 = omega arith in
    rescale (of_bits binary32 (pattern x t)) false ((8388608 + t * 8192) * 2 ^ (x + 111)) (2 ^ 149) ((1024 + t) * P) (2 ^ 24) (pow_pos 149)
    (sym (ap (λ (z : ℕ). (8388608 + t * 8192) * z * 2 ^ 24) e ∙ ap (λ (z : ℕ). z * (P * 2 ^ 112) * 2 ^ 24) a ∙ ap (λ (z : ℕ). z * 2 ^ 24) (mul-mul-mul_comm (1024 + t) 8192 P (2 ^ 112)) ∙ mul_assoc ((1024 + t) * P) (8192 * 2 ^ 112) (2 ^ 24)))
    (subst (λ (v : Float). HasValue v false ((8388608 + t * 8192) * 2 ^ (x + 111)) (2 ^ 149)) (sym (pattern-is x t h k)) (odd_sign 24 false (8388608 + t * 8192) (x + 111) 149))

-- ---- what `magnitude` returns on each way
pub ret-inf : (x t : ℕ) → x ≡ 31 → t ≡ 0 → of_bits binary32 0x7f80_0000 ≡ value false x t
unfolding value of_bits
ret-inf x t e g = ap (λ (z : ℕ). value false 31 z) (sym g) ∙ ap (λ (z : ℕ). value false z t) (sym e)

pub ret-nan : (x t : ℕ) → x ≡ 31 → (t ≡ 0 → ⊥) → of_bits binary32 0x7fc0_0000 ≡ value false x t
unfolding value of_bits
ret-nan x t e g = sym (cond_no (eqb t 0) (inf false) nan (not_eqb t 0 g)) ∙ ap (λ (z : ℕ). value false z t) (sym e)

pub ret-tiny : (x t : ℕ) → t < 1024 → x ≡ 0 → mul binary32 (of_int binary32 (pos t)) (of_bits binary32 0x3380_0000) ≡ value false x t
unfolding of_bits
ret-tiny x t h e =
    value_of (mul binary32 (of_int binary32 (pos t)) (fin false 1 (negsuc 23))) false 0 t (lit< tt) h (λ g. omega arith) (mul-fits binary32 (of_int binary32 (pos t)) (fin false 1 (negsuc 23))) (tiny-val t h)
    ∙ ap (λ (z : ℕ). value false z t) (sym e)

pub ret-normal : (x t : ℕ) → x < 32 → t < 1024 → (x ≡ 31 → ⊥) → (x ≡ 0 → ⊥) → of_bits binary32 (pattern x t) ≡ value false x t
ret-normal x t h k n z =
    let sig-is : 1024 + t ≡ sig x t = sym (cond_no (eqb x 0) t (1024 + t) (not_eqb x 0 z)) in
    value_of (of_bits binary32 (pattern x t)) false x t h k n (of_bits-fits binary32 (pattern x t))
    (subst (λ (q : ℕ). HasValue (of_bits binary32 (pattern x t)) false (q * 2 ^ (x - 1)) (2 ^ 24)) sig-is (normal-val x t (omega (arith, z)) (omega (arith, n)) k))

-- ---- what its casts ask
pub no_nan : (v : Float) (s : Bool) (a c : ℕ) → HasValue v s a c → T (not (is_nan v))
unfolding is_nan
no_nan nan s a c h = absurd h
no_nan (inf t) s a c h = tt
no_nan (fin t m e) s a c h = tt

pub pattern-no-nan : (x t : ℕ) → x < 32 → t < 1024 → (x ≡ 31 → ⊥) → (x ≡ 0 → ⊥) → T (not (nan_bits binary32 (pattern x t)))
pattern-no-nan x t h k n z =
    subst (λ (b : Bool). T (not b)) (sym (nan_bits_is binary32 (pattern x t)))
    (no_nan (of_bits binary32 (pattern x t)) false ((1024 + t) * 2 ^ (x - 1)) (2 ^ 24) (normal-val x t (omega (arith, z)) (omega (arith, n)) k))

pub digits_in : (t : ℕ) → t < 1024 → T (in_float binary32 (pos t))
unfolding in_float
digits_in t h = le→leb t (2 ^ 24) (le_of_lt (lt_of_lt_of_le h (lit≤ tt)))

-- ---- what `fp16_ieee_to_fp32_value` returns
pub ret-plus : (f : Float) (h : ℕ) → h < 32768 → f ≡ value false (field h) (digits h) → f ≡ half h
ret-plus f h l e = e ∙ ap (λ (s : Bool). value s (field h) (digits h)) (sym (is_false (leb 32768 h) (not_T (leb 32768 h) (λ (u : T (leb 32768 h)). not-le_of_lt l (leb→le 32768 h u)))))

pub ret-minus : (f : Float) (h : ℕ) → 32768 ≤ h → f ≡ value false (field h) (digits h) → neg f ≡ half h
ret-minus f h l e = ap neg e ∙ sym (value-neg (field h) (digits h)) ∙ ap (λ (s : Bool). value s (field h) (digits h)) (sym (is_true (leb 32768 h) (le→leb 32768 h l)))

-- ---- 255 times a half
pub eq-or-not : (a b : ℕ) → (a ≡ b) ⊎ (a ≡ b → ⊥)
eq-or-not a b = go (eqb a b) (eqb→eq a b) (λ (e : a ≡ b). eq→eqb e)
  where
    go : (p : Bool) → (T p → a ≡ b) → (a ≡ b → T p) → (a ≡ b) ⊎ (a ≡ b → ⊥)
    go true h k = inl (h tt)
    go false h k = inr k

pub product-val : (s : Bool) (x t : ℕ) → (x ≡ 31 → ⊥) → HasValue (product s x t) s (sig x t * 255 * 2 ^ (x - 1)) (2 ^ 24)
unfolding product
product-val s x t h =
    subst (λ (v : Float). HasValue v s (sig x t * 255 * 2 ^ (x - 1)) (2 ^ 24))
    (sym (cond_no (eqb x 31) (cond (eqb t 0) (inf s) nan) (odd 19 s (sig x t * 255) (x - 1) 24) (not_eqb x 31 h)))
    (odd_sign 19 s (sig x t * 255) (x - 1) 24)

pub times-lt : (q : ℕ) → q < 2 ^ 11 → q * 255 < 2 ^ 19
times-lt q h = omega arith

pub product-fits : (s : Bool) (x t : ℕ) → x < 32 → t < 1024 → T (fits binary32 (product s x t))
unfolding product
product-fits s x t h k =
    let q = sig x t * 255 in
    let l : q < 2 ^ 19 = times-lt (sig x t) (sig-lt x t k) in
    cond-fits binary32 (eqb x 31) (cond (eqb t 0) (inf s) nan) (odd 19 s q (x - 1) 24)
    (cond-fits binary32 (eqb t 0) (inf s) nan (inf-fits binary32 s) (nan-fits binary32))
    (subst (λ (v : Float). T (fits binary32 v)) (sym (odd_shift 19 s q (x - 1) 24 125))
    (odd-fits binary32 19 s q (x - 1 + 125) l (le_of_lt (lt_of_lt_of_le l (lit≤ tt))) (room q 19 (x - 1) 125 l (omega arith))))

like : (s : Bool) → unlike s false ≡ s
like true = refl
like false = refl

-- the product of the code: it is rounded, and nothing is lost
times-val : (s : Bool) (x t : ℕ) → x < 32 → t < 1024 → (x ≡ 31 → ⊥) → HasValue (mul binary32 (value s x t) (fin false 255 (pos 0))) s (sig x t * 255 * 2 ^ (x - 1)) (2 ^ 24)
times-val s x t h k n =
    let q = sig x t in
    let P = 2 ^ (x - 1) in
    let l : q * 255 < 2 ^ 19 = times-lt q (sig-lt x t k) in
    let a : q * P * 255 ≡ q * 255 * P = mul_right_comm q P 255 in
    let e : q * P * 255 * 2 ^ 149 ≡ q * 255 * 2 ^ (x - 1 + 125) * 2 ^ 24 =
    ap (λ (z : ℕ). z * 2 ^ 149) a
    ∙ sym (mul_assoc (q * 255 * P) (2 ^ 125) (2 ^ 24))
    ∙ ap (λ (z : ℕ). z * 2 ^ 24) (mul_assoc (q * 255) P (2 ^ 125) ∙ ap (λ (z : ℕ). q * 255 * z) (sym (pow-add 2 (x - 1) 125))) in
    subst (λ (v : Float). HasValue v s (q * 255 * P) (2 ^ 24))
    (sym (mul_val binary32 (value s x t) (fin false 255 (pos 0)) s false (q * P) (2 ^ 24) 255 1 (pow_pos 24) (lit< tt) (value-val s x t n) (refl, refl)))
    (subst (λ (u : Bool). HasValue (round binary32 (unlike s false) (q * P * 255) (2 ^ 24)) u (q * 255 * P) (2 ^ 24)) (like s)
    (subst (λ (z : ℕ). HasValue (round binary32 (unlike s false) (q * P * 255) (2 ^ 24)) (unlike s false) z (2 ^ 24)) a
    (round_exact binary32 (unlike s false) (q * P * 255) (2 ^ 24) (q * 255) (x - 1 + 125) (pow_pos 24) (lt_of_lt_of_le l (lit≤ tt)) (room (q * 255) 19 (x - 1) 125 l (omega arith)) e)))

-- an infinity and a NaN stay
times-31 : (s : Bool) (t : ℕ) → mul binary32 (value s 31 t) (fin false 255 (pos 0)) ≡ product s 31 t
unfolding value product mul
times-31 s t = go (eqb t 0) s
  where
    go : (b u : Bool) → mul binary32 (cond b (inf u) nan) (fin false 255 (pos 0)) ≡ cond b (inf u) nan
    go true true = refl
    go true false = refl
    go false u = refl

times-is : (f : Float) (s : Bool) (x t : ℕ) → x < 32 → t < 1024 → f ≡ value s x t → mul binary32 f (of_bits binary32 0x437f_0000) ≡ product s x t
unfolding of_bits
times-is f s x t h k w =
    ap (λ (v : Float). mul binary32 v (fin false 255 (pos 0))) w
    ∙ elim (eq-or-not x 31) [
      | inl e ↦ subst (λ (z : ℕ). mul binary32 (value s z t) (fin false 255 (pos 0)) ≡ product s z t) (sym e) (times-31 s t)
      | inr n ↦
          value-unique binary32 (mul binary32 (value s x t) (fin false 255 (pos 0))) (product s x t) s (sig x t * 255 * 2 ^ (x - 1)) (2 ^ 24) (pow_pos 24)
          (mul-fits binary32 (value s x t) (fin false 255 (pos 0))) (product-fits s x t h k) (times-val s x t h k n) (product-val s x t n)
    ]

pub ret-times : (f : Float) (h : ℕ) → f ≡ half h → mul binary32 f (of_bits binary32 0x437f_0000) ≡ product (sign h) (field h) (digits h)
ret-times f h w = times-is f (sign h) (field h) (digits h) (omega arith) (omega arith) w
