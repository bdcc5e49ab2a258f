-- The laws of blending: its closed forms, and its bounds.
-- Assumes nothing.
use Rattle.std.specs.Prelude.{◌≡◌, cond, ℕ, ◌+◌, ◌-◌, ◌*◌, ◌/◌, ◌%◌, ◌^◌, ◌≤◌, ◌<◌, min, max, eqb, ltb}
use Rattle.std.proofs.Common.{sym, ap, ◌∙◌, mod-eq_of_lt, mul_comm, mul_assoc, mul-add, mul-le-mul_right, arith, lt-ltb, le-ltb}
use Rattle.std.proofs.Math.Decide.{dec_lt}
use Rattle.std.specs.Int.Bits.{bit_or}
use Rattle.std.proofs.lemmas.Nat.{or_shifted, or_lt}
use Rattle.laws.specs.Numbers.{choice-le}
use Rattle.half.specs.Half.{sign, field, digits, whole, hdr_byte, hdr_byte_of}
use Rattle.blend.specs.Blend.{between, expand, crate_byte, ldr_channel, hdr_blend, bent, half_of, hdr_half, hdr_channel}

-- ---- between two numbers
-- the sum of two numbers by their shares
abbrev pub shares : ℕ → ℕ → ℕ → ℕ
shares e0 e1 w = e0 * (64 - w) + e1 * w

-- it lies between 64 times the smaller and 64 times the larger
pub shares-least : (e0 e1 w : ℕ) → w ≤ 64 → 64 * min e0 e1 ≤ shares e0 e1 w
shares-least e0 e1 w h =
    let m = min e0 e1 in
    let a : m * (64 - w) ≤ e0 * (64 - w) = mul-le-mul_right (64 - w) (omega arith) in
    let b : m * w ≤ e1 * w = mul-le-mul_right w (omega arith) in
    let s : m * (64 - w) + m * w ≡ m * 64 = sym (mul-add m (64 - w) w) ∙ ap (λ (n : ℕ). m * n) (omega arith) in
    omega arith

pub shares-most : (e0 e1 w : ℕ) → w ≤ 64 → shares e0 e1 w ≤ 64 * max e0 e1
shares-most e0 e1 w h =
    let m = max e0 e1 in
    let a : e0 * (64 - w) ≤ m * (64 - w) = mul-le-mul_right (64 - w) (omega arith) in
    let b : e1 * w ≤ m * w = mul-le-mul_right w (omega arith) in
    let s : m * (64 - w) + m * w ≡ m * 64 = sym (mul-add m (64 - w) w) ∙ ap (λ (n : ℕ). m * n) (omega arith) in
    omega arith

-- a number c lies between a and b
pub record Between (a b c : ℕ) : Type 0 where
  pub least : min a b ≤ c
  pub most : c ≤ max a b

-- what is blended lies between its two ends
pub between-within : (x0 x1 w : ℕ) → w ≤ 64 → Between x0 x1 (between x0 x1 w)
unfolding between
between-within x0 x1 w h =
    let a : 64 * min x0 x1 ≤ shares x0 x1 w = shares-least x0 x1 w h in
    let b : shares x0 x1 w ≤ 64 * max x0 x1 = shares-most x0 x1 w h in
    record { least = omega arith; most = omega arith }

-- and does not fall where its ends rise
pub between-mono : (x0 x1 y0 y1 w : ℕ) → x0 ≤ y0 → x1 ≤ y1 → between x0 x1 w ≤ between y0 y1 w
unfolding between
between-mono x0 x1 y0 y1 w h l =
    let a : x0 * (64 - w) ≤ y0 * (64 - w) = mul-le-mul_right (64 - w) h in
    let b : x1 * w ≤ y1 * w = mul-le-mul_right w l in
    omega arith

-- a function that does not fall, of numbers up to n
abbrev pub Rising : ℕ → (ℕ → ℕ) → Type 0
Rising n f = (x y : ℕ) → x ≤ y → y ≤ n → f x ≤ f y

-- it takes what lies between two numbers to what lies between their values
pub within-rising : (n : ℕ) (f : ℕ → ℕ) → Rising n f → (a b c : ℕ) → a ≤ n → b ≤ n → Between a b c → Between (f a) (f b) (f c)
within-rising n f up a b c h l w = go (dec_lt a b)
  where
    go : Dec (a < b) → Between (f a) (f b) (f c)
    go (yes p) =
        let low : f a ≤ f c = up a c (omega (arith, w.least)) (omega (arith, w.most)) in
        let high : f c ≤ f b = up c b (omega (arith, w.most)) l in
        record { least = omega arith; most = omega arith }
    go (no p) =
        let low : f b ≤ f c = up b c (omega (arith, w.least)) (omega (arith, w.most)) in
        let high : f c ≤ f a = up c a (omega (arith, w.most)) h in
        record { least = omega arith; most = omega arith }

-- ---- LDR
-- a byte is expanded to 257 times itself
pub expand-byte : (e : ℕ) → e ≤ 255 → expand e ≡ 257 * e
unfolding expand
expand-byte e h = or_shifted e 8 e (omega arith) ∙ omega arith

-- the expansion and the reduction of 16 bits do not fall
pub expand-rising : Rising 255 expand
expand-rising x y h l = rw (expand-byte x (omega arith), expand-byte y l) (omega arith)

shared-rising : (x y : ℕ) → x ≤ y → x / 65536 ≤ y / 65536
shared-rising x y h = omega arith

byte-rising : (x y : ℕ) → x ≤ y → y ≤ 255 → x % 256 ≤ y % 256
byte-rising x y h l = omega arith

byte-of : (e : ℕ) → e ≤ 255 → (65536 * e + (32768 - e)) / 65536 % 256 ≡ e
byte-of e h =
    let d : (65536 * e + (32768 - e)) / 65536 ≡ e = omega arith in
    rw d (mod-eq_of_lt (omega arith))

pub crate-rising : Rising 65535 crate_byte
unfolding crate_byte
crate-rising x y h l = byte-rising _ _ (shared-rising (255 * x + 32768) (255 * y + 32768) (omega arith)) (omega arith)

-- a byte that is expanded and reduced is itself
pub crate-expand : (e : ℕ) → e ≤ 255 → crate_byte (expand e) ≡ e
unfolding crate_byte
crate-expand e h =
    let s : 255 * (257 * e) + 32768 ≡ 65536 * e + (32768 - e) = omega arith in
    rw (expand-byte e h, s) (byte-of e h)

-- so an LDR channel lies between its endpoints
pub ldr-within : (e0 e1 w : ℕ) → e0 ≤ 255 → e1 ≤ 255 → w ≤ 64 → Between e0 e1 (ldr_channel e0 e1 w)
ldr-within e0 e1 w h l k =
    let a : expand e0 ≤ 65535 = rw (expand-byte e0 h) (omega arith) in
    let b : expand e1 ≤ 65535 = rw (expand-byte e1 l) (omega arith) in
    rw (crate-expand e0 h, crate-expand e1 l) at (within-rising 65535 crate_byte crate-rising (expand e0) (expand e1) _ a b (between-within (expand e0) (expand e1) w k))

-- the closed form for bytes, in 16 bits
abbrev pub byte_of : ℕ → ℕ
byte_of v = (v + 32 - v / 8192) / 64

-- with v + 32 = 64 * k + r, the blended value is 4 * v + k, and 255 times it with one half is 65536 * k less k, and 1020 * r + 128
scaled : (v k r : ℕ) → v + 32 ≡ 64 * k + r → 255 * (4 * v + k) + 32768 + k ≡ 65536 * k + 1020 * r + 128
scaled v k r e = omega arith

exact : (v k r : ℕ) → v + 32 ≡ 64 * k + r → r < 64 → k ≤ 1020 * r + 128 → (255 * (4 * v + k) + 32768) / 65536 ≡ k
exact v k r e h l = let s = scaled v k r e in omega arith

less_one : (v k r : ℕ) → v + 32 ≡ 64 * k + r → k ≤ 255 → 1020 * r + 128 < k → (255 * (4 * v + k) + 32768) / 65536 ≡ k - 1
less_one v k r e h l = let s = scaled v k r e in omega arith

down : (v k r : ℕ) → v ≤ 16320 → v + 32 ≡ 64 * k + r → 1020 * r + 128 < k → (k - 1) % 256 ≡ byte_of v
down v k r h e l =
    let z : r ≡ 0 = omega arith in
    let q : v / 8192 ≡ 1 = omega arith in
    let b : k ≤ 255 = omega arith in
    let m : (k - 1) % 256 ≡ k - 1 = omega arith in
    let d : (v + 32 - 1) / 64 ≡ k - 1 = omega arith in
    rw q (m ∙ sym d)

keep : (v k r : ℕ) → v ≤ 16320 → v + 32 ≡ 64 * k + r → r < 64 → k ≤ 1020 * r + 128 → Dec (v < 8192) → k % 256 ≡ byte_of v
keep v k r h e l m (yes p) =
    let q : v / 8192 ≡ 0 = omega arith in
    rw q (omega arith)
keep v k r h e l m (no p) =
    let q : v / 8192 ≡ 1 = omega arith in
    let z : 1 ≤ r = omega arith in
    let b : k % 256 ≡ k = omega arith in
    let d : (v + 32 - 1) / 64 ≡ k = omega arith in
    rw q (b ∙ sym d)

closed : (v : ℕ) → v ≤ 16320 → crate_byte ((257 * v + 32) / 64) ≡ byte_of v
unfolding crate_byte
closed v h =
    let k = (v + 32) / 64 in
    let r = (v + 32) % 64 in
    let e : v + 32 ≡ 64 * k + r = omega arith in
    let c : (257 * v + 32) / 64 ≡ 4 * v + k = omega arith in
    rw c (go (dec_lt (1020 * r + 128) k) e)
  where
    go : Dec (1020 * ((v + 32) % 64) + 128 < (v + 32) / 64) → v + 32 ≡ 64 * ((v + 32) / 64) + (v + 32) % 64 → (255 * (4 * v + (v + 32) / 64) + 32768) / 65536 % 256 ≡ byte_of v
    go (yes l) e = rw (less_one v ((v + 32) / 64) ((v + 32) % 64) e (omega arith) l) (down v ((v + 32) / 64) ((v + 32) % 64) h e l)
    go (no l) e = rw (exact v ((v + 32) / 64) ((v + 32) % 64) e (omega arith) (omega arith)) (keep v ((v + 32) / 64) ((v + 32) % 64) h e (omega arith) (omega arith) (dec_lt v 8192))

-- the channel of two bytes is the closed form of their shares
pub ldr-closed : (e0 e1 w : ℕ) → e0 ≤ 255 → e1 ≤ 255 → w ≤ 64 → ldr_channel e0 e1 w ≡ byte_of (shares e0 e1 w)
unfolding between
ldr-closed e0 e1 w h l k =
    let s : 257 * e0 * (64 - w) + 257 * e1 * w ≡ 257 * shares e0 e1 w =
    ap (λ (n : ℕ). n + 257 * e1 * w) (mul_assoc 257 e0 (64 - w)) ∙ ap (λ (n : ℕ). 257 * (e0 * (64 - w)) + n) (mul_assoc 257 e1 w) ∙ sym (mul-add 257 (e0 * (64 - w)) (e1 * w)) in
    let m : shares e0 e1 w ≤ 16320 = omega (arith, shares-most e0 e1 w k) in
    rw (expand-byte e0 h, expand-byte e1 l, s) (closed (shares e0 e1 w) m)

-- ---- HDR
-- the blended value with the common factor taken out
pub hdr-closed : (v0 v1 w : ℕ) → (shares v0 v1 w + 2) / 4 ≡ hdr_blend v0 v1 w
unfolding between
hdr-closed v0 v1 w =
    let s : v0 * 16 * (64 - w) + v1 * 16 * w ≡ 16 * shares v0 v1 w =
    ap (λ (n : ℕ). n * (64 - w) + v1 * 16 * w) (mul_comm v0 16) ∙ ap (λ (n : ℕ). 16 * v0 * (64 - w) + n * w) (mul_comm v1 16)
    ∙ ap (λ (n : ℕ). n + 16 * v1 * w) (mul_assoc 16 v0 (64 - w)) ∙ ap (λ (n : ℕ). 16 * (v0 * (64 - w)) + n) (mul_assoc 16 v1 w) ∙ sym (mul-add 16 (v0 * (64 - w)) (v1 * w)) in
    rw s (omega arith)

-- the logarithm's three pieces as one sum: natural numbers end at 0
pub bent-sum : (m : ℕ) → 3 * m + (m - 512) + (m - 1536) ≡ bent m
unfolding bent
bent-sum m = go (dec_lt m 512) (dec_lt m 1536)
  where
    go : Dec (m < 512) → Dec (m < 1536) → 3 * m + (m - 512) + (m - 1536) ≡ cond (ltb m 512) (3 * m) (cond (ltb m 1536) (4 * m - 512) (5 * m - 2048))
    go (yes p) q = rw (lt-ltb m 512 p) (omega arith)
    go (no p) (yes q) = rw (le-ltb m 512 (omega arith), lt-ltb m 1536 q) (omega arith)
    go (no p) (no q) = rw (le-ltb m 512 (omega arith), le-ltb m 1536 (omega arith)) (omega arith)

pub half_lt : (c : ℕ) → c < 65536 → half_of c < 32768
unfolding half_of
half_lt c h = omega (arith, bent-sum (c % 2048))

-- the half of an HDR channel has no sign
pub hdr-half-lt : (v0 v1 w : ℕ) → v0 < 4096 → v1 < 4096 → w ≤ 64 → hdr_half v0 v1 w < 32768
hdr-half-lt v0 v1 w h l m = half_lt _ (rw (← (hdr-closed v0 v1 w)) (omega (arith, shares-most v0 v1 w m)))

-- an HDR channel is a byte
pub hdr-byte : (h : ℕ) → hdr_byte_of h ≤ 255
unfolding hdr_byte
hdr-byte h =
    choice-le (eqb (field h) 31) 255 _ (omega arith) (choice-le (sign h) 0 (min (whole (field h) (digits h)) 255) (omega arith) (omega arith))

-- ---- as the code has it
pub expanded-is : (e : ℕ) → e ≤ 286 → bit_or (e * 256 % 2 ^ 32) e ≡ expand e
unfolding expand
expanded-is e h = let z : e * 256 % 2 ^ 32 ≡ e * 256 = omega arith in rw z

pub expand-lt : (e : ℕ) → e ≤ 286 → expand e < 131072
unfolding expand
expand-lt e h = or_lt 17 (e * 256) e (omega arith) (omega arith)

pub ldr-is : (e0 e1 w x0 x1 : ℕ) → x0 ≡ expand e0 → x1 ≡ expand e1 → (255 * ((x0 * (64 - w) + x1 * w + 32) / 64) + 32768) / 65536 % 256 ≡ ldr_channel e0 e1 w
unfolding between crate_byte
ldr-is e0 e1 w x0 x1 p q = rw (p, q)

pub half_is : (c a b : ℕ) → a ≡ c % 2048 - 512 → b ≡ c % 2048 - 1536 → c / 2048 * 1024 + (3 * (c % 2048) + a + b) / 8 ≡ half_of c
unfolding half_of
half_is c a b p q = rw (p, q, bent-sum (c % 2048))

pub hdr-half-is : (v0 v1 w h : ℕ) → v0 < 4096 → v1 < 4096 → w ≤ 64 → h ≡ half_of ((shares v0 v1 w + 2) / 4) → (h ≡ hdr_half v0 v1 w) × (h < 32768)
hdr-half-is v0 v1 w h k l m p =
    let e : h ≡ hdr_half v0 v1 w = p ∙ rw (hdr-closed v0 v1 w) in
    (e, rw e (hdr-half-lt v0 v1 w k l m))

pub hdr-is : (v0 v1 w h r : ℕ) → h ≡ hdr_half v0 v1 w → r ≡ hdr_byte_of h → r ≡ hdr_channel v0 v1 w
hdr-is v0 v1 w h r p q = q ∙ rw p
