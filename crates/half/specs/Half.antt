-- IEEE 754's binary16 over the values of `lib.Ieee`: a bit of sign, five of exponent, ten of digits. And the two rules that make a byte of a half. Definitions only.
use Rattle.std.specs.Prelude.{ℕ, ◌+◌, ◌-◌, ◌*◌, ◌/◌, ◌%◌, ◌^◌, min, Bool, cond, leb, eqb, Float}
use Rattle.std.specs.Float.{nan, inf}
use Rattle.std.specs.Float.Ieee.{odd}

-- the fields of a pattern h
abbrev pub sign : ℕ → Bool
sign h = leb 32768 h

abbrev pub field : ℕ → ℕ
field h = h / 1024 % 32

abbrev pub digits : ℕ → ℕ
digits h = h % 1024

-- A finite half with the field x and the digits t is `sig x t` * 2 ^ (x - 1) / 2 ^ 24 in size: a field of 0 has no leading digit, and counts as a field of 1 (0 - 1 is 0 here).
abbrev pub sig : ℕ → ℕ → ℕ
sig x t = cond (eqb x 0) t (1024 + t)

-- the value that a sign, a field and digits stand for. `odd d s q k l` is the number q * 2 ^ k / 2 ^ l with the sign s, for a q of at most d digits.
unfoldable pub value : Bool → ℕ → ℕ → Float
unfolding odd
value s x t = cond (eqb x 31) (cond (eqb t 0) (inf s) nan) (odd 11 s (sig x t) (x - 1) 24)

-- every NaN pattern is `nan`
abbrev pub half : ℕ → Float
half h = value (sign h) (field h) (digits h)

-- ---- 255 times a half, as a number: nothing is rounded
unfoldable pub product : Bool → ℕ → ℕ → Float
unfolding odd
product s x t = cond (eqb x 31) (cond (eqb t 0) (inf s) nan) (odd 19 s (sig x t * 255) (x - 1) 24)

abbrev pub product_of : ℕ → Float
product_of h = product (sign h) (field h) (digits h)

-- and cut to a whole number, of a finite half that is not negative
abbrev pub whole : ℕ → ℕ → ℕ
whole x t = sig x t * 255 * 2 ^ (x - 1) / 2 ^ 24

-- ---- a half as a byte
-- HDR endpoints: an infinity and a NaN are 255
unfoldable pub hdr_byte : Bool → ℕ → ℕ → ℕ
hdr_byte s x t = cond (eqb x 31) 255 (cond s 0 (min (whole x t) 255))

abbrev pub hdr_byte_of : ℕ → ℕ
hdr_byte_of h = hdr_byte (sign h) (field h) (digits h)

-- a void extent's half: a NaN is 0, an infinity of either sign 255
unfoldable pub void_byte : Bool → ℕ → ℕ → ℕ
void_byte s x t = cond (eqb x 31) (cond (eqb t 0) 255 0) (cond s 0 (min (whole x t) 255))

abbrev pub void_byte_of : ℕ → ℕ
void_byte_of h = void_byte (sign h) (field h) (digits h)
