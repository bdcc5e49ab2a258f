-- The endpoint modes 11, 14 and 15, of high dynamic range.
-- Written from the ASTC chapter's section "HDR Endpoint Decoding"; the offsets of mode 11 are read as the original reads them.
-- Assumes nothing.
use Rattle.std.specs.Prelude.{cond, List, [], ◌∷◌, ℕ, ◌+◌, ◌*◌, ◌-◌, ◌/◌, ◌%◌, ◌^◌, eqb, ltb, get_or}
use Rattle.endpoints_rules.specs.Hdr.{Place, place, bit_at, given, less, rgb, alphas, hdr, swapped}
use Rattle.endpoints_colours.specs.declared.Mark.TheVariants.{Ldr, Hdr}
use Rattle.endpoints_colours.specs.declared.Endpoints.{Endpoints}
use Rattle.endpoints_rules.specs.declared.Rgb.{Rgb}
use Rattle.endpoints_colours.specs.declared.Values.{Values}
use Rattle.endpoints_colours.specs.declared.Alphas.{Alphas}

-- ---- the offsets
-- a signed number: plus less minus
pub record Offset : Type 0 where
  pub plus : ℕ
  pub minus : ℕ

-- the offset d of n bits as the original reads it: where the top bit is set it gets the high bits of a 16-bit number, and stays large and positive
unfoldable pub crate_offset : ℕ → ℕ → Offset
crate_offset n d = record { plus = cond (ltb d (2 ^ (n - 1))) d (d + 65536 - 2 ^ n); minus = 0 }

-- the reading of offsets: the one place where the original and the standard part
abbrev pub offset_read : ℕ → ℕ → Offset
offset_read = crate_offset

-- ---- the components
abbrev pub A : ℕ → Place
A n = place 0 n

abbrev pub B0 : ℕ → Place
B0 n = place 1 n

abbrev pub B1 : ℕ → Place
B1 n = place 2 n

abbrev pub C : ℕ → Place
C n = place 3 n

abbrev pub D0 : ℕ → Place
D0 n = place 4 n

abbrev pub D1 : ℕ → Place
D1 n = place 5 n

-- the places of the bits x0 to x5 in the sub-modes 0 to 7
unfoldable pub eleven_rows : List (List Place)
eleven_rows =
    (B0 6 ∷ B1 6 ∷ D0 6 ∷ D1 6 ∷ D0 5 ∷ D1 5 ∷ [])
    ∷ (B0 6 ∷ B1 6 ∷ B0 7 ∷ B1 7 ∷ D0 5 ∷ D1 5 ∷ [])
    ∷ (A 9 ∷ C 6 ∷ D0 6 ∷ D1 6 ∷ D0 5 ∷ D1 5 ∷ [])
    ∷ (B0 6 ∷ B1 6 ∷ A 9 ∷ C 6 ∷ D0 5 ∷ D1 5 ∷ [])
    ∷ (B0 6 ∷ B1 6 ∷ B0 7 ∷ B1 7 ∷ A 9 ∷ A 10 ∷ [])
    ∷ (A 9 ∷ A 10 ∷ C 7 ∷ C 6 ∷ D0 5 ∷ D1 5 ∷ [])
    ∷ (B0 6 ∷ B1 6 ∷ A 11 ∷ C 6 ∷ A 9 ∷ A 10 ∷ [])
    ∷ (A 9 ∷ A 10 ∷ A 11 ∷ C 6 ∷ D0 5 ∷ D1 5 ∷ [])
    ∷ []

-- the bits of an offset in each sub-mode
unfoldable pub offset_bits : List ℕ
offset_bits = 7 ∷ 6 ∷ 7 ∷ 6 ∷ 5 ∷ 6 ∷ 5 ∷ 6 ∷ []

-- the sub-mode and the major component, of the bytes' high bits
unfoldable pub eleven_mode : Values → ℕ
eleven_mode v = v.v1 / 128 + v.v2 / 128 * 2 + v.v3 / 128 * 4

unfoldable pub eleven_major : Values → ℕ
eleven_major v = v.v4 / 128 + v.v5 / 128 * 2

-- the bits x0 to x5
abbrev pub eleven_bits : Values → List ℕ
eleven_bits v = bit_at v.v2 6 ∷ bit_at v.v3 6 ∷ bit_at v.v4 6 ∷ bit_at v.v5 6 ∷ bit_at v.v4 5 ∷ bit_at v.v5 5 ∷ []

-- the component l with the low bits n, in the sub-mode m, before the shift
unfoldable pub eleven_part : ℕ → (ℕ → Place) → ℕ → Values → ℕ
eleven_part m l n v = n + given l (eleven_bits v) (get_or eleven_rows m [])

abbrev pub eleven_a : ℕ → Values → ℕ
eleven_a m v = eleven_part m A (v.v0 + bit_at v.v1 6 * 256) v

abbrev pub eleven_b0 : ℕ → Values → ℕ
eleven_b0 m v = eleven_part m B0 (v.v2 % 64) v

abbrev pub eleven_b1 : ℕ → Values → ℕ
eleven_b1 m v = eleven_part m B1 (v.v3 % 64) v

abbrev pub eleven_c : ℕ → Values → ℕ
eleven_c m v = eleven_part m C (v.v1 % 64) v

abbrev pub eleven_d0 : ℕ → Values → ℕ
eleven_d0 m v = eleven_part m D0 (v.v4 % 32) v

abbrev pub eleven_d1 : ℕ → Values → ℕ
eleven_d1 m v = eleven_part m D1 (v.v5 % 32) v

-- each sub-mode shifts by 3 - m/2
abbrev pub up : ℕ → ℕ → ℕ
up m x = x * 2 ^ (3 - m / 2)

-- a less b, c and the offset d
unfoldable pub under : ℕ → ℕ → ℕ → ℕ → Offset → ℕ
under m a b c d = less (up m a + up m d.minus) (up m b + up m c + up m d.plus)

unfoldable pub eleven_first : ℕ → Values → Rgb
eleven_first m v =
    let n = get_or offset_bits m 0 in
    rgb (less (up m (eleven_a m v)) (up m (eleven_c m v))) (under m (eleven_a m v) (eleven_b0 m v) (eleven_c m v) (offset_read n (eleven_d0 m v)))
    (under m (eleven_a m v) (eleven_b1 m v) (eleven_c m v) (offset_read n (eleven_d1 m v)))

unfoldable pub eleven_second : ℕ → Values → Rgb
eleven_second m v = rgb (less (up m (eleven_a m v)) 0) (less (up m (eleven_a m v)) (up m (eleven_b0 m v))) (less (up m (eleven_a m v)) (up m (eleven_b1 m v)))

-- of the alphas t; where the major component is 3 the values are the colours themselves
unfoldable pub hdr11 : Values → Alphas → Endpoints
hdr11 v t =
    cond (eqb (eleven_major v) 3)
    (hdr (rgb (v.v0 * 16) (v.v2 * 16) (v.v4 % 128 * 32)) (rgb (v.v1 * 16) (v.v3 * 16) (v.v5 % 128 * 32)) t)
    (hdr (swapped (eleven_major v) (eleven_first (eleven_mode v) v)) (swapped (eleven_major v) (eleven_second (eleven_mode v) v)) t)

-- ---- the alphas of modes 14 and 15
abbrev pub plain_alphas : Values → Alphas
plain_alphas v = alphas v.v6 v.v7 Ldr

-- of the sub-mode m below 3: the offset is a signed number of 6 - m bits, held with half its range added
unfoldable pub offset_alphas : ℕ → ℕ → ℕ → Alphas
offset_alphas m x y =
    let half = 2 ^ (5 - m) in
    let scale = 2 ^ (4 - m) in
    let first = (x + y * 2 ^ (m + 1) / 128 % 16 * 128) * scale in
    alphas first (less (first + (y + half) % (2 * half) * scale) (half * scale)) Hdr

unfoldable pub hdr_alphas : Values → Alphas
hdr_alphas v =
    let m = v.v6 / 128 + v.v7 / 128 * 2 in
    cond (eqb m 3) (alphas (v.v6 % 128 * 32) (v.v7 % 128 * 32) Hdr) (offset_alphas m (v.v6 % 128) (v.v7 % 128))
