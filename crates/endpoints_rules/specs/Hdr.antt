-- The endpoint modes 2, 3 and 7, of high dynamic range, and what mode 11 shares with 7.
-- Written from the ASTC chapter's section "HDR Endpoint Decoding".
-- Assumes nothing.
use Rattle.std.specs.Prelude.{cond, not, List, [], ◌∷◌, ℕ, ◌+◌, ◌*◌, ◌-◌, ◌/◌, ◌%◌, ◌^◌, min, eqb, leb, get_or}
use Rattle.endpoints_colours.specs.Colours.{rgba, endpoints}
use Rattle.endpoints_colours.specs.declared.Mark.{Mark}
use Rattle.endpoints_colours.specs.declared.Mark.TheVariants.{Hdr}
use Rattle.endpoints_rules.specs.declared.Rgb.{Rgb}
use Rattle.endpoints_rules.specs.declared.Seven.{Seven}
use Rattle.endpoints_colours.specs.declared.Alphas.{Alphas}
use Rattle.endpoints_colours.specs.declared.Endpoints.{Endpoints}

-- ---- a pair of colours with their alphas
abbrev pub rgb : ℕ → ℕ → ℕ → Rgb
rgb r g b = record { r = r; g = g; b = b }

abbrev pub alphas : ℕ → ℕ → Mark → Alphas
alphas x y m = record { first = x; second = y; mark = m }

abbrev pub opaque : Alphas
opaque = alphas 0x780 0x780 Hdr

abbrev pub hdr : Rgb → Rgb → Alphas → Endpoints
hdr c d t = endpoints (rgba c.r c.g c.b t.first) (rgba d.r d.g d.b t.second) Hdr t.mark

-- ---- modes 2 and 3
abbrev pub grey : ℕ → ℕ → Endpoints
grey y0 y1 = hdr (rgb y0 y0 y0) (rgb y1 y1 y1) opaque

-- mode 2
unfoldable pub luminance_large : ℕ → ℕ → Endpoints
luminance_large v0 v1 = cond (leb v0 v1) (grey (v0 * 16) (v1 * 16)) (grey (v1 * 16 + 8) (v0 * 16 - 8))

-- mode 3
unfoldable pub luminance_small : ℕ → ℕ → Endpoints
luminance_small v0 v1 =
    cond (leb 128 v0)
    (let y = v1 / 32 * 512 + v0 % 128 * 4 in grey y (min 4095 (y + v1 % 32 * 4)))
    (let y = v1 / 16 * 256 + v0 % 128 * 2 in grey y (min 4095 (y + v1 % 16 * 2)))

-- ---- bits that a table places
-- a bit of a component, as the standard's tables name it: R 9 is bit 9 of the component R
pub record Place : Type 0 where
  pub letter : ℕ
  pub bit : ℕ

abbrev pub place : ℕ → ℕ → Place
place l n = record { letter = l; bit = n }

-- bit k of x
abbrev pub bit_at : ℕ → ℕ → ℕ
bit_at x k = x / 2 ^ k % 2

-- what the bits xs, each at its place in the row, give to the component l
unfoldable pub given : (ℕ → Place) → List ℕ → List Place → ℕ
given l [] row = 0
given l (x ∷ xs) [] = 0
given l (x ∷ xs) (p ∷ ps) = cond (eqb p.letter (l 0).letter) (x * 2 ^ p.bit) 0 + given l xs ps

-- x less y, brought into 0..4095
abbrev pub less : ℕ → ℕ → ℕ
less x y = min 4095 (x - y)

-- red changes places with the major component: 1 is green, 2 is blue
unfoldable pub swapped : ℕ → Rgb → Rgb
swapped major c = cond (eqb major 1) (rgb c.g c.r c.b) (cond (eqb major 2) (rgb c.b c.g c.r) c)

-- ---- mode 7
abbrev pub R : ℕ → Place
R n = place 0 n

abbrev pub G : ℕ → Place
G n = place 1 n

abbrev pub B : ℕ → Place
B n = place 2 n

abbrev pub S : ℕ → Place
S n = place 3 n

-- the places of the bits x0 to x6 in the sub-modes 0 to 5
unfoldable pub seven_rows : List (List Place)
seven_rows =
    (R 9 ∷ R 8 ∷ R 7 ∷ R 10 ∷ R 6 ∷ S 6 ∷ S 5 ∷ [])
    ∷ (R 8 ∷ G 5 ∷ R 7 ∷ B 5 ∷ R 6 ∷ R 10 ∷ R 9 ∷ [])
    ∷ (R 9 ∷ R 8 ∷ R 7 ∷ R 6 ∷ S 7 ∷ S 6 ∷ S 5 ∷ [])
    ∷ (R 8 ∷ G 5 ∷ R 7 ∷ B 5 ∷ R 6 ∷ S 6 ∷ S 5 ∷ [])
    ∷ (G 6 ∷ G 5 ∷ B 6 ∷ B 5 ∷ R 6 ∷ R 7 ∷ S 5 ∷ [])
    ∷ (G 6 ∷ G 5 ∷ B 6 ∷ B 5 ∷ R 6 ∷ S 6 ∷ S 5 ∷ [])
    ∷ []

-- how far each sub-mode shifts
unfoldable pub seven_shifts : List ℕ
seven_shifts = 1 ∷ 1 ∷ 2 ∷ 3 ∷ 4 ∷ 5 ∷ []

-- the mode value: two high bits of v0, one of v1, one of v2
unfoldable pub seven_value : ℕ → ℕ → ℕ → ℕ
seven_value v0 v1 v2 = v0 / 64 + v1 / 128 * 4 + v2 / 128 * 8

unfoldable pub seven_major : ℕ → ℕ
seven_major n = cond (not (eqb (n / 4) 3)) (n / 4) (cond (not (eqb n 15)) (n % 4) 0)

unfoldable pub seven_mode : ℕ → ℕ
seven_mode n = cond (not (eqb (n / 4) 3)) (n % 4) (cond (not (eqb n 15)) 4 5)

-- the bits x0 to x6
abbrev pub seven_bits : ℕ → ℕ → ℕ → List ℕ
seven_bits v1 v2 v3 = bit_at v1 6 ∷ bit_at v1 5 ∷ bit_at v2 6 ∷ bit_at v2 5 ∷ bit_at v3 7 ∷ bit_at v3 6 ∷ bit_at v3 5 ∷ []

-- the component l with the low bits n, in the sub-mode m
unfoldable pub seven_part : ℕ → (ℕ → Place) → ℕ → ℕ → ℕ → ℕ → ℕ
seven_part m l n v1 v2 v3 = (n + given l (seven_bits v1 v2 v3) (get_or seven_rows m [])) * 2 ^ get_or seven_shifts m 0

unfoldable pub seven_of : ℕ → ℕ → ℕ → ℕ → ℕ → Seven
seven_of m v0 v1 v2 v3 = record {
  r = seven_part m R (v0 % 64) v1 v2 v3;
  g = seven_part m G (v1 % 32) v1 v2 v3;
  b = seven_part m B (v2 % 32) v1 v2 v3;
  s = seven_part m S (v3 % 32) v1 v2 v3;
}

-- the second colour less s: in sub-mode 5 of the components themselves, else of red and of red less green and less blue
unfoldable pub seven_less : ℕ → Seven → ℕ → Rgb
seven_less m c s =
    cond (eqb m 5) (rgb (less c.r s) (less c.g s) (less c.b s)) (rgb (less c.r s) (less c.r (c.g + s)) (less c.r (c.b + s)))

unfoldable pub hdr7 : ℕ → ℕ → ℕ → ℕ → Endpoints
hdr7 v0 v1 v2 v3 =
    let n = seven_value v0 v1 v2 in
    let c = seven_of (seven_mode n) v0 v1 v2 v3 in
    hdr (swapped (seven_major n) (seven_less (seven_mode n) c c.s)) (swapped (seven_major n) (seven_less (seven_mode n) c 0)) opaque
