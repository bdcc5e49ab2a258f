-- The way out of mode 11 where its colours are made of differences, from the numbers that the code puts together.
-- Assumes nothing.
use Rattle.std.specs.Prelude.{◌≡◌, ℕ, ◌+◌, ◌*◌, ◌/◌, ◌<◌}
use Rattle.std.proofs.Common.{◌∙◌, arith, ne_eqb}
use Rattle.endpoints_colours.specs.declared.Alphas.{Alphas}
use Rattle.endpoints_colours.specs.declared.Endpoints.{Endpoints}
use Rattle.endpoints_colours.specs.declared.Values.{Values}
use Rattle.endpoints_rules.specs.Hdr.{rgb, hdr, less, swapped}
use Rattle.endpoints_rules.specs.Hdr11.{eleven_mode, eleven_major, hdr11}
use Rattle.endpoints_rules.specs.declared.Rgb.{Rgb}
use Rattle.endpoints_hdr_eleven.specs.Hdr11Laws.{eleven_of, base-small, first-is, second_is}
use Rattle.endpoints_hdr_eleven.specs.declared.Eleven.{Eleven}

-- the values that mode 11 reads are bytes
pub record Bytes (v : Values) : Type 0 where
  pub v0 : v.v0 < 256
  pub v1 : v.v1 < 256
  pub v2 : v.v2 < 256
  pub v3 : v.v3 < 256
  pub v4 : v.v4 < 256
  pub v5 : v.v5 < 256

pub mode-lt : (v : Values) → Bytes v → v.v1 / 128 + v.v2 / 128 * 2 + v.v3 / 128 * 4 < 8
mode-lt v h = omega (arith, h.v1, h.v2, h.v3)

abbrev pub first_of : Eleven → Rgb
first_of e = rgb (less e.a e.c) (less e.a (e.b0 + e.c + e.d0)) (less e.a (e.b1 + e.c + e.d1))

abbrev pub second_of : Eleven → Rgb
second_of e = rgb e.a (less e.a e.b0) (less e.a e.b1)

pub eleven-out : (v : Values) (t : Alphas) (e : Eleven) (x y p q : Rgb) (r : Endpoints) → Bytes v → (v.v4 / 128 + v.v5 / 128 * 2 ≡ 3 → ⊥)
    → e ≡ eleven_of (v.v1 / 128 + v.v2 / 128 * 2 + v.v3 / 128 * 4) v → x ≡ first_of e → p ≡ swapped (v.v4 / 128 + v.v5 / 128 * 2) x → y ≡ second_of e
    → q ≡ swapped (v.v4 / 128 + v.v5 / 128 * 2) y → r ≡ hdr p q t → r ≡ hdr11 v t
unfolding hdr11 eleven_major eleven_mode
eleven-out v t e x y p q r h n ee ex ep ey eq er =
    let m : ℕ = v.v1 / 128 + v.v2 / 128 * 2 + v.v3 / 128 * 4 in
    let l : m < 8 = mode-lt v h in
    let s = base-small v h.v0 m l in
    er ∙ rw (ep, eq, ex, ey, ee, ne_eqb _ _ n, first-is m v l s, second_is m v l s)
