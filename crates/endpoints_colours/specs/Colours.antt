-- A colour, and a pair of them as endpoints with their marks.
-- Assumes nothing.
use Rattle.std.specs.Prelude.{cond, [], ◌∷◌, ℕ, eqb, get_or}
use Rattle.endpoints_colours.specs.declared.Mark.{Mark}
use Rattle.endpoints_colours.specs.declared.Mark.TheVariants.{Ldr}
use Rattle.endpoints_colours.specs.declared.Endpoints.{Endpoints}
use Rattle.endpoints_colours.specs.declared.Rgba.{Rgba}

abbrev pub rgba : ℕ → ℕ → ℕ → ℕ → Rgba
rgba r g b a = record { r = r; g = g; b = b; a = a }

abbrev pub each : (ℕ → ℕ) → Rgba → Rgba
each f c = rgba (f c.r) (f c.g) (f c.b) (f c.a)

abbrev pub endpoints : Rgba → Rgba → Mark → Mark → Endpoints
endpoints c d color alpha = record {
  r0 = c.r;
  g0 = c.g;
  b0 = c.b;
  a0 = c.a;
  r1 = d.r;
  g1 = d.g;
  b1 = d.b;
  a1 = d.a;
  color = color;
  alpha = alpha;
}

abbrev pub ldr : Rgba → Rgba → Endpoints
ldr c d = endpoints c d Ldr Ldr

-- where there is no partition
abbrev pub nothing : Endpoints
nothing = ldr (rgba 0 0 0 0) (rgba 0 0 0 0)

-- of channel k, of 0 to 3 for red to alpha: how it is read, and its two ends
abbrev pub mark_of : Endpoints → ℕ → Mark
mark_of e k = cond (eqb k 3) e.alpha e.color

abbrev pub first_of : Endpoints → ℕ → ℕ
first_of e k = get_or (e.r0 ∷ e.g0 ∷ e.b0 ∷ e.a0 ∷ []) k 0

abbrev pub second_of : Endpoints → ℕ → ℕ
second_of e k = get_or (e.r1 ∷ e.g1 ∷ e.b1 ∷ e.a1 ∷ []) k 0
