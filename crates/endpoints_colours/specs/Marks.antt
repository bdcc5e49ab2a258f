-- The marks of the sixteen modes: which of them make HDR colours and HDR alphas.
-- Written from the ASTC chapter's section "Color Endpoint Mode".
-- Assumes nothing.
use Rattle.std.specs.Prelude.{Bool, true, false, List, [], ◌∷◌, ℕ, get_or}
use Rattle.endpoints_colours.specs.declared.Mark.{Mark}
use Rattle.endpoints_colours.specs.declared.Mark.TheVariants.{Ldr, Hdr}
use Rattle.endpoints_colours.specs.declared.Endpoints.{Endpoints}

pub record Marks : Type 0 where
  pub color : Mark
  pub alpha : Mark

abbrev pub marks : Mark → Mark → Marks
marks c a = record { color = c; alpha = a }

abbrev pub is_hdr : Mark → Bool
is_hdr Ldr = false
is_hdr Hdr = true

-- of the modes 0 to 15
unfoldable pub marks_table : List Marks
marks_table =
    marks Ldr Ldr
    ∷ marks Ldr Ldr
    ∷ marks Hdr Hdr
    ∷ marks Hdr Hdr
    ∷ marks Ldr Ldr
    ∷ marks Ldr Ldr
    ∷ marks Ldr Ldr
    ∷ marks Hdr Hdr
    ∷ marks Ldr Ldr
    ∷ marks Ldr Ldr
    ∷ marks Ldr Ldr
    ∷ marks Hdr Hdr
    ∷ marks Ldr Ldr
    ∷ marks Ldr Ldr
    ∷ marks Hdr Ldr
    ∷ marks Hdr Hdr
    ∷ []

unfoldable pub marks_of : ℕ → Marks
marks_of mode = get_or marks_table mode (marks Ldr Ldr)

-- of a pair of endpoints
abbrev pub marks_in : Endpoints → Marks
marks_in e = marks e.color e.alpha
