-- The endpoints of a mode from its values.
-- Written from the ASTC chapter's sections "LDR Endpoint Decoding" and "HDR Endpoint Decoding".
-- Assumes nothing.
use Rattle.std.specs.Prelude.{List, [], ◌∷◌, ℕ, ◌+◌, get_or}
use Rattle.endpoints_colours.specs.Colours.{nothing}
use Rattle.endpoints_rules.specs.Ldr.{base_of, offset_of, luminance, luminance_offset, luminance_alpha_offset, scaled, direct, offset}
use Rattle.endpoints_rules.specs.Hdr.{opaque, luminance_large, luminance_small, hdr7}
use Rattle.endpoints_rules.specs.Hdr11.{hdr11, plain_alphas, hdr_alphas}
use Rattle.endpoints_colours.specs.declared.Endpoints.{Endpoints}
use Rattle.endpoints_colours.specs.declared.Values.{Values}

-- the endpoints of the modes 0 to 15
unfoldable pub by_mode : Values → List Endpoints
by_mode v =
    luminance v.v0 v.v1 255 255
    ∷ luminance_offset v.v0 v.v1
    ∷ luminance_large v.v0 v.v1
    ∷ luminance_small v.v0 v.v1
    ∷ luminance v.v0 v.v1 v.v2 v.v3
    ∷ luminance_alpha_offset v.v0 v.v1 v.v2 v.v3
    ∷ scaled v 255 255
    ∷ hdr7 v.v0 v.v1 v.v2 v.v3
    ∷ direct v 255 255
    ∷ offset v (255 + 32) (255 + 32)
    ∷ scaled v v.v4 v.v5
    ∷ hdr11 v opaque
    ∷ direct v v.v6 v.v7
    ∷ offset v (base_of v.v7 v.v6 + 32) (base_of v.v7 v.v6 + offset_of v.v7)
    ∷ hdr11 v (plain_alphas v)
    ∷ hdr11 v (hdr_alphas v)
    ∷ []

unfoldable pub endpoints_of : ℕ → Values → Endpoints
endpoints_of m v = get_or (by_mode v) m nothing
