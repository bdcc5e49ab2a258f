-- The endpoint modes of low dynamic range, of the values v0 to v7, which are bytes.
-- Written from the ASTC chapter's section "LDR Endpoint Decoding".
-- Assumes nothing.
use Rattle.std.specs.Prelude.{cond, ℕ, ◌+◌, ◌*◌, ◌-◌, ◌/◌, ◌%◌, min, leb}
use Rattle.endpoints_colours.specs.Colours.{rgba, each, ldr}
use Rattle.endpoints_colours.specs.declared.Endpoints.{Endpoints}
use Rattle.endpoints_colours.specs.declared.Rgba.{Rgba}
use Rattle.endpoints_colours.specs.declared.Values.{Values}

-- blue_contract
abbrev pub contracted : Rgba → Rgba
contracted c = rgba ((c.r + c.b) / 2) ((c.g + c.b) / 2) c.b c.a

-- bit_transfer_signed: the base takes the offset's top bit, and the offset becomes a signed number of six bits, -32 to 31, which is held with 32 added
unfoldable pub base_of : ℕ → ℕ → ℕ
base_of offset base = base / 2 + offset / 128 * 128

unfoldable pub offset_of : ℕ → ℕ
offset_of offset = (offset / 2 + 32) % 64

-- clamp_unorm8 of a number that has 32 added
abbrev pub clamped : ℕ → ℕ
clamped x = min 255 (x - 32)

-- two colours that have 32 added to each component
abbrev pub clamped_pair : Rgba → Rgba → Endpoints
clamped_pair c d = ldr (each clamped c) (each clamped d)

-- modes 0 and 4
unfoldable pub luminance : ℕ → ℕ → ℕ → ℕ → Endpoints
luminance v0 v1 a0 a1 = ldr (rgba v0 v0 v0 a0) (rgba v1 v1 v1 a1)

-- mode 1
unfoldable pub luminance_offset : ℕ → ℕ → Endpoints
luminance_offset v0 v1 =
    let l0 = v0 / 4 + v1 / 64 * 64 in
    let l1 = min 255 (l0 + v1 % 64) in
    luminance l0 l1 255 255

-- mode 5
unfoldable pub luminance_alpha_offset : ℕ → ℕ → ℕ → ℕ → Endpoints
luminance_alpha_offset v0 v1 v2 v3 =
    let l = base_of v1 v0 in
    let a = base_of v3 v2 in
    let h = l + offset_of v1 in
    clamped_pair (rgba (l + 32) (l + 32) (l + 32) (a + 32)) (rgba h h h (a + offset_of v3))

-- modes 6 and 10
unfoldable pub scaled : Values → ℕ → ℕ → Endpoints
scaled v a0 a1 = ldr (rgba (v.v0 * v.v3 / 256) (v.v1 * v.v3 / 256) (v.v2 * v.v3 / 256) a0) (rgba v.v0 v.v1 v.v2 a1)

-- modes 8 and 12
unfoldable pub direct : Values → ℕ → ℕ → Endpoints
direct v a0 a1 =
    let c = rgba v.v0 v.v2 v.v4 a0 in
    let d = rgba v.v1 v.v3 v.v5 a1 in
    cond (leb (v.v0 + v.v2 + v.v4) (v.v1 + v.v3 + v.v5)) (ldr c d) (ldr (contracted d) (contracted c))

-- modes 9 and 13, of the alphas with 32 added: the offsets' sum is not negative, or both are contracted
unfoldable pub offset : Values → ℕ → ℕ → Endpoints
offset v a0 a1 =
    let r = base_of v.v1 v.v0 in
    let g = base_of v.v3 v.v2 in
    let b = base_of v.v5 v.v4 in
    let c = rgba (r + 32) (g + 32) (b + 32) a0 in
    let d = rgba (r + offset_of v.v1) (g + offset_of v.v3) (b + offset_of v.v5) a1 in
    cond (leb 96 (offset_of v.v1 + offset_of v.v3 + offset_of v.v5)) (clamped_pair c d) (clamped_pair (contracted d) (contracted c))
