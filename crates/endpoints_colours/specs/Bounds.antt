-- How large endpoints are: LDR ones lie in 0..255 and HDR ones in 0..4095.
-- Assumes nothing.
use Rattle.std.specs.Prelude.{ℕ, ◌<◌}
use Rattle.endpoints_colours.specs.declared.Mark.{Mark}
use Rattle.endpoints_colours.specs.declared.Mark.TheVariants.{Ldr, Hdr}
use Rattle.endpoints_colours.specs.declared.Endpoints.{Endpoints}

abbrev pub limit : Mark → ℕ
limit Ldr = 256
limit Hdr = 4096

pub record InLimits (e : Endpoints) : Type 0 where
  pub r0 : e.r0 < limit e.color
  pub g0 : e.g0 < limit e.color
  pub b0 : e.b0 < limit e.color
  pub a0 : e.a0 < limit e.alpha
  pub r1 : e.r1 < limit e.color
  pub g1 : e.g1 < limit e.color
  pub b1 : e.b1 < limit e.color
  pub a1 : e.a1 < limit e.alpha
