-- What a turn of a loop over texels asks: places that are there, and numbers that fit.
-- Assumes nothing.
use Rattle.std.specs.Prelude.{ℕ, ◌+◌, ◌-◌, ◌*◌, ◌≤◌, ◌<◌}
use Rattle.std.proofs.Common.{arith, Fits}
use Rattle.std.specs.Int.{w64}
use Rattle.footprint.specs.Footprints.{most_texels, most_weights}
use Rattle.lanes.specs.Lanes.{most_lanes, eights}

-- a texel before the next multiple of eight is one of the largest footprint
pub inside : {i : ℕ} (n : ℕ) → i < eights n → n ≤ most_texels → i < most_texels
inside n h l = omega arith

pub next_fits : {i : ℕ} → i < most_texels → Fits w64 (i + 1)
next_fits h = omega arith

pub next_le : {i m : ℕ} → i < m → i + 1 ≤ m
next_le h = omega arith

pub less-left : {i m : ℕ} → i < m → m - (i + 1) < m - i
less-left h = omega arith

-- a weight that stands i after x
pub weight-fits : {i x : ℕ} → i < most_texels → x ≤ most_texels → Fits w64 (x + i)
weight-fits h l = omega arith

pub weight-in : {i x : ℕ} → i < most_texels → x ≤ most_texels → x + i < most_weights
weight-in h l = omega arith

pub first-in : {i : ℕ} → i < most_texels → i < most_weights
first-in h = omega arith

-- the two lanes of texel i
pub low_fits : {i : ℕ} → i < most_texels → Fits w64 (2 * i)
low_fits h = omega arith

pub low-in : {i : ℕ} → i < most_texels → 2 * i < most_lanes
low-in h = omega arith

pub high_fits : {i : ℕ} → i < most_texels → Fits w64 (2 * i + 1)
high_fits h = omega arith

pub high-in : {i : ℕ} → i < most_texels → 2 * i + 1 < most_lanes
high-in h = omega arith

-- and where they stand, in bytes
pub low-offset : {i : ℕ} → i < most_texels → Fits w64 (2 * i * 2)
low-offset h = omega arith

pub high-offset : {i : ℕ} → i < most_texels → Fits w64 ((2 * i + 1) * 2)
high-offset h = omega arith
