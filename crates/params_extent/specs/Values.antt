-- Extents at the edges of the standard's rules, as the order names them. Each is computed.
-- Assumes nothing.
use Rattle.std.specs.Prelude.{◌≡◌, refl, ℕ, ◌+◌, ◌*◌, ◌^◌}
use Rattle.bits.specs.Bits.{bits_at}
use Rattle.options.specs.declared.Reading.TheVariants.{Crate, Standard}
use Rattle.params_extent.specs.Extent.{is_everywhere, keeps_rules, void_verdict}

-- the two bits below, and the four coordinates
unfoldable pub extent : ℕ → ℕ → ℕ → ℕ → ℕ → ℕ
extent bits low_s high_s low_t high_t = bits + 2 ^ 2 * low_s + 2 ^ 15 * high_s + 2 ^ 28 * low_t + 2 ^ 41 * high_t

pub record Values : Type 0 where
  pub everywhere : void_verdict Standard (extent 3 8191 8191 8191 8191) ≡ 1
  pub ordered : void_verdict Standard (extent 3 0 1 8190 8191) ≡ 1
  -- a bit below the extent is 0
  pub bit-10 : void_verdict Standard (extent 2 8191 8191 8191 8191) ≡ 17
  pub bit-11 : void_verdict Standard (extent 1 8191 8191 8191 8191) ≡ 17
  pub bit-11-ordered : void_verdict Standard (extent 1 0 1 0 1) ≡ 17
  -- low equal to high, or above it, in either pair
  pub equal-s : void_verdict Standard (extent 3 5 5 0 1) ≡ 17
  pub equal-t : void_verdict Standard (extent 3 0 1 5 5) ≡ 17
  pub above-s : void_verdict Standard (extent 3 6 5 0 1) ≡ 17
  pub above-t : void_verdict Standard (extent 3 0 1 6 5) ≡ 17
  -- one pair all ones and the other not
  pub ones-s : void_verdict Standard (extent 3 8191 8191 0 1) ≡ 17
  pub ones-t : void_verdict Standard (extent 3 0 1 8191 8191) ≡ 17
  -- the crate's reading looks at none of these
  pub crate-zero : void_verdict Crate 0 ≡ 1

pub values : Values
unfolding bits_at is_everywhere keeps_rules void_verdict extent
values = record { everywhere = refl; ordered = refl; bit-10 = refl; bit-11 = refl; bit-11-ordered = refl; equal-s = refl; equal-t = refl; above-s = refl; above-t = refl; ones-s = refl; ones-t = refl; crate-zero = refl }
