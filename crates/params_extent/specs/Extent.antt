-- The standard's rules on the extent of a void block, and the answer of a void block by the reading.
-- Written from the ASTC chapter's section "Void-Extent Blocks".
-- Assumes nothing.
use Rattle.std.specs.Prelude.{Bool, cond, ◌&&◌, ◌||◌, ℕ, ◌+◌, ◌-◌, ◌*◌, ◌^◌, eqb, ltb}
use Rattle.bits.specs.Bits.{bits_at}
use Rattle.answers.specs.Answers.{void_extent}
use Rattle.options.specs.declared.Reading.{Reading}
use Rattle.options.specs.declared.Reading.TheVariants.{Crate, Standard}

-- the answer of a void block whose extent breaks a rule
abbrev pub bad_extent : ℕ
bad_extent = 17

-- the extent of a void block with the two bits below it: bits 10..63
abbrev pub extent_in : ℕ → ℕ
extent_in v = bits_at v 10 54

-- number k of the four of the extent x, of thirteen bits each: low s, high s, low t, high t. The two bits below them are in x too
abbrev pub coordinate : ℕ → ℕ → ℕ
coordinate x k = bits_at x (2 + 13 * k) 13

-- all four are all ones: the block has its colour wherever a texture is read
unfoldable pub is_everywhere : ℕ → Bool
is_everywhere x = eqb (bits_at x 2 52) (2 ^ 52 - 1)

-- the two bits below are ones, and unless the colour is everywhere each low coordinate is below its high one
unfoldable pub keeps_rules : ℕ → Bool
keeps_rules x = eqb (bits_at x 0 2) 3 && (is_everywhere x || (ltb (coordinate x 0) (coordinate x 1) && ltb (coordinate x 2) (coordinate x 3)))

-- the answer of a void block
unfoldable pub void_verdict : Reading → ℕ → ℕ
void_verdict Crate x = void_extent
void_verdict Standard x = cond (keeps_rules x) void_extent bad_extent
