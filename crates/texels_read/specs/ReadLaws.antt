-- A lane holds the sample that was put, and a texel's samples are those of its four lanes.
-- Assumes nothing.
use Rattle.std.specs.Prelude.{◌≡◌, List, ℕ, ◌+◌, ◌-◌, ◌%◌, ◌≤◌, ◌<◌, get_or}
use Rattle.std.proofs.Common.{sym, ap, ◌∙◌, zero-add, arith, lt-ltb, le-ltb}
use Rattle.channels.specs.Channels.{finite}
use Rattle.channels.specs.declared.Sample.{Sample}
use Rattle.channels.specs.declared.Sample.TheVariants.{Byte, Half}
use Rattle.texels_read.specs.Read.{sample_in, texel_in}

-- ---- a lane
pub lane_byte : (x : ℕ) → x < 32768 → Byte (x % 256) ≡ sample_in x
unfolding sample_in
lane_byte x h = rw (lt-ltb x 32768 h)

pub lane-half : (x h : ℕ) → 32768 ≤ x → h ≡ finite (x - 32768) → Half h ≡ sample_in x
unfolding sample_in
lane-half x h l e = rw (le-ltb x 32768 l, e)

-- a byte, or a half with no sign, is read as it was put
pub read_byte : (b : ℕ) → b ≤ 255 → sample_in b ≡ Byte b
read_byte b h =
    let e : b % 256 ≡ b = omega arith in
    sym (lane_byte b (omega arith)) ∙ ap Byte e

pub read-half : (h : ℕ) → sample_in (32768 + h) ≡ Half (finite h)
read-half h =
    let e : 32768 + h - 32768 ≡ h = omega arith in
    sym (lane-half (32768 + h) (finite h) (omega arith) (rw e))

-- the four lanes of a texel
pub texel-is : (lanes : List ℕ) (i : ℕ) {r g b a : Sample} → r ≡ sample_in (get_or lanes i 0) → g ≡ sample_in (get_or lanes (144 + i) 0) → b ≡ sample_in (get_or lanes (288 + i) 0) → a ≡ sample_in (get_or lanes (432 + i) 0)
    → record { r = r; g = g; b = b; a = a } ≡ texel_in lanes i
texel-is lanes i er eg eb ea = rw (er, eg, eb, ea, zero-add i)
