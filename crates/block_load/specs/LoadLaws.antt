-- Sixteen bytes, word by word.
-- Assumes nothing.
use Rattle.std.specs.Prelude.{◌≡◌, List, ℕ, ◌+◌, ◌*◌, ◌^◌, ◌<◌, T, ltb, get_or}
use Rattle.std.proofs.Common.{arith, ltb→lt}
use Rattle.bits.specs.Bits.{bytes}

-- each of the sixteen is there
pub byte-in : (n k : ℕ) → n ≡ 16 → T (ltb k 16) → k < n
byte-in n k e t = rw e (ltb→lt k 16 t)

-- the number of sixteen bytes, by the words of the first eight and the last eight
abbrev word_at : List ℕ → ℕ → ℕ
word_at s i =
    get_or s i 0
    + 0x100 * get_or s (i + 1) 0
    + 0x1_0000 * get_or s (i + 2) 0
    + 0x100_0000 * get_or s (i + 3) 0
    + 0x1_0000_0000 * get_or s (i + 4) 0
    + 0x100_0000_0000 * get_or s (i + 5) 0
    + 0x1_0000_0000_0000 * get_or s (i + 6) 0
    + 0x100_0000_0000_0000 * get_or s (i + 7) 0

pub bytes-words : (s : List ℕ) (lo hi : ℕ) → lo ≡ word_at s 0 → hi ≡ word_at s 8 → hi * 2 ^ 64 + lo ≡ bytes 16 s
unfolding bytes
bytes-words s lo hi p q = rw (p, q) (omega arith)
