-- The checksum CRC-32C (Castagnoli), as in RFC 3720 (B.4) and RFC 9260 (A): the remainder of the
-- bytes, each with its lowest bit first, on division by a polynomial of degree 32.
use Rattle.std.specs.Prelude.{◌≡◌, ℕ, zero, suc, ◌*◌, ◌/◌, ◌%◌, ◌^◌, ◌<◌, List, ◌∷◌, ◌++◌, bit_xor}
use Rattle.std.specs.List.{fold, AllByRecursion}

-- the polynomial 0x11EDC6F41 without its highest coefficient, with the others in reverse
abbrev pub polynomial : ℕ
polynomial = 0x82F63B78

-- the register after shifting its lowest bit out; if that was 1, the polynomial is added
unfoldable pub shifted : ℕ → ℕ
shifted register = bit_xor (register / 2) (register % 2 * polynomial)

-- the register after shifting `n` bits out
unfoldable pub shifted_by : ℕ → ℕ → ℕ
shifted_by zero register = register
shifted_by (suc n) register = shifted_by n (shifted register)

-- the register after taking in a byte
unfoldable pub with_byte : ℕ → ℕ → ℕ
with_byte register byte = shifted_by 8 (bit_xor register byte)

-- the checksum of bytes after others whose checksum is `crc`: first all bits of the register are
-- inverted, then it takes in the bytes, and finally all its bits are inverted again
unfoldable pub continued : ℕ → List ℕ → ℕ
continued crc bytes = bit_xor (fold with_byte (bit_xor crc 0xFFFFFFFF) bytes) 0xFFFFFFFF

-- the checksum of bytes
unfoldable pub crc32c : List ℕ → ℕ
crc32c bytes = continued 0 bytes

-- the checksum of bytes followed by others
abbrev pub GoesOn : Type 0
GoesOn = (bytes others : List ℕ) → continued (crc32c bytes) others ≡ crc32c (bytes ++ others)

-- changing one byte changes the checksum
abbrev pub OneByteIsNoticed : Type 0
OneByteIsNoticed = (before after : List ℕ) (byte other : ℕ)
    → AllByRecursion (λ b. b < 256) before → AllByRecursion (λ b. b < 256) after → byte < 256 → other < 256
    → crc32c (before ++ byte ∷ after) ≡ crc32c (before ++ other ∷ after) → byte ≡ other

-- the checksum of bytes is a number of 32 bits
abbrev pub IsNumberOf32Bits : Type 0
IsNumberOf32Bits = (bytes : List ℕ) → AllByRecursion (λ b. b < 256) bytes → crc32c bytes < 2 ^ 32
