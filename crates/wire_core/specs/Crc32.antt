-- CRC-32 as the reflected remainder of a division over bits.
-- A polynomial over bits is the list of its coefficients, each 0 or 1, that of the highest power first.
-- Source: ISO 3309 and ITU-T V.42, which section 5.3 of the UEFI specification takes for its partition table: polynomial
-- 0x04c11db7, the least significant bit of each byte first, initial value all ones, and a final complement. Its check value
-- for the text `123456789` is 0xcbf43926.
use Rattle.std.specs.Prelude.{ℕ, zero, suc, ◌+◌, ◌*◌, ◌/◌, ◌%◌, List, [], ◌∷◌, ◌++◌, length, replicate}
use Rattle.std.specs.List.{flat_map}
use Rattle.wire_core.specs.Crc8.{less, remainder}

-- so many bits of a number, the least significant first
unfoldable pub low_bits : ℕ → ℕ → List ℕ
low_bits zero number = []
low_bits (suc count) number = number % 2 ∷ low_bits count (number / 2)

-- the number that these bits write, the least significant first
abbrev pub number_of_low_bits : List ℕ → ℕ
number_of_low_bits [] = 0
number_of_low_bits (bit ∷ bits) = bit + 2 * number_of_low_bits bits

-- the bits of some bytes, one byte after the other
abbrev pub low_bits_of : List ℕ → List ℕ
low_bits_of bytes = flat_map (low_bits 8) bytes

-- x^26 + x^23 + x^22 + x^16 + x^12 + x^11 + x^10 + x^8 + x^7 + x^5 + x^4 + x^2 + x + 1, below x^32
unfoldable pub crc32_divisor : List ℕ
crc32_divisor =
    0 ∷ 0 ∷ 0 ∷ 0 ∷ 0 ∷ 1 ∷ 0 ∷ 0 ∷ 1 ∷ 1 ∷ 0 ∷ 0 ∷ 0 ∷ 0 ∷ 0 ∷ 1
    ∷ 0 ∷ 0 ∷ 0 ∷ 1 ∷ 1 ∷ 1 ∷ 0 ∷ 1 ∷ 1 ∷ 0 ∷ 1 ∷ 1 ∷ 0 ∷ 1 ∷ 1 ∷ 1 ∷ []

-- 32 bits, each 1
abbrev pub all_ones : List ℕ
all_ones = replicate 32 1

-- The remainder of the bytes' bits, followed by 32 zero bits, on division by x^32 and that. The first 32 bits are
-- complemented before it, and so is the remainder. Its highest coefficient is the least significant bit.
unfoldable pub crc32_of : List ℕ → ℕ
crc32_of bytes =
    number_of_low_bits (less (remainder crc32_divisor (8 * length bytes) (less (low_bits_of bytes ++ replicate 32 0) all_ones)) all_ones)
