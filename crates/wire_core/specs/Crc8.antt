-- CRC-8 as the remainder of a division over bits.
-- A polynomial over bits is the list of its coefficients, each 0 or 1, that of the highest power first.
-- Source: `vb2_crc8` of vboot_reference (firmware/2lib/2crc8.c): polynomial x^8 + x^2 + x + 1, initial value 0, the
-- most significant bit first, no final xor. Its check value for the text `123456789` is 0xf4.
use Rattle.std.specs.Prelude.{ℕ, zero, suc, ◌+◌, ◌*◌, ◌%◌, List, [], ◌∷◌, ◌++◌, length, replicate, ◌==◌, if◌then◌else◌}
use Rattle.std.specs.Int.{bit_at}
use Rattle.std.specs.List.{flat_map}

-- the bits of a byte, the most significant first
abbrev pub byte_bits : ℕ → List ℕ
byte_bits byte =
    bit_at byte 7 ∷ bit_at byte 6 ∷ bit_at byte 5 ∷ bit_at byte 4 ∷ bit_at byte 3 ∷ bit_at byte 2 ∷ bit_at byte 1 ∷ bit_at byte 0 ∷ []

-- the bits of some bytes, one byte after the other
abbrev pub bits_of : List ℕ → List ℕ
bits_of bytes = flat_map byte_bits bytes

-- the number that so many bits before these and these write
abbrev pub number_from : ℕ → List ℕ → ℕ
number_from front [] = front
number_from front (bit ∷ bits) = number_from (2 * front + bit) bits

-- the number that these bits write, the most significant first
abbrev pub number_of_bits : List ℕ → ℕ
number_of_bits bits = number_from 0 bits

-- a polynomial less another one, both from their highest coefficient on. Over bits a difference is a sum modulo 2.
abbrev pub less : List ℕ → List ℕ → List ℕ
less bits [] = bits
less [] (d ∷ ds) = []
less (b ∷ bs) (d ∷ ds) = (b + d) % 2 ∷ less bs ds

-- What long division leaves after so many steps. The divisor is x^n and these n coefficients below it. Each step brings
-- the highest coefficient to 0, by taking the divisor away where it is 1, and drops it.
unfoldable pub remainder : List ℕ → ℕ → List ℕ → List ℕ
remainder divisor zero bits = bits
remainder divisor (suc steps) [] = []
remainder divisor (suc steps) (b ∷ bs) = remainder divisor steps (if b == 0 then bs else less bs divisor)

-- x^2 + x + 1, below x^8
abbrev pub crc8_divisor : List ℕ
crc8_divisor = 0 ∷ 0 ∷ 0 ∷ 0 ∷ 0 ∷ 1 ∷ 1 ∷ 1 ∷ []

-- the remainder of the bytes' bits, followed by eight zero bits, on division by x^8 + x^2 + x + 1
unfoldable pub crc8_of : List ℕ → ℕ
crc8_of bytes = number_of_bits (remainder crc8_divisor (8 * length bytes) (bits_of bytes ++ replicate 8 0))
