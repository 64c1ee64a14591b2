-- The register of a CRC-32: 32 bits, from which one goes out for each bit that comes in.
use Rattle.std.specs.Prelude.{ℕ, zero, suc, ◌/◌, ◌%◌, ◌==◌, if◌then◌else◌}
use Rattle.std.specs.Int.RustNames.{bit_xor}

-- the register after a zero bit: where a 1 goes out, the polynomial is taken away
abbrev pub shifted : ℕ → ℕ
shifted crc = if crc % 2 == 0 then crc / 2 else bit_xor (crc / 2) 3988292384

-- the register after so many zero bits
unfoldable pub shifts : ℕ → ℕ → ℕ
shifts zero crc = crc
shifts (suc count) crc = shifts count (shifted crc)

-- the register after the bits of a byte
abbrev pub after_byte : ℕ → ℕ → ℕ
after_byte crc byte = shifts 8 (bit_xor crc (byte % 256))
