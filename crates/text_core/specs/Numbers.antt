-- How numbers are printed.
use Rattle.std.specs.Prelude.{ℕ, List, ◌++◌, codes}
use Rattle.std.specs.Int.{bytes_high_first}
use Rattle.hex.specs.Hex.{encode_lower}

-- `0x` and two lower case hexadecimal digits for each of so many bytes, the highest first
abbrev pub hex_number : ℕ → ℕ → List ℕ
hex_number size number = codes "0x" ++ encode_lower (bytes_high_first size number)
