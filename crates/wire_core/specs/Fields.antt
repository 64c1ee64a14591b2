-- Little-endian numbers in a list of bytes.
-- Source: the layouts of vb2, of the flash map and of GPT, which are all little-endian.
use Rattle.std.specs.Prelude.{ℕ, ◌+◌, List, ◌++◌, take, drop}
use Rattle.byteorder.specs.Endian.{little_number, little_bytes}

-- the number in so many bytes from a place
abbrev pub number_at : ℕ → List ℕ → ℕ → ℕ
number_at size bytes at = little_number size (drop at bytes)

-- the bytes with a number in so many of them from a place
abbrev pub with_number : ℕ → List ℕ → ℕ → ℕ → List ℕ
with_number size bytes at value = take at bytes ++ little_bytes size value ++ drop (at + size) bytes
