-- Bytes that depend on a number, a tag and a place alone: generated keys, signatures and bodies are made of them.
-- Source: this project's own.
use Rattle.std.specs.Prelude.{ℕ, ◌+◌, ◌*◌, ◌/◌, ◌%◌, List, map}
use Rattle.std.specs.List.{range_with_len}

-- the byte at a place
abbrev pub fill_byte : ℕ → ℕ → ℕ → ℕ
fill_byte number tag i = (31 * number + 17 * tag + 7 * i + i / 256) % 256

-- so many bytes, of which the first has this place
unfoldable pub fill_from : ℕ → ℕ → ℕ → ℕ → List ℕ
fill_from number tag first count = map (fill_byte number tag) (range_with_len first count)

-- so many bytes
abbrev pub fill : ℕ → ℕ → ℕ → List ℕ
fill number tag count = fill_from number tag 0 count
