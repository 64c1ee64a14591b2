-- How bytes are shown, and how a line ends.
use Rattle.std.specs.Prelude.{ℕ, nat_le, ◌&&◌, ◌==◌, if◌then◌else◌, List, [], ◌∷◌, map}
use Rattle.std.specs.List.{before_first}

-- a byte is shown as it is where it is a printable character of ASCII, and else as `?`
abbrev pub shown_byte : ℕ → ℕ
shown_byte byte = if nat_le 0x20 byte && nat_le byte 0x7e then byte else 63

-- what a field of bytes shows: it ends before the first NUL
abbrev pub shown_field : List ℕ → List ℕ
shown_field field = map shown_byte (before_first (λ byte. byte == 0) field)

-- a line ends with LF
abbrev pub line_end : List ℕ
line_end = 10 ∷ []
