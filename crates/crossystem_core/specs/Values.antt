-- The texts of values. The words are those of the manual page crossystem(1) of ChromiumOS where it has them; the rest is this
-- project's own.
use Rattle.std.specs.Prelude.{ℕ, zero, suc, List, drop, length, codes, decimal, ◌==◌, if◌then◌else◌, Option, Some, None, Result, Ok, Err}
use Rattle.std.specs.Str.{bytes_eq}
use Rattle.std.specs.Int.{w32, from_be_bytes}
use Rattle.hex.specs.Hex.{decode_sized}
use Rattle.hex.specs.declared.error.FromHexError.{FromHexError}
use Rattle.text_core.specs.Numbers.{hex_number}
use Rattle.crossystem_core.specs.declared.key.Form.{Form}
use Rattle.crossystem_core.specs.declared.key.Form.TheVariants as form

-- ---- fields

abbrev pub outcome_word : ℕ → List ℕ
outcome_word value =
    if value == 0 then codes "unknown" else if value == 1 then codes "trying" else if value == 2 then codes "success" else codes "failure"

abbrev pub slot_letter : ℕ → List ℕ
slot_letter value = if value == 0 then codes "A" else codes "B"

-- the number of a drive that has no name
abbrev pub drive_word : ℕ → List ℕ
drive_word value = if value == 0 then codes "disk" else if value == 1 then codes "usb" else decimal value

unfoldable pub value_text : Form → ℕ → List ℕ
value_text form.Number value = decimal value
value_text form.Outcome value = outcome_word value
value_text form.Slot value = slot_letter value
value_text form.Drive value = drive_word value

abbrev pub first_some : Option ℕ → Option ℕ → Option ℕ
first_some (Some value) other = Some value
first_some None other = other

-- a value, where this is its text
abbrev pub value_with : Form → ℕ → List ℕ → Option ℕ
value_with form value text = if bytes_eq (value_text form value) text then Some value else None

-- the least value under a count whose text this is
unfoldable pub value_below : Form → ℕ → List ℕ → Option ℕ
value_below form zero text = None
value_below form (suc count) text = first_some (value_below form count text) (value_with form count text)

-- ---- versions

abbrev pub version_text : Option ℕ → List ℕ
version_text (Some version) = hex_number 4 version
version_text None = codes "(error)"

-- a version, where this is its text
abbrev pub whose_text : ℕ → List ℕ → Option ℕ
whose_text version text = if bytes_eq (hex_number 4 version) text then Some version else None

abbrev pub version_read : Result (List ℕ) FromHexError → List ℕ → Option ℕ
version_read (Ok bytes) text = whose_text (from_be_bytes w32 bytes) text
version_read (Err e) text = None

-- The version that a text writes, in the form in which versions are shown and in no other: what stands behind the first two
-- characters is read as four bytes, the highest first, and shows as this text again.
abbrev pub version_in : List ℕ → Option ℕ
version_in text = if length text == 10 then version_read (decode_sized (drop 2 text) 4) text else None
