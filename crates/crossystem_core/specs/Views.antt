-- The values of keys, out of what a machine keeps.
use Rattle.std.specs.Prelude.{ℕ, List, [], codes, Option, Some, None}
use Rattle.record_core.specs.Field.{field_of}
use Rattle.record_core.specs.Nv.{ceiling_of}
use Rattle.text_core.specs.Numbers.{hex_number}
use Rattle.text_core.specs.Shown.{shown_field}
use Rattle.crossystem_core.specs.declared.key.Key.{Key}
use Rattle.crossystem_core.specs.declared.key.Reads.{Reads}
use Rattle.crossystem_core.specs.declared.key.Reads.TheVariants.{Field, Ceiling, FirmwareVersion, KernelVersion, Hwid}
use Rattle.crossystem_core.specs.declared.showing.CrossView.{CrossView}
use Rattle.crossystem_core.specs.Keys.{row_of}
use Rattle.crossystem_core.specs.Values.{value_text, version_text}

-- what a HWID shows
abbrev pub hwid_text : Option (List ℕ) → List ℕ
hwid_text (Some hwid) = shown_field hwid
hwid_text None = codes "(error)"

-- what is read of a record, and nothing where the key reads something else
abbrev pub record_text : List ℕ → Reads → List ℕ
record_text r (Field field form count) = value_text form (field_of r field)
record_text r (Ceiling which) = hex_number 4 (ceiling_of r which)
record_text r other = []

abbrev pub text_by : CrossView → Reads → List ℕ
text_by view (Field field form count) = record_text view.state.nv (Field field form count)
text_by view (Ceiling which) = record_text view.state.nv (Ceiling which)
text_by view FirmwareVersion = version_text view.firmware
text_by view KernelVersion = version_text view.kernel
text_by view Hwid = hwid_text view.hwid

-- the text of a key's value
unfoldable pub key_text : CrossView → Key → List ℕ
key_text view key = text_by view (row_of key).reads
