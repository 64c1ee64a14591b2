-- Laws over the texts of values.
use Rattle.std.specs.Prelude.{◌≡◌, ℕ, ◌<◌, ◌^◌, Some}
use Rattle.text_core.specs.Numbers.{hex_number}
use Rattle.crossystem_core.specs.declared.key.Form.{Form}
use Rattle.crossystem_core.specs.Values.{value_text, value_below, version_in}

-- the text of each value under a count is taken, as a value that has this text
abbrev pub TakesValues : Type 0
TakesValues =
    (form : Form) (count value : ℕ) → value < count
    → (taken : ℕ) × (value_below form count (value_text form value) ≡ Some taken) × (value_text form taken ≡ value_text form value)

-- a version is taken in the form in which it is shown
abbrev pub TakesVersions : Type 0
TakesVersions = (version : ℕ) → version < 2 ^ 32 → version_in (hex_number 4 version) ≡ Some version
