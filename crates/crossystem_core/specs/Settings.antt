-- What a set does to a record.
use Rattle.std.specs.Prelude.{◌≡◌, ℕ, ◌≤◌, List, Option, Some, None, Result, Ok, Err}
use Rattle.record_core.specs.Field.{greatest_value, field_of}
use Rattle.record_core.specs.Nv.{with_field, with_ceiling, up_record, ceiling_of}
use Rattle.crossystem_core.specs.declared.key.Key.{Key}
use Rattle.crossystem_core.specs.declared.key.Reads.{Reads}
use Rattle.crossystem_core.specs.declared.key.Reads.TheVariants as reads
use Rattle.crossystem_core.specs.declared.setting.Setting.{Setting}
use Rattle.crossystem_core.specs.declared.setting.Setting.TheVariants.{Field, Ceiling}
use Rattle.crossystem_core.specs.declared.fault.SetFault.{SetFault}
use Rattle.crossystem_core.specs.declared.fault.SetFault.TheVariants as fault
use Rattle.crossystem_core.specs.Keys.{row_of}
use Rattle.crossystem_core.specs.Values.{value_below, version_in}

-- a record with it: a ceiling brings the record into form V2
abbrev pub with_setting : List ℕ → Setting → List ℕ
with_setting r (Field field value) = with_field r field value
with_setting r (Ceiling which value) = with_ceiling (up_record r) which value

-- the record has it
abbrev pub Has : List ℕ → Setting → Type 0
Has r (Field field value) = field_of r field ≡ value
Has r (Ceiling which value) = ceiling_of r which ≡ value

-- the value has room in its field
abbrev pub FitsField : Setting → Type 0
FitsField (Field field value) = value ≤ greatest_value field
FitsField (Ceiling which value) = Unit {0}

-- the setting of a value that was read
abbrev pub taken : Option ℕ → (ℕ → Setting) → Result Setting SetFault
taken (Some value) setting = Ok (setting value)
taken None setting = Err fault.BadValue

-- A field takes the texts of its first values, and a ceiling that of a version; all else is read only.
abbrev pub setting_by : Reads → List ℕ → Result Setting SetFault
setting_by (reads.Field field form (Some count)) text = taken (value_below form count text) (λ value. Field field value)
setting_by (reads.Ceiling which) text = taken (version_in text) (λ value. Ceiling which value)
setting_by other text = Err fault.ReadOnly

unfoldable pub setting_in : Key → List ℕ → Result Setting SetFault
setting_in key text = setting_by (row_of key).reads text

abbrev pub set_answer : Result Setting SetFault → Result Unit SetFault
set_answer (Ok setting) = Ok tt
set_answer (Err fault) = Err fault

abbrev pub set_record : List ℕ → Result Setting SetFault → List ℕ
set_record r (Ok setting) = with_setting r setting
set_record r (Err fault) = r
