-- Selection of a firmware slot, as a table over the decoded fields of the nvdata record.
-- Source: `vb2_select_fw_slot` of vboot_reference, firmware/2lib/2misc.c.
use Rattle.std.specs.Prelude.{ℕ, ◌-◌, Bool, List, [], ◌∷◌, ◌==◌, ◌&&◌, nat_lt, if◌then◌else◌}
use Rattle.record_core.specs.declared.field.NvField.{NvField}
use Rattle.record_core.specs.declared.field.NvField.TheVariants as field
use Rattle.record_core.specs.Field.{field_of}
use Rattle.record_core.specs.Nv.{with_field}
use Rattle.fwsel_core.specs.declared.slot.Slot.{Slot}
use Rattle.fwsel_core.specs.declared.selection.Selection.{Selection}
use Rattle.fwsel_core.specs.Slot.{slot_of, slot_number, other_slot}

-- the results of a boot that selection speaks of
abbrev pub unknown : ℕ
unknown = 0

abbrev pub trying : ℕ
trying = 1

-- the last boot tried the slot that is to be tried next, it did not come to an end, and no try is left
abbrev pub has_run_out : List ℕ → Bool
has_run_out r =
    (field_of r field.Result == trying) && (field_of r field.Tried == field_of r field.TryNext) && (field_of r field.TryCount == 0)

-- the slot to try next, but the other one where its tries have run out
abbrev pub slot_to_try : Bool → ℕ → Slot
slot_to_try run_out next = if run_out then other_slot (slot_of next) else slot_of next

abbrev pub selected_slot : List ℕ → Slot
selected_slot r = slot_to_try (has_run_out r) (field_of r field.TryNext)

-- The value of each field after the selection: what was last tried and its result move to the previous ones, one try is
-- used where any is left, and the slot is the one that is tried now and to be tried next.
abbrev pub selected_value : List ℕ → NvField → ℕ
selected_value r field.PrevTried = field_of r field.Tried
selected_value r field.PrevResult = field_of r field.Result
selected_value r field.Result = if nat_lt 0 (field_of r field.TryCount) then trying else unknown
selected_value r field.TryCount = field_of r field.TryCount - 1
selected_value r field.TryNext = slot_number (selected_slot r)
selected_value r field.Tried = slot_number (selected_slot r)
selected_value r other = field_of r other

-- a record with each of these fields at a value
abbrev pub with_values : (NvField → ℕ) → List NvField → List ℕ → List ℕ
with_values value [] r = r
with_values value (f ∷ fs) r = with_values value fs (with_field r f (value f))

-- the record after the selection
abbrev pub selected_record : List ℕ → List ℕ
selected_record r =
    with_values (selected_value r) (field.PrevTried ∷ field.PrevResult ∷ field.Result ∷ field.TryCount ∷ field.TryNext ∷ field.Tried ∷ []) r

-- what the selection answers
abbrev pub selection_of : List ℕ → Selection
selection_of r = record { slot = selected_slot r; last_slot = slot_of (field_of r field.Tried); last_result = field_of r field.Result }
