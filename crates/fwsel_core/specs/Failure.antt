-- A boot attempt that failed: what the nvdata record says of it afterwards, and whether a recovery is asked for.
-- Source: `vb2api_fail` of vboot_reference, firmware/2lib/2misc.c.
use Rattle.std.specs.Prelude.{ℕ, Bool, true, List, [], ◌∷◌, ◌==◌, ◌&&◌, if◌then◌else◌, Option, Some, None}
use Rattle.record_core.specs.declared.field.NvField.{NvField}
use Rattle.record_core.specs.declared.field.NvField.TheVariants as field
use Rattle.record_core.specs.Field.{field_of}
use Rattle.record_core.specs.Nv.{with_field}
use Rattle.fwsel_core.specs.declared.slot.Slot.{Slot}
use Rattle.fwsel_core.specs.declared.selection.Selection.{Selection}
use Rattle.fwsel_core.specs.Slot.{slot_number, other_slot}
use Rattle.fwsel_core.specs.Selection.{with_values}

-- the result of a boot that failed
abbrev pub failure : ℕ
failure = 3

-- The value of each field after the slot failed: its result, no try is left of it, and the other slot is to be tried next.
abbrev pub failed_value : Slot → List ℕ → NvField → ℕ
failed_value slot r field.Result = failure
failed_value slot r field.TryCount = 0
failed_value slot r field.TryNext = slot_number (other_slot slot)
failed_value slot r other = field_of r other

-- the failure is noted, where a slot was selected
abbrev pub noted_record : Option Selection → List ℕ → List ℕ
noted_record None r = r
noted_record (Some selection) r = with_values (failed_value selection.slot r) (field.Result ∷ field.TryCount ∷ field.TryNext ∷ []) r

-- the boot before this one tried the other slot, and failed too
abbrev pub both_failed : Selection → Bool
both_failed selection = (slot_number selection.last_slot == slot_number (other_slot selection.slot)) && (selection.last_result == failure)

-- no other slot is left to try
abbrev pub is_at_end : Option Selection → Bool
is_at_end None = true
is_at_end (Some selection) = both_failed selection

-- no request for a recovery stands
abbrev pub is_unasked : List ℕ → Bool
is_unasked r = field_of r field.RecoveryRequest == 0

-- a recovery is asked for, with its reason and subcode, unless one is already
abbrev pub asks_for_recovery : Option Selection → List ℕ → Bool
asks_for_recovery selection r = is_at_end selection && is_unasked (noted_record selection r)

abbrev pub with_request : List ℕ → (reason subcode : ℕ) → List ℕ
with_request r reason subcode = with_field (with_field r field.RecoveryRequest reason) field.RecoverySubcode subcode

-- the record after the failure
abbrev pub failed_record : Option Selection → (reason subcode : ℕ) → List ℕ → List ℕ
failed_record selection reason subcode r =
    if asks_for_recovery selection r then with_request (noted_record selection r) reason subcode else noted_record selection r
