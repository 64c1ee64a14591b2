-- The two records of a plan have one form: what a boot makes of a record keeps its length.
use Rattle.std.proofs.Common.{◌≡◌, ℕ, Bool, true, false, List, [], ◌∷◌, length, Option, Some, None, refl, ap, ◌∙◌}
use Rattle.std.specs.Prelude.{◌==◌, IfSome, if◌then◌else◌}
use Rattle.std.specs.Str.{bytes_eq}
use Rattle.record_core.specs.declared.field.NvField.{NvField}
use Rattle.record_core.specs.declared.field.NvField.TheVariants as field
use Rattle.record_core.specs.declared.nv.NvForm.TheVariants as form
use Rattle.record_core.specs.Nv.{form_of}
use Rattle.record_core.proofs.Records.{length-with_field}
use Rattle.fwsel_core.specs.declared.selection.Selection.{Selection}
use Rattle.fwsel_core.specs.Selection.{with_values, selection_of}
use Rattle.fwsel_core.specs.Failure.{asks_for_recovery, noted_record, with_request, failed_record, failed_value}
use Rattle.chain_core.specs.declared.slot_fault.SlotOk.{SlotOk}
use Rattle.board_core.specs.declared.device.Drive.{Drive}
use Rattle.board_core.specs.declared.device.Drive.TheVariants.{Disk, Stick}
use Rattle.walk_core.specs.declared.walked.Kernel.{Kernel}
use Rattle.walk_core.specs.declared.drive.Seen.{Seen}
use Rattle.walk_core.specs.declared.drive.Seen.TheVariants as seen
use Rattle.walk_core.specs.Seen.{kernel_of}
use Rattle.boot_core.specs.declared.found.Found.{Found}
use Rattle.nvstore_core.specs.Pages.{is_standing}
use Rattle.boot_core.specs.Spaces.{booted_record}
use Rattle.boot_core.specs.Plan.{IsOfOneForm, rebooted_record, stick_plan_of, failed_plan_of, disk_plan_of, drive_plan_of, missing_subcode, reason_no_table, reason_no_kernel}

length-with_values : (value : NvField → ℕ) (fields : List NvField) (r : List ℕ) → length (with_values value fields r) ≡ length r
length-with_values value [] r = refl
length-with_values value (f ∷ fs) r = length-with_values value fs _ ∙ length-with_field r f (value f)

length-noted : (selection : Option Selection) (r : List ℕ) → length (noted_record selection r) ≡ length r
length-noted None r = refl
length-noted (Some selection) r = length-with_values (failed_value selection.slot r) (field.Result ∷ field.TryCount ∷ field.TryNext ∷ []) r

failed_by : (asked : Bool) (noted : List ℕ) (reason subcode : ℕ) → length (if asked then with_request noted reason subcode else noted) ≡ length noted
failed_by true noted reason subcode = length-with_field _ field.RecoverySubcode subcode ∙ length-with_field noted field.RecoveryRequest reason
failed_by false noted reason subcode = refl

length-failed : (selection : Option Selection) (reason subcode : ℕ) (r : List ℕ) → length (failed_record selection reason subcode r) ≡ length r
length-failed selection reason subcode r = failed_by (asks_for_recovery selection r) (noted_record selection r) reason subcode ∙ length-noted selection r

form_of-failed : (selection : Option Selection) (reason subcode : ℕ) (r : List ℕ) → form_of (failed_record selection reason subcode r) ≡ form_of r
form_of-failed selection reason subcode r = ap (λ (n : ℕ). if n == 64 then form.V2 else form.V1) (length-failed selection reason subcode r)

-- two records that are stored have one form, where these have
both_by : (same standing : Bool) (first second : List ℕ) → form_of second ≡ form_of first
    → IfSome (if same then None else Some second) (λ s. IfSome (if standing then None else Some first) (λ r. form_of s ≡ form_of r))
both_by true standing first second alike = tt
both_by false true first second alike = tt
both_by false false first second alike = alike

one_form_of_failed : (found : Found) (developer : Bool) (ok : SlotOk) (reason : ℕ) (table : Bool) → IsOfOneForm (failed_plan_of found developer ok reason table)
one_form_of_failed found developer ok reason table =
    let first = booted_record found.state.nv in
    let second = rebooted_record found reason 0 in
    both_by (bytes_eq second first) (is_standing found.state first) first second (form_of-failed (Some (selection_of found.state.nv)) reason 0 first)

one_form_of_stick : (found : Found) (developer : Bool) (ok : SlotOk) (subcode : ℕ) (kernel : Option Kernel) → IsOfOneForm (stick_plan_of found developer ok subcode kernel)
one_form_of_stick found developer ok subcode (Some kernel) = tt
one_form_of_stick found developer ok subcode None = tt

one_form_of_disk : (found : Found) (developer : Bool) (ok : SlotOk) (chosen : Option Kernel) (lowest : ℕ) (changed : Bool) → IsOfOneForm (disk_plan_of found developer ok chosen lowest changed)
one_form_of_disk found developer ok (Some kernel) lowest changed = tt
one_form_of_disk found developer ok None lowest changed = one_form_of_failed found developer ok reason_no_kernel changed

pub one_form_of_drive : (found : Found) (developer : Bool) (ok : SlotOk) (drive : Drive) (what : Seen) → IsOfOneForm (drive_plan_of found developer ok drive what)
one_form_of_drive found developer ok Stick what = one_form_of_stick found developer ok (missing_subcode what) (kernel_of what)
one_form_of_drive found developer ok Disk seen.NoTable = one_form_of_failed found developer ok reason_no_table false
one_form_of_drive found developer ok Disk (seen.Table walked changed) = one_form_of_disk found developer ok walked.chosen walked.lowest changed
