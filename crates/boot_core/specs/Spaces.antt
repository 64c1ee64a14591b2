-- What a boot makes of the nvdata record and of both spaces of the TPM. A change that would change nothing is none.
-- Source: `vb2_select_fw_slot`, `vb2api_fail` and `vb2api_enable_developer_mode` of vboot_reference (firmware/2lib/2misc.c), and its
-- roll-forward: `vb2_load_fw_preamble` (2firmware.c), `vb2api_load_kernel` (2load_kernel.c) and `vb2api_kernel_finalize` (2kernel.c).
use Rattle.std.specs.Prelude.{ℕ, ◌≤◌, min, max, nat_lt, Bool, not, bit_or, List, Option, Some, None, Result, Ok, Err, ◌==◌, ◌&&◌, if◌then◌else◌}
use Rattle.std.specs.Str.{bytes_eq}
use Rattle.record_core.specs.declared.field.NvField.TheVariants as field
use Rattle.record_core.specs.declared.space.SpaceFault.{SpaceFault}
use Rattle.record_core.specs.Field.{field_of}
use Rattle.record_core.specs.declared.nv.Ceiling.TheVariants as ceiling
use Rattle.record_core.specs.Nv.{with_field, ceiling_of}
use Rattle.record_core.specs.Space.{firmware_flags, with_firmware_flags, stored_firmware_version, stored_kernel_version}
use Rattle.record_core.specs.Space.{firmware_versions, with_firmware_versions, kernel_versions, with_kernel_versions}
use Rattle.fwsel_core.specs.Flags.{flags_after_boot}
use Rattle.fwsel_core.specs.Mode.{space_developer_mode}
use Rattle.fwsel_core.specs.declared.selection.Selection.{Selection}
use Rattle.fwsel_core.specs.Slot.{slot_number}
use Rattle.fwsel_core.specs.Selection.{trying, selected_record}

-- ---- the records that a boot leaves

-- the selected one, and developer mode is no longer to be switched off
abbrev pub booted_record : List ℕ → List ℕ
booted_record r = with_field (selected_record r) field.DisableDev 0

-- the request for a recovery is taken back
abbrev pub screened_record : List ℕ → List ℕ
screened_record r = with_field (with_field r field.RecoveryRequest 0) field.RecoverySubcode 0

-- and developer mode is not to be switched off
abbrev pub enabled_record : List ℕ → List ℕ
enabled_record r = with_field (screened_record r) field.DisableDev 0

-- developer mode is to be switched off
abbrev pub disables_dev : List ℕ → Bool
disables_dev r = not (field_of r field.DisableDev == 0)

-- the slot is on trial
abbrev pub is_trying : List ℕ → Bool
is_trying r = field_of r field.Result == trying

-- a second record after a first one, which stands by then
abbrev pub second_change : (first second : List ℕ) → Option (List ℕ)
second_change first second = if bytes_eq second first then None else Some second

-- ---- the firmware space

-- with the flags after a boot
abbrev pub booted_firmware : List ℕ → Bool → Bool → List ℕ
booted_firmware space developer disable_dev = with_firmware_flags space (flags_after_boot (firmware_flags space) developer disable_dev)

-- with developer mode on
abbrev pub enabled_firmware : List ℕ → List ℕ
enabled_firmware space = with_firmware_flags space (bit_or (firmware_flags space) space_developer_mode)

-- The greater of the stored version and the lesser of its rise and a ceiling: one below the stored version lowers nothing.
-- Source: ceilings are this project's own.
abbrev pub capped : (stored rise ceiling : ℕ) → ℕ
capped stored rise ceiling = max stored (min rise ceiling)

-- the result of a boot that came to its end
abbrev pub success : ℕ
success = 2

-- the boot before tried the same slot, and came to its end
abbrev pub has_succeeded : Selection → Bool
has_succeeded selection = (slot_number selection.last_slot == slot_number selection.slot) && (selection.last_result == success)

-- The rise of the firmware's version with a good slot: that of the slot, where it is over the stored one and the slot came to its
-- end in the boot before.
abbrev pub firmware_rise : Selection → (stored version : ℕ) → ℕ
firmware_rise selection stored version = if nat_lt stored version && has_succeeded selection then version else stored

-- the stored version of the firmware after a good slot, by the ceiling of the record
abbrev pub new_firmware_version : (nv : List ℕ) → Selection → (stored version : ℕ) → ℕ
new_firmware_version nv selection stored version = capped stored (firmware_rise selection stored version) (ceiling_of nv ceiling.Firmware)

-- the space after a good slot
abbrev pub raised_firmware : List ℕ → Bool → (nv : List ℕ) → Selection → ℕ → List ℕ
raised_firmware space developer nv selection version =
    with_firmware_versions (booted_firmware space developer (disables_dev nv)) (new_firmware_version nv selection (firmware_versions space) version)

abbrev pub space_change : List ℕ → List ℕ → Option (List ℕ)
space_change old new = if bytes_eq new old then None else Some new

-- the flags alone
abbrev pub flags_change : Result (List ℕ) SpaceFault → Bool → Bool → Option (List ℕ)
flags_change (Err fault) developer disable_dev = None
flags_change (Ok space) developer disable_dev = space_change space (booted_firmware space developer disable_dev)

-- flags and version
abbrev pub version_change : Result (List ℕ) SpaceFault → Bool → (nv : List ℕ) → Selection → ℕ → Option (List ℕ)
version_change (Err fault) developer nv selection version = None
version_change (Ok space) developer nv selection version = space_change space (raised_firmware space developer nv selection version)

-- developer mode
abbrev pub enabling_change : Result (List ℕ) SpaceFault → Option (List ℕ)
enabling_change (Err fault) = None
enabling_change (Ok space) = space_change space (enabled_firmware space)

-- the version that is stored, or none where the space has a fault
abbrev pub firmware_stored : Result (List ℕ) SpaceFault → Option ℕ
firmware_stored (Ok space) = Some (firmware_versions space)
firmware_stored (Err fault) = None

-- and after a good slot
abbrev pub firmware_stored_after : Result (List ℕ) SpaceFault → (nv : List ℕ) → Selection → ℕ → Option ℕ
firmware_stored_after (Ok space) nv selection version = Some (new_firmware_version nv selection (firmware_versions space) version)
firmware_stored_after (Err fault) nv selection version = None

-- the version that is stored after a change of the space, or after none
abbrev pub firmware_kept : Result (List ℕ) SpaceFault → Option (List ℕ) → Option ℕ
firmware_kept old (Some new) = stored_firmware_version new
firmware_kept (Ok old) None = stored_firmware_version old
firmware_kept (Err fault) None = None

-- ---- the kernel space

-- The rise of the kernel's version after one was chosen: the lowest one that the walk found to store, where it is over the stored
-- one and the slot is not on trial.
abbrev pub kernel_rise : (on_trial : Bool) → (stored lowest : ℕ) → ℕ
kernel_rise on_trial stored lowest = if nat_lt stored lowest && not on_trial then lowest else stored

-- the stored version of the kernel then, by the ceiling of the record
abbrev pub new_kernel_version : (nv : List ℕ) → (on_trial : Bool) → (stored lowest : ℕ) → ℕ
new_kernel_version nv on_trial stored lowest = capped stored (kernel_rise on_trial stored lowest) (ceiling_of nv ceiling.Kernel)

abbrev pub kernel_change : Result (List ℕ) SpaceFault → (nv : List ℕ) → (on_trial : Bool) → (lowest : ℕ) → Option (List ℕ)
kernel_change (Err fault) nv on_trial lowest = None
kernel_change (Ok space) nv on_trial lowest =
    space_change space (with_kernel_versions space (new_kernel_version nv on_trial (kernel_versions space) lowest))

abbrev pub kernel_stored : Result (List ℕ) SpaceFault → Option ℕ
kernel_stored (Ok space) = Some (kernel_versions space)
kernel_stored (Err fault) = None

abbrev pub kernel_stored_after : Result (List ℕ) SpaceFault → (nv : List ℕ) → (on_trial : Bool) → (lowest : ℕ) → Option ℕ
kernel_stored_after (Ok space) nv on_trial lowest = Some (new_kernel_version nv on_trial (kernel_versions space) lowest)
kernel_stored_after (Err fault) nv on_trial lowest = None

abbrev pub kernel_kept : Result (List ℕ) SpaceFault → Option (List ℕ) → Option ℕ
kernel_kept old (Some new) = stored_kernel_version new
kernel_kept (Ok old) None = stored_kernel_version old
kernel_kept (Err fault) None = None

-- ---- versions that do not fall

-- a version that stands is not lower, and stands
abbrev pub IsNoLower : Option ℕ → Option ℕ → Type 0
IsNoLower None now = Unit {0}
IsNoLower (Some version) None = ⊥
IsNoLower (Some version) (Some now) = version ≤ now

-- the version of the new space is no lower than that of the old one, which is good
abbrev pub RaisesVersion : Result (List ℕ) SpaceFault → List ℕ → Type 0
RaisesVersion (Err fault) new = ⊥
RaisesVersion (Ok old) new = IsNoLower (stored_firmware_version old) (stored_firmware_version new)

-- and the same of the kernel space
abbrev pub RaisesKernel : Result (List ℕ) SpaceFault → List ℕ → Type 0
RaisesKernel (Err fault) new = ⊥
RaisesKernel (Ok old) new = IsNoLower (stored_kernel_version old) (stored_kernel_version new)
