-- The keys of the tool: name, what the key reads, and what a set takes.
-- Source: the manual page crossystem(1) of ChromiumOS, and host/lib/crossystem.c of vboot_reference, of whose keys these are some. The
-- ceilings, and what a set takes, are this project's own.
use Rattle.std.specs.Prelude.{ℕ, ◌+◌, ◌≤◌, Bool, List, [], ◌∷◌, codes, Option, Some, None}
use Rattle.std.specs.List.{find}
use Rattle.std.specs.Str.{bytes_eq}
use Rattle.record_core.specs.declared.field.NvField.TheVariants as field
use Rattle.record_core.specs.declared.nv.Ceiling.TheVariants as ceiling
use Rattle.record_core.specs.Field.{greatest_value}
use Rattle.crossystem_core.specs.declared.key.Key.{Key}
use Rattle.crossystem_core.specs.declared.key.Key.TheVariants as key
use Rattle.crossystem_core.specs.declared.key.Form.TheVariants.{Number, Outcome, Slot, Drive}
use Rattle.crossystem_core.specs.declared.key.Reads.{Reads}
use Rattle.crossystem_core.specs.declared.key.Reads.TheVariants.{Field, Ceiling, FirmwareVersion, KernelVersion, Hwid}

pub record KeyRow : Type 0 where
  pub name : List ℕ
  pub reads : Reads

-- A field is shown in a form, and a set takes the texts of its first so many values, or nothing where none is said.
abbrev pub row_of : Key → KeyRow
row_of key.DevBootSignedOnly = record { name = codes "dev_boot_signed_only"; reads = Field field.SignedOnly Number (Some 2) }
row_of key.DevBootUsb = record { name = codes "dev_boot_usb"; reads = Field field.ExternalBoot Number (Some 2) }
row_of key.DevDefaultBoot = record { name = codes "dev_default_boot"; reads = Field field.DefaultBoot Drive (Some 2) }
row_of key.DisableDevRequest = record { name = codes "disable_dev_request"; reads = Field field.DisableDev Number (Some 2) }
row_of key.FwCeiling = record { name = codes "fw_ceiling"; reads = Ceiling ceiling.Firmware }
row_of key.FwPrevResult = record { name = codes "fw_prev_result"; reads = Field field.PrevResult Outcome None }
row_of key.FwPrevTried = record { name = codes "fw_prev_tried"; reads = Field field.PrevTried Slot None }
row_of key.FwResult = record { name = codes "fw_result"; reads = Field field.Result Outcome (Some 4) }
row_of key.FwTried = record { name = codes "fw_tried"; reads = Field field.Tried Slot None }
row_of key.FwTryCount = record { name = codes "fw_try_count"; reads = Field field.TryCount Number (Some 16) }
row_of key.FwTryNext = record { name = codes "fw_try_next"; reads = Field field.TryNext Slot (Some 2) }
row_of key.Hwid = record { name = codes "hwid"; reads = Hwid }
row_of key.KernelCeiling = record { name = codes "kernel_ceiling"; reads = Ceiling ceiling.Kernel }
row_of key.LocIdx = record { name = codes "loc_idx"; reads = Field field.Localization Number (Some 256) }
row_of key.NvramCleared = record { name = codes "nvram_cleared"; reads = Field field.KernelReset Number (Some 1) }
row_of key.RecoveryRequest = record { name = codes "recovery_request"; reads = Field field.RecoveryRequest Number (Some 256) }
row_of key.RecoverySubcode = record { name = codes "recovery_subcode"; reads = Field field.RecoverySubcode Number (Some 256) }
row_of key.TpmFwver = record { name = codes "tpm_fwver"; reads = FirmwareVersion }
row_of key.TpmKernver = record { name = codes "tpm_kernver"; reads = KernelVersion }

-- the order in which they are listed
abbrev pub all_keys : List Key
all_keys =
    key.DevBootSignedOnly ∷ key.DevBootUsb ∷ key.DevDefaultBoot ∷ key.DisableDevRequest ∷ key.FwCeiling ∷ key.FwPrevResult
    ∷ key.FwPrevTried ∷ key.FwResult ∷ key.FwTried ∷ key.FwTryCount ∷ key.FwTryNext ∷ key.Hwid ∷ key.KernelCeiling ∷ key.LocIdx
    ∷ key.NvramCleared ∷ key.RecoveryRequest ∷ key.RecoverySubcode ∷ key.TpmFwver ∷ key.TpmKernver ∷ []

abbrev pub is_named : List ℕ → Key → Bool
is_named name key = bytes_eq (row_of key).name name

-- the key of this name, or none
unfoldable pub key_named : List ℕ → Option Key
key_named name = find (is_named name) all_keys

-- each value that a set takes fits into its field
abbrev pub IsFitting : Reads → Type 0
IsFitting (Field field form (Some count)) = count ≤ greatest_value field + 1
IsFitting other = Unit {0}
