-- The mode of a boot, as a table over decoded facts: the first line that applies gives the mode.
-- Source: vboot_reference, firmware/2lib/2misc.c (`vb2_check_recovery`, `vb2_check_dev_switch`) and the names in
-- firmware/2lib/include/2recovery_reasons.h, 2gbb_flags.h and 2secdata_struct.h. The numbers of the reasons and the order
-- of the lines are this project's own.
use Rattle.std.specs.Prelude.{ℕ, Bool, IsTrue, List, [], ◌∷◌, ◌==◌, ◌&&◌, ◌||◌, not, if◌then◌else◌, bit_and, Option, Some, None, Result, Ok, Err}
use Rattle.record_core.specs.declared.field.NvField.TheVariants as field
use Rattle.record_core.specs.Field.{field_of}
use Rattle.fwsel_core.specs.declared.boot_mode.Mode.{Mode}
use Rattle.fwsel_core.specs.declared.boot_mode.Mode.TheVariants.{Normal, Developer, Manual, Broken}
use Rattle.fwsel_core.specs.declared.boot_mode.ModeFacts.{ModeFacts}

-- ---- reasons for a recovery

-- by hand: shown where such a recovery finds nothing to boot
abbrev pub reason_manual : ℕ
reason_manual = 2

abbrev pub reason_gbb : ℕ
reason_gbb = 10

abbrev pub reason_firmware_space : ℕ
reason_firmware_space = 11

abbrev pub reason_kernel_space : ℕ
reason_kernel_space = 12

-- ---- flags

-- of the GBB: the developer switch is on
abbrev pub gbb_developer_switch : ℕ
gbb_developer_switch = 0x08

-- of the GBB: recovery by hand
abbrev pub gbb_manual_recovery : ℕ
gbb_manual_recovery = 0x4000

-- of the firmware space: developer mode
abbrev pub space_developer_mode : ℕ
space_developer_mode = 0x02

-- of the firmware space: the last boot was a developer's
abbrev pub space_last_boot_developer : ℕ
space_last_boot_developer = 0x01

abbrev pub has_flag : ℕ → ℕ → Bool
has_flag flags flag = not (bit_and flags flag == 0)

-- no flag is set where these are not flags but a fault
abbrev pub flags_of : Result ℕ ℕ → ℕ
flags_of (Ok flags) = flags
flags_of (Err fault) = 0

abbrev pub fault_of : Result ℕ ℕ → Option ℕ
fault_of (Ok flags) = None
fault_of (Err fault) = Some fault

-- ---- developer mode

-- Developer mode is on: the firmware space has no fault and its flag is set and nvdata does not ask to switch it off, or
-- the GBB has the switch on.
abbrev pub is_developer_on : ModeFacts → Bool
is_developer_on facts =
    (has_flag (flags_of facts.firmware) space_developer_mode && (field_of facts.nv field.DisableDev == 0))
    || has_flag (flags_of facts.gbb) gbb_developer_switch

abbrev pub IsDeveloperOn : ModeFacts → Type 0
IsDeveloperOn facts = IsTrue (is_developer_on facts)

-- ---- the table

-- a line that applies where there is a fault, with the fault's number as the subcode
abbrev pub broken_where : ℕ → Option ℕ → Option Mode
broken_where reason None = None
broken_where reason (Some fault) = Some (Broken reason fault)

-- a line that applies where its condition holds
abbrev pub mode_where : Bool → Mode → Option Mode
mode_where condition mode = if condition then Some mode else None

-- the mode of the first line that applies, or the last one
abbrev pub first_mode : List (Option Mode) → Mode → Mode
first_mode [] otherwise = otherwise
first_mode (None ∷ lines) otherwise = first_mode lines otherwise
first_mode (Some mode ∷ lines) otherwise = mode

abbrev pub mode_of : ModeFacts → Mode
mode_of facts =
    first_mode
    (broken_where reason_gbb (fault_of facts.gbb)
    ∷ mode_where (facts.recovery || has_flag (flags_of facts.gbb) gbb_manual_recovery) Manual
    ∷ broken_where reason_firmware_space (fault_of facts.firmware)
    ∷ broken_where reason_kernel_space facts.kernel
    ∷ mode_where (not (field_of facts.nv field.RecoveryRequest == 0))
    (Broken (field_of facts.nv field.RecoveryRequest) (field_of facts.nv field.RecoverySubcode))
    ∷ mode_where (is_developer_on facts) Developer
    ∷ [])
    Normal
