-- The text and the status of each answer, and the exit status of the program at each.
use Rattle.std.specs.Prelude.{ℕ, Bool, true, false, List, [], ◌∷◌, ◌++◌, codes, decimal, Option, Some, None}
use Rattle.fwsel_core.specs.declared.slot.Slot.{Slot}
use Rattle.fwsel_core.specs.declared.slot.Slot.TheVariants.{A, B}
use Rattle.board_core.specs.declared.device.Device.{Device}
use Rattle.board_core.specs.declared.device.Device.TheVariants as device
use Rattle.board_file.specs.declared.open_fault.OpenFault.TheVariants.{CannotOpen, Memory}
use Rattle.board_file.specs.Files.{file_name}
use Rattle.cgpt_core.specs.declared.call.WordFault.{WordFault}
use Rattle.cgpt_core.specs.declared.call.WordFault.TheVariants as fault
use Rattle.crossystem_core.specs.declared.fault.CrossCode.{CrossCode}
use Rattle.crossystem_core.specs.declared.fault.CrossCode.TheVariants as code
use Rattle.record_core.specs.Space.{fault_number}
use Rattle.rom_core.specs.declared.fault.MapFault.{MapFault}
use Rattle.rom_core.specs.Faults.{map_fault_number}
use Rattle.text_core.specs.Numbers.{hex_number}
use Rattle.kernel_core.specs.declared.rules.BootMode.{BootMode}
use Rattle.kernel_core.specs.declared.rules.BootMode.TheVariants as mode
use Rattle.board_core.specs.declared.device.Drive.{Drive}
use Rattle.board_core.specs.declared.device.Drive.TheVariants as drive
use Rattle.boot_core.specs.declared.outcome.Hand.{Hand}
use Rattle.boot_core.specs.declared.outcome.Outcome.{Outcome}
use Rattle.boot_core.specs.declared.outcome.Outcome.TheVariants as outcome
use Rattle.command_core.specs.declared.answer.Answer.{Answer}
use Rattle.command_core.specs.declared.answer.Answer.TheVariants as answer
use Rattle.command_core.specs.declared.answer.CgptRefusal.{CgptRefusal}
use Rattle.command_core.specs.declared.answer.CgptRefusal.TheVariants as refusal
use Rattle.command_core.specs.declared.answer.Status.{Status}
use Rattle.command_core.specs.declared.answer.Status.TheVariants as status

-- a line with its end
abbrev pub line_of : List ℕ → List ℕ
line_of words = words ++ 10 ∷ []

abbrev pub mode_name : BootMode → List ℕ
mode_name mode.Normal = codes "mode normal"
mode_name mode.Developer = codes "mode developer"
mode_name mode.Recovery = codes "mode recovery"

-- no slot is booted in a recovery
abbrev pub slot_name : Option Slot → List ℕ
slot_name None = codes "slot -"
slot_name (Some A) = codes "slot A"
slot_name (Some B) = codes "slot B"

abbrev pub drive_name : Drive → List ℕ
drive_name drive.Disk = codes "disk"
drive_name drive.Stick = codes "stick"

-- a version that is stored, or none where its space has a fault
abbrev pub version_name : Option ℕ → List ℕ
version_name None = codes "-"
version_name (Some version) = hex_number 4 version

abbrev pub device_name : Device → List ℕ
device_name device.Flash = codes "flash"
device_name device.Tpm = codes "tpm"
device_name device.Disk = codes "disk"
device_name device.Stick = codes "stick"
device_name device.Hook = codes "hook"

-- why a command on a partition table was refused
abbrev pub refusal_name : CgptRefusal → List ℕ
refusal_name refusal.BadValue = codes "BadValue"
refusal_name refusal.NoTable = codes "NoTable"
refusal_name refusal.NoEntry = codes "NoEntry"
refusal_name refusal.DiskTooSmall = codes "DiskTooSmall"
refusal_name refusal.NoFreeEntry = codes "NoFreeEntry"
refusal_name refusal.Outside = codes "Outside"
refusal_name refusal.Overlap = codes "Overlap"
refusal_name refusal.DuplicateUnique = codes "DuplicateUnique"

-- why a word of the crossystem tool was refused
abbrev pub code_name : CrossCode → List ℕ
code_name code.UnknownKey = codes "UnknownKey"
code_name code.ReadOnly = codes "ReadOnly"
code_name code.BadValue = codes "BadValue"

abbrev pub bad_flash_text : MapFault → List ℕ
bad_flash_text fault = line_of (codes "bad flash " ++ decimal (map_fault_number fault))

abbrev pub firmware_line : ℕ → ℕ → List ℕ
firmware_line version len = line_of (codes "firmware " ++ hex_number 4 version ++ codes " " ++ decimal len)

-- a recovery was asked for, or none
abbrev pub requested_digit : Bool → List ℕ
requested_digit false = codes "0"
requested_digit true = codes "1"

abbrev pub reboot_line : ℕ → ℕ → Bool → List ℕ
reboot_line reason subcode requested =
    line_of (codes "reboot reason " ++ decimal reason ++ codes " subcode " ++ decimal subcode ++ codes " requested "
    ++ requested_digit requested)

abbrev pub kernel_line : Hand → List ℕ
kernel_line hand =
    line_of (codes "kernel " ++ drive_name hand.drive ++ codes " " ++ decimal hand.partition ++ codes " " ++ hex_number 4 hand.kernel_version
    ++ codes " " ++ decimal hand.kernel_len ++ codes " " ++ hex_number 8 hand.load_address)

abbrev pub stored_line : Option ℕ → Option ℕ → List ℕ
stored_line firmware kernel = line_of (codes "stored " ++ version_name firmware ++ codes " " ++ version_name kernel)

-- what is handed over
abbrev pub hand_text : Hand → List ℕ
hand_text hand =
    line_of (mode_name hand.mode) ++ line_of (slot_name hand.slot) ++ firmware_line hand.fw_version hand.fw_len ++ kernel_line hand
    ++ stored_line hand.stored_fw hand.stored_kernel ++ line_of (codes "hand over")

-- what a boot comes to
abbrev pub outcome_text : Outcome → List ℕ
outcome_text (outcome.HandOver hand) = hand_text hand
outcome_text outcome.DevEnabled = line_of (codes "developer mode enabled")
outcome_text (outcome.Reboot reason subcode requested) = reboot_line reason subcode requested
outcome_text (outcome.Screen reason subcode) = line_of (codes "screen reason " ++ decimal reason ++ codes " subcode " ++ decimal subcode)
outcome_text (outcome.BadFlash fault) = bad_flash_text fault

abbrev pub text_of : Answer → List ℕ
text_of answer.Usage = line_of (codes "usage")
text_of (answer.Booted outcome) = outcome_text outcome
text_of (answer.Faulted fault) = line_of (codes "fault " ++ device_name fault.device ++ codes " done " ++ decimal fault.done)
text_of (answer.Failed device) = line_of (codes "fault " ++ device_name device)
text_of (answer.BadFlash fault) = bad_flash_text fault
text_of (answer.WrongSize device) = line_of (codes "refused make size " ++ device_name device)
text_of answer.HookFull = line_of (codes "refused make hook full")
text_of (answer.RefusedCgpt why) = line_of (codes "refused cgpt " ++ refusal_name why)
text_of (answer.RefusedWord word why) = line_of (codes "refused word " ++ decimal word ++ codes " " ++ code_name why)
text_of (answer.Differs word) = line_of (codes "differs word " ++ decimal word)
text_of answer.Migrated = line_of (codes "migrated")
text_of answer.AlreadyMigrated = line_of (codes "already v1")
text_of (answer.RefusedMigrate bad) = line_of (codes "refused migrate " ++ decimal (fault_number bad))
text_of answer.OutOfMemory = line_of (codes "out of memory")
text_of (answer.Unopened (CannotOpen file)) = line_of (codes "cannot open " ++ file_name file)
text_of (answer.Unopened Memory) = line_of (codes "out of memory")

-- ---- the status

abbrev pub device_status : Device → Status
device_status device.Flash = status.FlashFault
device_status device.Tpm = status.TpmFault
device_status device.Disk = status.DriveFault
device_status device.Stick = status.DriveFault
device_status device.Hook = status.HookFault

abbrev pub outcome_status : Outcome → Status
outcome_status (outcome.HandOver hand) = status.Done
outcome_status outcome.DevEnabled = status.Done
outcome_status (outcome.Reboot reason subcode requested) = status.Reboot
outcome_status (outcome.Screen reason subcode) = status.Screen
outcome_status (outcome.BadFlash fault) = status.BadFlash

abbrev pub status_of : Answer → Status
status_of answer.Usage = status.Usage
status_of (answer.Booted outcome) = outcome_status outcome
status_of (answer.Faulted fault) = device_status fault.device
status_of (answer.Failed device) = device_status device
status_of (answer.BadFlash fault) = status.BadFlash
status_of (answer.RefusedCgpt why) = status.RefusedCgpt
status_of answer.OutOfMemory = status.NoMemory
status_of (answer.Unopened Memory) = status.NoMemory
status_of (answer.WrongSize device) = status.RefusedMake
status_of answer.HookFull = status.RefusedMake
status_of (answer.Unopened (CannotOpen file)) = status.CannotOpen
status_of (answer.RefusedWord word why) = status.RefusedWord
status_of (answer.Differs word) = status.Differs
status_of answer.Migrated = status.Done
status_of answer.AlreadyMigrated = status.Done
status_of (answer.RefusedMigrate bad) = status.RefusedMigrate

-- the number that the program exits with
abbrev pub exit_code : Status → ℕ
exit_code status.Done = 0
exit_code status.Usage = 1
exit_code status.Reboot = 2
exit_code status.Screen = 3
exit_code status.Differs = 4
exit_code status.FlashFault = 5
exit_code status.TpmFault = 6
exit_code status.DriveFault = 7
exit_code status.HookFault = 8
exit_code status.SinkFault = 9
exit_code status.BadFlash = 11
exit_code status.RefusedWord = 13
exit_code status.RefusedCgpt = 14
exit_code status.NoMemory = 15
exit_code status.RefusedMake = 16
exit_code status.CannotOpen = 17
exit_code status.RefusedMigrate = 20

-- ---- words that are refused

abbrev pub answer_of_words : WordFault → Answer
answer_of_words fault.Usage = answer.Usage
answer_of_words fault.BadValue = answer.RefusedCgpt refusal.BadValue
answer_of_words fault.Memory = answer.OutOfMemory
