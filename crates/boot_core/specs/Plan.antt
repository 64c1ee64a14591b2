-- The plan of a boot: its outcome and its changes, as one function of what the devices hold.
-- Source: `vb2api_fw_phase1` to `vb2api_fw_phase3` and `vb2api_kernel_phase1` to `vb2api_kernel_finalize` of vboot_reference
-- (firmware/2lib/2api.c and 2kernel.c). What a person asks for, which is the menus' there, is by switches here.
use Rattle.std.specs.Prelude.{◌≡◌, ℕ, IfSome, ◌&&◌, not, Bool, true, false, List, ◌++◌, Option, Some, None, Result, Ok, Err, if◌then◌else◌}
use Rattle.record_core.specs.declared.space.SpaceFault.{SpaceFault}
use Rattle.record_core.specs.Nv.{form_of}
use Rattle.record_core.specs.Space.{firmware_flags}
use Rattle.fwsel_core.specs.declared.boot_mode.Mode.{Mode}
use Rattle.fwsel_core.specs.declared.boot_mode.Mode.TheVariants.{Normal, Developer, Manual, Broken}
use Rattle.fwsel_core.specs.Mode.{has_flag, space_developer_mode, mode_of}
use Rattle.fwsel_core.specs.Selection.{selected_slot, selection_of}
use Rattle.fwsel_core.specs.Failure.{asks_for_recovery, failed_record}
use Rattle.chain_core.specs.SlotNumbers.{reason_of, subcode_of}
use Rattle.chain_core.specs.declared.slot_fault.SlotOk.{SlotOk}
use Rattle.chain_core.specs.declared.slot_fault.SlotFault.{SlotFault}
use Rattle.kernel_core.specs.declared.rules.BootMode.{BootMode}
use Rattle.kernel_core.specs.declared.rules.BootMode.TheVariants as boot_mode
use Rattle.walk_core.specs.Seen.{kernel_of}
use Rattle.walk_core.specs.declared.walked.Kernel.{Kernel}
use Rattle.walk_core.specs.declared.drive.Seen.{Seen}
use Rattle.walk_core.specs.declared.drive.Seen.TheVariants as seen
use Rattle.board_core.specs.World.{World}
use Rattle.boot_core.specs.declared.switches.Switches.{Switches}
use Rattle.boot_core.specs.declared.found.Found.{Found}
use Rattle.board_core.specs.declared.device.Drive.{Drive}
use Rattle.board_core.specs.declared.device.Drive.TheVariants.{Disk, Stick}
use Rattle.boot_core.specs.declared.outcome.Hand.{Hand}
use Rattle.boot_core.specs.declared.outcome.Outcome.{Outcome}
use Rattle.boot_core.specs.declared.outcome.Outcome.TheVariants as outcome
use Rattle.boot_core.specs.declared.plan.Plan.{Plan}
use Rattle.boot_core.specs.Changes.{Change, Firmware, Record, Kernel as KernelSpace, listed, tabled}
use Rattle.nvstore_core.specs.Pages.{record_change}
use Rattle.boot_core.specs.Spaces.{booted_record, screened_record, enabled_record, disables_dev, is_trying, second_change}
use Rattle.boot_core.specs.Spaces.{flags_change, version_change, enabling_change, firmware_stored, firmware_stored_after}
use Rattle.boot_core.specs.Spaces.{kernel_change, kernel_stored, kernel_stored_after, firmware_kept, kernel_kept}
use Rattle.boot_core.specs.Facts.{facts_of}
use Rattle.boot_core.specs.Slots.{slot_asked, slot_answer}
use Rattle.boot_core.specs.Drives.{Look, drive_of, rules_of, recovery_of, seen_on}

-- ---- the recovery reasons and subcodes of a boot

-- a recovery by hand
abbrev pub reason_manual : ℕ
reason_manual = 2

-- the disk has no table
abbrev pub reason_no_table : ℕ
reason_no_table = 30

-- no kernel of the disk is good
abbrev pub reason_no_kernel : ℕ
reason_no_kernel = 31

-- the stick of a developer has no good kernel
abbrev pub reason_no_external : ℕ
reason_no_external = 32

-- why a stick is not booted: it has no table, or no kernel of it is good
abbrev pub missing_subcode : Seen → ℕ
missing_subcode seen.NoTable = 1
missing_subcode (seen.Table walked changed) = 2

-- the records of a plan have one form
abbrev pub IsOfOneForm : Plan → Type 0
IsOfOneForm plan = IfSome plan.last (λ second. IfSome plan.nv (λ first. form_of second ≡ form_of first))

-- a hand-over names the versions that are stored after these changes of both spaces
abbrev pub NamesStored : Found → (firmware kernel : Option (List ℕ)) → Outcome → Type 0
NamesStored found firmware kernel (outcome.HandOver hand) =
    (hand.stored_fw ≡ firmware_kept found.firmware firmware) × (hand.stored_kernel ≡ kernel_kept found.kernel kernel)
NamesStored found firmware kernel other = Unit {0}

-- those of a plan
abbrev pub TellsStored : Found → Plan → Type 0
TellsStored found plan = NamesStored found plan.firmware plan.kernel plan.outcome

-- ---- without a good slot

-- the record alone is changed
abbrev pub record_plan : Outcome → Option (List ℕ) → Plan
record_plan outcome nv = record { outcome = outcome; firmware = None; nv = nv; table = false; kernel = None; last = None }

-- a screen asks for a recovery
abbrev pub screen_plan_of : Found → ℕ → ℕ → Plan
screen_plan_of found reason subcode =
    record_plan (outcome.Screen reason subcode) (record_change found.state (screened_record found.state.nv))

-- a failure asks for a recovery
abbrev pub is_requested : Found → Bool
is_requested found = asks_for_recovery (Some (selection_of found.state.nv)) (booted_record found.state.nv)

-- the record after a failure
abbrev pub rebooted_record : Found → (reason subcode : ℕ) → List ℕ
rebooted_record found reason subcode = failed_record (Some (selection_of found.state.nv)) reason subcode (booted_record found.state.nv)

-- the slot has a fault: the other one is to be tried next, or a recovery is asked for
abbrev pub reboot_plan_of : Found → Bool → SlotFault → Plan
reboot_plan_of found developer fault = record {
  outcome = outcome.Reboot (reason_of fault) (subcode_of fault) (is_requested found);
  firmware = flags_change found.firmware developer (disables_dev found.state.nv);
  nv = record_change found.state (rebooted_record found (reason_of fault) (subcode_of fault));
  table = false;
  kernel = None;
  last = None;
}

-- ---- with a good slot

-- the mode of its boot
abbrev pub boot_mode_of : Bool → BootMode
boot_mode_of false = boot_mode.Normal
boot_mode_of true = boot_mode.Developer

-- first the firmware space and the record, and then these
abbrev pub good_plan_of : Found → Bool → SlotOk → Outcome → (table : Bool) → (kernel last : Option (List ℕ)) → Plan
good_plan_of found developer ok outcome table kernel last = record {
  outcome = outcome;
  firmware = version_change found.firmware developer found.state.nv (selection_of found.state.nv) ok.version;
  nv = record_change found.state (booted_record found.state.nv);
  table = table;
  kernel = kernel;
  last = last;
}

-- what is handed over: the firmware of the slot, and this kernel
abbrev pub hand_of : Found → Bool → SlotOk → Drive → Kernel → (stored_kernel : Option ℕ) → Hand
hand_of found developer ok drive kernel stored_kernel = record {
  mode = boot_mode_of developer;
  drive = drive;
  slot = Some (selected_slot found.state.nv);
  fw_version = ok.version;
  fw_len = ok.body_len;
  partition = kernel.partition;
  kernel_version = kernel.version;
  kernel_len = kernel.body_len;
  load_address = kernel.load_address;
  stored_fw = firmware_stored_after found.firmware found.state.nv (selection_of found.state.nv) ok.version;
  stored_kernel = stored_kernel;
}

-- nothing is written to a stick
abbrev pub stick_plan_of : Found → Bool → SlotOk → (subcode : ℕ) → Option Kernel → Plan
stick_plan_of found developer ok subcode (Some kernel) =
    good_plan_of found developer ok (outcome.HandOver (hand_of found developer ok Stick kernel (kernel_stored found.kernel))) false None None
stick_plan_of found developer ok subcode None = good_plan_of found developer ok (outcome.Screen reason_no_external subcode) false None None

-- the disk cannot be booted: after the record of the attempt comes that of its failure
abbrev pub failed_plan_of : Found → Bool → SlotOk → (reason : ℕ) → (table : Bool) → Plan
failed_plan_of found developer ok reason table =
    good_plan_of found developer ok (outcome.Reboot reason 0 (is_requested found)) table None
    (second_change (booted_record found.state.nv) (rebooted_record found reason 0))

abbrev pub disk_plan_of : Found → Bool → SlotOk → Option Kernel → (lowest : ℕ) → (changed : Bool) → Plan
disk_plan_of found developer ok None lowest changed = failed_plan_of found developer ok reason_no_kernel changed
disk_plan_of found developer ok (Some kernel) lowest changed =
    let on_trial = is_trying (booted_record found.state.nv) in
    good_plan_of found developer ok
    (outcome.HandOver (hand_of found developer ok Disk kernel (kernel_stored_after found.kernel found.state.nv on_trial lowest))) changed
    (kernel_change found.kernel found.state.nv on_trial lowest) None

-- by the drive, and what is seen on it
abbrev pub drive_plan_of : Found → Bool → SlotOk → Drive → Seen → Plan
drive_plan_of found developer ok Stick what = stick_plan_of found developer ok (missing_subcode what) (kernel_of what)
drive_plan_of found developer ok Disk seen.NoTable = failed_plan_of found developer ok reason_no_table false
drive_plan_of found developer ok Disk (seen.Table walked changed) = disk_plan_of found developer ok walked.chosen walked.lowest changed

-- where it is looked for a kernel
abbrev pub slot_look : Switches → Found → Bool → SlotOk → Look
slot_look sw found developer ok =
    record { drive = drive_of sw found developer; key = ok.subkey; rules = rules_of sw found (boot_mode_of developer) }

abbrev pub kernel_plan_of : Switches → Found → Bool → SlotOk → World → Plan
kernel_plan_of sw found developer ok w =
    drive_plan_of found developer ok (drive_of sw found developer)
    (seen_on (drive_of sw found developer) ok.subkey (rules_of sw found (boot_mode_of developer)) w)

-- what the check of the selected slot finds
abbrev pub selected_answer : Found → World → Result SlotOk SlotFault
selected_answer found w = slot_answer (slot_asked found (selected_slot found.state.nv) w)

abbrev pub slot_plan_of : Switches → Found → Bool → Result SlotOk SlotFault → World → Plan
slot_plan_of sw found developer (Ok ok) w = kernel_plan_of sw found developer ok w
slot_plan_of sw found developer (Err fault) w = reboot_plan_of found developer fault

-- ---- a recovery by hand

-- developer mode is asked for, and is off
abbrev pub enables_dev : Switches → Result (List ℕ) SpaceFault → Bool
enables_dev sw (Ok space) = sw.enable_dev && not (has_flag (firmware_flags space) space_developer_mode)
enables_dev sw (Err fault) = false

abbrev pub enabling_plan_of : Found → Plan
enabling_plan_of found = record {
  outcome = outcome.DevEnabled;
  firmware = enabling_change found.firmware;
  nv = record_change found.state (enabled_record found.state.nv);
  table = false;
  kernel = None;
  last = None;
}

-- a kernel of the stick is handed over, and no firmware
abbrev pub recovery_hand_of : Found → Kernel → Hand
recovery_hand_of found kernel = record {
  mode = boot_mode.Recovery;
  drive = Stick;
  slot = None;
  fw_version = 0;
  fw_len = 0;
  partition = kernel.partition;
  kernel_version = kernel.version;
  kernel_len = kernel.body_len;
  load_address = kernel.load_address;
  stored_fw = firmware_stored found.firmware;
  stored_kernel = kernel_stored found.kernel;
}

abbrev pub recovery_outcome : Found → (subcode : ℕ) → Option Kernel → Outcome
recovery_outcome found subcode (Some kernel) = outcome.HandOver (recovery_hand_of found kernel)
recovery_outcome found subcode None = outcome.Screen reason_manual subcode

abbrev pub recovery_plan_of : Found → Seen → Plan
recovery_plan_of found what =
    record_plan (recovery_outcome found (missing_subcode what) (kernel_of what)) (record_change found.state (screened_record found.state.nv))

abbrev pub recovery_look : Switches → Found → Look
recovery_look sw found = record { drive = Stick; key = recovery_of found.gbb; rules = rules_of sw found boot_mode.Recovery }

abbrev pub manual_plan_of : Switches → Found → World → Plan
manual_plan_of sw found w =
    if enables_dev sw found.firmware then enabling_plan_of found
    else recovery_plan_of found (seen_on Stick (recovery_of found.gbb) (rules_of sw found boot_mode.Recovery) w)

-- ---- by the mode

abbrev pub plan_in : Mode → Switches → Found → World → Plan
plan_in Manual sw found w = manual_plan_of sw found w
plan_in (Broken reason subcode) sw found w = screen_plan_of found reason subcode
plan_in Normal sw found w = slot_plan_of sw found false (selected_answer found w) w
plan_in Developer sw found w = slot_plan_of sw found true (selected_answer found w) w

-- the plan, with what is found, and the slots and drives of this board
unfoldable pub plan_of : Switches → Found → World → Plan
plan_of sw found w = plan_in (mode_of (facts_of sw found)) sw found w

-- ---- where it looks for a kernel

abbrev pub look_by : Switches → Found → Bool → Result SlotOk SlotFault → Option Look
look_by sw found developer (Ok ok) = Some (slot_look sw found developer ok)
look_by sw found developer (Err fault) = None

abbrev pub look_in : Mode → Switches → Found → World → Option Look
look_in Manual sw found w = if enables_dev sw found.firmware then None else Some (recovery_look sw found)
look_in (Broken reason subcode) sw found w = None
look_in Normal sw found w = look_by sw found false (selected_answer found w)
look_in Developer sw found w = look_by sw found true (selected_answer found w)

-- on a drive, or nowhere
unfoldable pub look_of : Switches → Found → World → Option Look
look_of sw found w = look_in (mode_of (facts_of sw found)) sw found w

-- ---- the plan as changes in their order

abbrev pub first_changes : Plan → List Change
first_changes plan = listed Firmware plan.firmware ++ listed Record plan.nv

abbrev pub later_changes : Plan → List Change
later_changes plan = tabled plan.table ++ (listed KernelSpace plan.kernel ++ listed Record plan.last)

abbrev pub changes_of : Plan → List Change
changes_of plan = first_changes plan ++ later_changes plan
