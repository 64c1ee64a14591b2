-- What a boot does to its board.
use Rattle.std.specs.Prelude.{◌≡◌, ◌⊎◌, ℕ, ◌+◌, ◌<◌, ◌≤◌, List, [], ◌∷◌, length, take, drop, fold, Bool, true, false, IsTrue, IsSome, Option, Some, None, Result, Ok, Err, IfOk, OnOk, IfErr}
use Rattle.fwsel_core.specs.declared.boot_mode.Mode.{Mode}
use Rattle.fwsel_core.specs.declared.boot_mode.Mode.TheVariants.{Normal, Developer}
use Rattle.fwsel_core.specs.Mode.{mode_of}
use Rattle.fwsel_core.specs.Selection.{selected_slot}
use Rattle.chain_core.specs.Slot.{slot_fault, slot_ok}
use Rattle.record_core.specs.Space.{firmware_fault, kernel_fault, stored_firmware_version, stored_kernel_version}
use Rattle.board_core.specs.declared.counters.FuseState.TheVariants.{Armed, Dead}
use Rattle.board_core.specs.declared.device.Device.{Device}
use Rattle.board_core.specs.declared.device.Device.TheVariants as device
use Rattle.board_core.specs.declared.device.Fault.{Fault}
use Rattle.board_core.specs.Counters.{Rose}
use Rattle.board_core.specs.Torn.{added}
use Rattle.board_core.specs.Tpm.{Spaces}
use Rattle.board_core.specs.World.{World, counters_on}
use Rattle.rom_core.specs.declared.fault.MapFault.{MapFault}
use Rattle.nvstore_core.specs.declared.state.NvState.{NvState}
use Rattle.nvstore_core.specs.Pages.{record_in, empty_state}
use Rattle.nvstore_core.specs.Saving.{KeepsWritten}
use Rattle.nvstore_core.specs.Fair.{IsFairFlash}
use Rattle.gpt_core.specs.Format.{PartitionTable}
use Rattle.gpt_core.specs.Tables.{table_on, IsFairDisk}
use Rattle.walk_core.specs.Chosen.{is_good_candidate}
use Rattle.walk_core.specs.Seen.{copies_agree}
use Rattle.boot_core.specs.declared.switches.Switches.{Switches}
use Rattle.boot_core.specs.declared.found.Found.{Found}
use Rattle.boot_core.specs.declared.outcome.Hand.{Hand}
use Rattle.boot_core.specs.declared.outcome.Outcome.{Outcome}
use Rattle.boot_core.specs.declared.outcome.Outcome.TheVariants as outcome
use Rattle.boot_core.specs.declared.plan.Plan.{Plan}
use Rattle.boot_core.specs.Changes.{Change, Record, Table, flash_with, spaces_with, record_with, table_with, device_of, calls_on}
use Rattle.boot_core.specs.Carries.{Targets, CountsBoard, Frame, IsMade, NotesTable}
use Rattle.boot_core.specs.Spaces.{IsNoLower}
use Rattle.boot_core.specs.Facts.{found_of, facts_of}
use Rattle.boot_core.specs.Slots.{slot_asked}
use Rattle.boot_core.specs.Drives.{Look, asked_at, no_table, table_after_look}
use Rattle.boot_core.specs.Plan.{slot_look, plan_of, look_of, changes_of}
use Rattle.boot_core.specs.Hands.{Handed, HoldsHand, StandsHand}
use Rattle.boot_core.specs.Steps.{IsTold, HasSizes, IsBehindMap, IsFromDisk, ReadsAtMost, to_of, locks_at}

-- ---- the plan

-- The outcome of a boot and its changes in order, where they go, and the state of nvdata before them.
pub record BootPlan : Type 0 where
  pub outcome : Outcome
  pub changes : List Change
  pub to : Targets
  pub state : NvState

-- that of a plan over what was found
abbrev pub boot_plan_of : Found → Plan → PartitionTable → BootPlan
boot_plan_of found plan table =
    record { outcome = plan.outcome; changes = changes_of plan; to = to_of found table; state = found.state }

-- that of a flash whose map has a fault: nothing is changed
abbrev pub bad_flash_plan : MapFault → BootPlan
bad_flash_plan fault =
    record { outcome = outcome.BadFlash fault; changes = []; to = record { area = 0; table = no_table }; state = empty_state }

abbrev pub boot_plan_by : Switches → World → Result Found MapFault → BootPlan
boot_plan_by sw w (Ok found) = boot_plan_of found (plan_of sw found w) (table_after_look (look_of sw found w) w)
boot_plan_by sw w (Err fault) = bad_flash_plan fault

unfoldable pub boot_plan : Switches → World → BootPlan
boot_plan sw w = boot_plan_by sw w (found_of w)

-- the modes that boot a slot
abbrev pub slot_mode : Bool → Mode
slot_mode false = Normal
slot_mode true = Developer

abbrev pub IsHandOver : Outcome → Type 0
IsHandOver (outcome.HandOver hand) = Unit {0}
IsHandOver other = ⊥

-- No good choice is refused: where the mode of a board boots a slot, the table of the selected one finds no fault, and some
-- candidate of the drive is good by its key and rules, the plan hands over.
abbrev pub TakesGoodChoice : Type 0
TakesGoodChoice =
    (sw : Switches) (w : World) (found : Found) (developer : Bool) → found_of w ≡ Ok found
    → mode_of (facts_of sw found) ≡ slot_mode developer
    → let q = slot_asked found (selected_slot found.state.nv) w in
    slot_fault q ≡ None → let d = asked_at (slot_look sw found developer (slot_ok q)) w in
    (table : PartitionTable) → table_on d.disk.medium ≡ Some table → (k : ℕ) → k < 128 → is_good_candidate d table.entries k ≡ true
    → IsHandOver (boot_plan sw w).outcome

-- where a boot looks for a kernel
abbrev pub look_found : Switches → World → Result Found MapFault → Option Look
look_found sw w (Ok found) = look_of sw found w
look_found sw w (Err fault) = None

-- ---- a fault

-- What a board stands for after these changes, in each part of which its device tells what it holds.
pub record StandsAfter (to : Targets) (changes : List Change) (old new : World) : Type 0 where
  -- the nvdata record that stands, or none
  pub nv : IsTrue old.flash.medium.told
      → record_in to.area new.flash.medium.bytes ≡ fold record_with (record_in to.area old.flash.medium.bytes) changes
  pub spaces : IsTrue old.tpm.told → new.tpm.spaces ≡ fold spaces_with old.tpm.spaces changes
  -- the partition table of the disk, or none
  pub table : IsTrue old.disk.medium.told → table_on new.disk.medium ≡ fold (table_with to.table) (table_on old.disk.medium) changes

-- The torn records that the boot added on a device pass no check that they should not, after these changes. It is a premise on that
-- device alone: the TPM, the stick and the hook leave nothing torn of which anything is to be asked.
abbrev pub IsFairOn : Device → Targets → List Change → World → World → Type 0
IsFairOn device.Flash to changes old new =
    IsFairFlash to.area (fold (flash_with to.area) old.flash.medium.bytes changes) (added old.flash.medium.torn new.flash.medium.torn)
IsFairOn device.Disk to changes old new = IsFairDisk to.table old.disk.medium new.disk.medium
IsFairOn other to changes old new = Unit {0}

-- The change after those that are done may have happened: it is one of the device that failed, in a changing call.
pub record MayHaveMade (plan : BootPlan) (fault : Fault) (old new : World) : Type 0 where
  pub next : Change
  pub behind : List Change
  pub place : drop fault.done plan.changes ≡ next ∷ behind
  pub device : fault.device ≡ device_of next
  pub broke : Rose (counters_on fault.device old).failed_changes (counters_on fault.device new).failed_changes

-- so it is after the changes that are done, or after one more
abbrev pub DoneOrNext : BootPlan → Fault → World → World → (List Change → Type 0) → Type 0
DoneOrNext plan fault old new P = P (take fault.done plan.changes) ⊎ (MayHaveMade plan fault old new × P (take (fault.done + 1) plan.changes))

-- none of these changes stores a record
abbrev pub HasNoRecord : List Change → Type 0
HasNoRecord [] = Unit {0}
HasNoRecord (Record r ∷ rest) = ⊥
HasNoRecord (other ∷ rest) = HasNoRecord rest

-- none of them writes the table
abbrev pub HasNoTable : List Change → Type 0
HasNoTable [] = Unit {0}
HasNoTable (Table ∷ rest) = ⊥
HasNoTable (other ∷ rest) = HasNoTable rest

-- one of them writes the table
abbrev pub writes_table : List Change → Bool
writes_table [] = false
writes_table (Table ∷ rest) = true
writes_table (other ∷ rest) = writes_table rest

-- What a fault leaves.
pub record AtFault (plan : BootPlan) (fault : Fault) (old new : World) : Type 0 where
  -- so many changes are known to be whole
  pub done : fault.done ≤ length plan.changes
  -- one state stands, where the device that failed is fair
  pub prefix : IsFairOn fault.device plan.to (take fault.done plan.changes) old new
      → DoneOrNext plan fault old new (λ changes. StandsAfter plan.to changes old new)
  -- and whatever failed, each part under its own premise: nvdata under that on the flash, the table under that on the disk, and the
  -- spaces under none
  pub nv : IsTrue old.flash.medium.told → IsFairOn device.Flash plan.to (take fault.done plan.changes) old new → DoneOrNext plan fault old new
      (λ changes. record_in plan.to.area new.flash.medium.bytes ≡ fold record_with (record_in plan.to.area old.flash.medium.bytes) changes)
  pub spaces : IsTrue old.tpm.told → DoneOrNext plan fault old new (λ changes. new.tpm.spaces ≡ fold spaces_with old.tpm.spaces changes)
  pub table : IsTrue old.disk.medium.told → IsFairOn device.Disk plan.to (take fault.done plan.changes) old new → DoneOrNext plan fault old new
      (λ changes. table_on new.disk.medium ≡ fold (table_with plan.to.table) (table_on old.disk.medium) changes)
  -- the flash, where no record was to be stored by then
  pub flash : IsTrue old.flash.medium.told → HasNoRecord (take (fault.done + 1) plan.changes) → new.flash.medium ≡ old.flash.medium
  -- the bytes of the disk, where no table was to be written by then
  pub disk : IsTrue old.disk.medium.told → HasNoTable (take (fault.done + 1) plan.changes) → new.disk.medium.bytes ≡ old.disk.medium.bytes
  -- the records of torn sectors that were added are of the copies, and were meant to hold the table of the plan
  pub noted : IsTrue old.disk.medium.told → NotesTable plan.to.table old.disk.medium new.disk.medium
  -- a stop that fell, fell in the change after those that are done
  pub fell : (left keep : ℕ) → (counters_on fault.device old).stop ≡ Armed left keep → (counters_on fault.device new).stop ≡ Dead
      → (calls_on fault.device plan.state (take fault.done plan.changes) < left)
      × (left ≤ calls_on fault.device plan.state (take (fault.done + 1) plan.changes))

-- ---- versions

-- Neither stored version falls, and a space that has a fault keeps its bytes.
pub record NeverFall (old new : Spaces) : Type 0 where
  pub firmware : IsNoLower (stored_firmware_version old.firmware) (stored_firmware_version new.firmware)
  pub kernel : IsNoLower (stored_kernel_version old.kernel) (stored_kernel_version new.kernel)
  pub faulty_firmware : IsSome (firmware_fault old.firmware) → new.firmware ≡ old.firmware
  pub faulty_kernel : IsSome (kernel_fault old.kernel) → new.kernel ≡ old.kernel

-- ---- what is handed over

-- What is handed over is what the board holds: the firmware of the slot, and the kernel of the partition.
pub record Hands (sw : Switches) (w : World) (handed : Handed) (hand : Hand) : Type 0 where
  pub found : Found
  pub found_is : found_of w ≡ Ok found
  pub holds : HoldsHand sw found w handed hand

abbrev pub HandsOver : Switches → World → Handed → Outcome → Type 0
HandsOver sw w handed (outcome.HandOver hand) = Hands sw w handed hand
HandsOver sw w handed other = Unit {0}

-- What was handed over stands in the new world, too, by what was found in the old one.
pub record Stands (sw : Switches) (old new : World) (handed : Handed) (hand : Hand) : Type 0 where
  pub found : Found
  pub found_is : found_of old ≡ Ok found
  pub stands : StandsHand sw found new handed hand

abbrev pub StandsOver : Switches → World → World → Handed → Outcome → Type 0
StandsOver sw old new handed (outcome.HandOver hand) = Stands sw old new handed hand
StandsOver sw old new handed other = Unit {0}

-- Where the boot goes on, what is handed over has its chain, in the old world and in the new one, and from the disk both copies of
-- its table agree then.
pub record GoesOn (sw : Switches) (old new : World) (handed : Handed) (outcome : Outcome) : Type 0 where
  pub hands : HandsOver sw old handed outcome
  pub stands : StandsOver sw old new handed outcome
  pub agree : IsFromDisk outcome → IsTrue (copies_agree new.disk.medium)

-- ---- a boot

-- One boot over a board. `handed` is what the room hands out after it.
pub record Boots (sw : Switches) (old new : World) (handed : Handed) (answer : Result Outcome Fault) : Type 0 where
  -- its plan is that of the board, where the devices tell what they hold
  pub plan : BootPlan
  pub planned : IsTold old → plan ≡ boot_plan sw old
  -- what its devices tell has the length that their sizes say
  pub sized : HasSizes old
  -- the changing calls are those of its changes, and the one device that failed counted it
  pub counts : CountsBoard (λ on. calls_on on plan.state plan.changes) old new answer
  pub frame : Frame plan.to.area old new
  -- what was written in the current page of nvdata stays
  pub kept : IsTrue old.flash.medium.told → KeepsWritten plan.to.area plan.state old.flash.medium.bytes new.flash.medium.bytes
  -- where no device fails, the outcome is that of the plan, all changes are made, and both spaces are locked or neither
  pub outcome : IfOk answer (λ outcome. outcome ≡ plan.outcome)
  pub made : OnOk answer (IsMade plan.to plan.changes old new)
  -- wherever a table was written, at a reboot too, both copies of the disk hold it
  pub written : IsTrue old.disk.medium.told → OnOk answer (IsTrue (writes_table plan.changes) → IsTrue (copies_agree new.disk.medium))
  pub locks : IfOk answer (λ outcome. new.tpm.locks ≡ locks_at outcome)
  pub fault : IfErr answer (λ fault. AtFault plan fault old new)
  -- a device that failed hides no fault of the map
  pub order : IfErr answer (λ fault. IsBehindMap fault.device old new)
  pub goes_on : IsTold old → IfOk answer (GoesOn sw old new handed)
  -- at every answer
  pub versions : IsTrue old.tpm.told → NeverFall old.tpm.spaces new.tpm.spaces
  pub reads : IsTold old → ReadsAtMost (look_found sw old (found_of old)) old new
