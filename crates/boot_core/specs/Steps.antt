-- The steps of a boot over its board: reading, changing and locking.
use Rattle.std.specs.Prelude.{◌≡◌, ◌⊎◌, ℕ, ◌+◌, ◌*◌, ◌%◌, ◌≤◌, Bool, true, false, if◌then◌else◌, IsTrue, List, length, Option, Some, None, Result, Ok, is_err, IfOk, IfErr, IfSome, OnOk}
use Rattle.record_core.specs.declared.space.SpaceFault.{SpaceFault}
use Rattle.record_core.specs.Space.{firmware_fault, kernel_fault, good_bytes}
use Rattle.board_core.specs.declared.device.Device.{Device}
use Rattle.board_core.specs.declared.device.Device.TheVariants as device
use Rattle.board_core.specs.declared.device.Fault.{Fault}
use Rattle.board_core.specs.Counters.{Observed}
use Rattle.board_core.specs.Fault.{is_fault_of}
use Rattle.board_core.specs.Tpm.{TpmState, Locks, unlocked, AreWithinSize}
use Rattle.board_core.specs.Drive.{same_drive}
use Rattle.board_core.specs.World.{World, drive_on, with_drive}
use Rattle.rom_core.specs.declared.map.Map.{Map}
use Rattle.rom_core.specs.Reading.{map_question}
use Rattle.rom_core.specs.Decoded.{flash_map}
use Rattle.rom_core.specs.declared.fault.MapFault.{MapFault}
use Rattle.rom_core.specs.MapFits.{FitsFlash}
use Rattle.fwsel_core.specs.declared.slot.Slot.{Slot}
use Rattle.fwsel_core.specs.declared.boot_mode.Mode.TheVariants.{Manual}
use Rattle.key_core.specs.declared.key.PackedKey.{PackedKey}
use Rattle.gpt_core.specs.Format.{PartitionTable}
use Rattle.gpt_core.specs.Room.{RoomView, CanCommit}
use Rattle.gpt_core.specs.Tables.{table_on, BothHold}
use Rattle.chain_core.specs.Accepted.{Asked}
use Rattle.chain_core.specs.declared.slot_fault.SlotOk.{SlotOk}
use Rattle.chain_core.specs.declared.slot_fault.SlotFault.{SlotFault}
use Rattle.kernel_core.specs.declared.rules.KernelRules.{KernelRules}
use Rattle.walk_core.specs.Seen.{sectors_of_walk, copies_agree, HasTable, IsSeen, HoldsWalked}
use Rattle.walk_core.specs.declared.drive.Seen.{Seen}
use Rattle.nvstore_core.specs.declared.state.NvState.{NvState}
use Rattle.nvstore_core.specs.Pages.{IsStateOf, InRange, page_to_write}
use Rattle.nvstore_core.specs.Saving.{SameBut, KeepsWritten}
use Rattle.boot_core.specs.declared.switches.Switches.{Switches}
use Rattle.boot_core.specs.declared.found.Found.{Found}
use Rattle.board_core.specs.declared.device.Drive.{Drive}
use Rattle.board_core.specs.declared.device.Drive.TheVariants as drive
use Rattle.boot_core.specs.declared.outcome.Outcome.{Outcome}
use Rattle.boot_core.specs.declared.outcome.Outcome.TheVariants as outcome
use Rattle.boot_core.specs.declared.plan.Plan.{Plan}
use Rattle.boot_core.specs.declared.room.Room.{Room}
use Rattle.boot_core.specs.Spaces.{RaisesVersion, RaisesKernel}
use Rattle.boot_core.specs.Facts.{found_in, found_of}
use Rattle.boot_core.specs.Slots.{slot_asked, slot_answer, HoldsFirmware}
use Rattle.boot_core.specs.Drives.{drive_asked, seen_on, Look, asked_at, table_after_look}
use Rattle.boot_core.specs.Plan.{selected_answer, slot_plan_of, look_by, manual_plan_of, look_in, plan_of, look_of, IsOfOneForm, TellsStored, first_changes, later_changes, changes_of}
use Rattle.boot_core.specs.Hands.{handed_by, HoldsOutcome}
use Rattle.boot_core.specs.Carries.{SameDisk, Targets, CarriesOut}

abbrev pub both_locked : Locks
both_locked = record { firmware = true; kernel = true }

-- ---- reading

-- Calls that change nothing that lasts. The device that failed counted it, and no other counted a fault.
pub record Looks {T : Type 0} (old new : World) (result : Result T Fault) : Type 0 where
  pub flash : Observed old.flash.counters new.flash.counters (is_fault_of device.Flash result)
  pub tpm : Observed old.tpm.counters new.tpm.counters (is_fault_of device.Tpm result)
  pub disk : Observed old.disk.counters new.disk.counters (is_fault_of device.Disk result)
  pub stick : Observed old.stick.counters new.stick.counters (is_fault_of device.Stick result)
  pub hook : Asked old.hook new.hook (is_fault_of device.Hook result)
  pub medium : new.flash.medium ≡ old.flash.medium
  pub tpm_told : new.tpm.told ≡ old.tpm.told
  pub spaces : new.tpm.spaces ≡ old.tpm.spaces
  pub same_disk : SameDisk old.disk.medium new.disk.medium
  pub same_stick : SameDisk old.stick.medium new.stick.medium
  pub map_at : new.map_at ≡ old.map_at

-- neither drive was called
pub record SameDrives (old new : World) : Type 0 where
  pub disk : new.disk ≡ old.disk
  pub stick : new.stick ≡ old.stick

-- all devices tell what they hold
pub record IsTold (w : World) : Type 0 where
  pub flash : IsTrue w.flash.medium.told
  pub tpm : IsTrue w.tpm.told
  pub disk : IsTrue w.disk.medium.told
  pub stick : IsTrue w.stick.medium.told
  pub hook : IsTrue w.hook.told

-- What a device tells has the length that its size says.
pub record HasSizes (w : World) : Type 0 where
  pub flash : IsTrue w.flash.medium.told → length w.flash.medium.bytes ≡ w.flash.medium.size
  pub tpm : IsTrue w.tpm.told → AreWithinSize w.tpm.spaces
  pub disk : IsTrue w.disk.medium.told → length w.disk.medium.bytes ≡ w.disk.medium.sectors * 512
  pub stick : IsTrue w.stick.medium.told → length w.stick.medium.bytes ≡ w.stick.medium.sectors * 512

-- the pages of nvdata lie in a flash of this size
pub record IsAreaIn (size area : ℕ) : Type 0 where
  pub multiple : area % 4096 ≡ 0
  pub inside : area + 8192 ≤ size

-- What was found is known, as far as the devices tell what they hold.
pub record IsFound (w : World) (found : Found) : Type 0 where
  pub fits : FitsFlash w.flash.medium.size found.map
  pub area : IsAreaIn w.flash.medium.size found.map.nvram.at
  pub state : IsTrue w.flash.medium.told → IsStateOf found.map.nvram.at w.flash.medium.bytes found.state
  pub within : InRange found.state
  pub firmware : IsTrue w.tpm.told → found.firmware ≡ good_bytes (firmware_fault w.tpm.spaces.firmware) w.tpm.spaces.firmware
  pub kernel : IsTrue w.tpm.told → found.kernel ≡ good_bytes (kernel_fault w.tpm.spaces.kernel) w.tpm.spaces.kernel

-- Nvdata, the GBB and both spaces of a board are read, whose flash has this map.
pub record ReadsFound (map : Map) (old new : World) (result : Result Found Fault) : Type 0 where
  pub looks : Looks old new result
  pub locks : new.tpm.locks ≡ old.tpm.locks
  pub drives : SameDrives old new
  pub hook : new.hook ≡ old.hook
  pub none_done : IfErr result (λ fault. fault.done ≡ 0)
  pub whole : IsTrue old.flash.medium.told → IsTrue old.tpm.told → IfOk result (λ found. found ≡ found_in map old)
  pub found : IfOk result (λ found. IsFound old found)
  -- none but these is called
  pub devices : IfErr result (λ fault. (fault.device ≡ device.Flash) ⊎ (fault.device ≡ device.Tpm))

-- the map of the flash is read, and its table finds no fault
abbrev pub HasMap : World → Type 0
HasMap w = IsTrue w.flash.medium.told → (map : Map) × (flash_map (map_question w.map_at w.flash.medium) ≡ Ok map)

-- A device that failed hides no fault of the map: the TPM did not start, before the flash was called, or the map has no fault. The flash may
-- have failed while it was read.
abbrev pub IsBehindMap : Device → World → World → Type 0
IsBehindMap device.Flash old new = Unit {0}
IsBehindMap device.Tpm old new = ((new.flash ≡ old.flash) × (new.tpm.locks ≡ old.tpm.locks)) ⊎ HasMap old
IsBehindMap other old new = HasMap old

-- A board is started and read, which comes before any change.
pub record ReadsBoard (old new : World) (result : Result (Result Found MapFault) Fault) : Type 0 where
  pub looks : Looks old new result
  pub drives : SameDrives old new
  pub hook : new.hook ≡ old.hook
  pub unlocked : OnOk result (new.tpm.locks ≡ unlocked)
  pub none_done : IfErr result (λ fault. fault.done ≡ 0)
  -- what is found is what the board holds, as far as its devices tell
  pub whole : IsTrue old.flash.medium.told → IsTrue old.tpm.told → IfOk result (λ answer. answer ≡ found_of old)
  pub found : IfOk result (λ answer. IfOk answer (λ found. IsFound old found))
  pub mapped : IfOk result (λ answer. OnOk answer (HasMap old))
  pub order : IfErr result (λ fault. IsBehindMap fault.device old new)

-- ---- a look at a drive

-- A drive of a board is looked at. `room` is its table in the room afterwards, and `handed_out` the body of a kernel there.
pub record LooksAtDrive (drive : Drive) (key : PackedKey) (rules : KernelRules) (old new : World) (room : RoomView) (handed_out : List ℕ)
    (result : Result Seen Fault) : Type 0 where
  pub looks : Looks old new result
  pub none_done : IfErr result (λ fault. fault.done ≡ 0)
  -- all but this drive and the hook is as it was
  pub others : new ≡ with_drive drive (drive_on drive new) (record old { hook = new.hook })
  pub reads : IsTrue (drive_on drive old).medium.told → IsTrue old.hook.told
      → (drive_on drive new).medium.sectors_read ≤ (drive_on drive old).medium.sectors_read
      + (66 + sectors_of_walk (drive_asked drive key rules old) (table_on (drive_on drive old).medium))
  -- what is seen, as far as drive and hook tell
  pub seen : IsTrue (drive_on drive old).medium.told → IsTrue old.hook.told → IfOk result (λ what. what ≡ seen_on drive key rules old)
  pub kernel : IsTrue (drive_on drive old).medium.told → IsTrue old.hook.told
      → IfOk result (IsSeen (drive_asked drive key rules old) handed_out)
  pub holds : IsTrue (drive_on drive old).medium.told → IsTrue old.hook.told
      → IfOk result (λ what. HasTable what → HoldsWalked (drive_asked drive key rules old) room)
  pub ready : IfOk result (λ what. HasTable what → CanCommit (drive_on drive new) room)

-- ---- the plan

-- The selected slot of a board is verified. `body` is what the room hands out after it.
pub record ChecksSlot (found : Found) (slot : Slot) (old new : World) (body : List ℕ)
    (result : Result (Result SlotOk SlotFault) Fault) : Type 0 where
  pub looks : Looks old new result
  pub locks : new.tpm.locks ≡ old.tpm.locks
  pub drives : SameDrives old new
  pub none_done : IfErr result (λ fault. fault.done ≡ 0)
  -- the answer is what the board holds, as far as its devices tell
  pub whole : IsTrue old.flash.medium.told → IsTrue old.hook.told → IfOk result (λ answer. answer ≡ slot_answer (slot_asked found slot old))
  pub holds : IsTrue old.flash.medium.told → IsTrue old.hook.told → IfOk result (λ answer. IfOk answer (λ ok.
      HoldsFirmware (slot_asked found slot old) ok.version ok.body_len body))

-- the boot goes on from the disk
abbrev pub IsFromDisk : Outcome → Type 0
IsFromDisk (outcome.HandOver hand) = hand.drive ≡ drive.Disk
IsFromDisk other = ⊥

-- How many sectors of a drive are read at most: both copies of its table and those of the walk where it is looked at, else none.
abbrev pub most_read : Option Look → World → Drive → ℕ
most_read None w on = 0
most_read (Some look) w on =
    if same_drive look.drive on then 66 + sectors_of_walk (asked_at look w) (table_on (drive_on look.drive w).medium) else 0

abbrev pub ReadsAtMost : Option Look → World → World → Type 0
ReadsAtMost look old new = (on : Drive) → (drive_on on new).medium.sectors_read ≤ (drive_on on old).medium.sectors_read + most_read look old on

-- a room holds the table of the disk after a walk
abbrev pub WalkedOn : World → RoomView → Type 0
WalkedOn w room = (key : PackedKey) × (rules : KernelRules) × HoldsWalked (drive_asked drive.Disk key rules w) room

-- A plan is made, before any change: this one, for which it is looked for a kernel there. `room` is the room afterwards.
pub record Plans (sw : Switches) (found : Found) (look : Option Look) (planned : Plan) (old new : World) (room : Room)
    (result : Result Plan Fault) : Type 0 where
  pub looks : Looks old new result
  pub locks : new.tpm.locks ≡ old.tpm.locks
  pub none_done : IfErr result (λ fault. fault.done ≡ 0)
  pub whole : IsTold old → IfOk result (λ plan. plan ≡ planned)
  -- the spaces that are written are good, and their versions are no lower
  pub firmware : IfOk result (λ plan. IfSome plan.firmware (RaisesVersion found.firmware))
  pub kernel : IfOk result (λ plan. IfSome plan.kernel (RaisesKernel found.kernel))
  -- the second record has the form of the first, so that it goes into the same page
  pub alike : IfOk result IsOfOneForm
  -- a table that is written is that of the room: the one after the walk
  pub ready : IfOk result (λ plan. plan.table ≡ true → CanCommit new.disk room.gpt)
  pub table : IsTold old → IfOk result (λ plan. plan.table ≡ true → room.gpt.table ≡ table_after_look look old)
  -- and that is the one of the disk, in which each entry has met its fate
  pub walked : IsTold old → IfOk result (λ plan. plan.table ≡ true → WalkedOn old room.gpt)
  -- where it is not written, both copies of the disk agree already
  pub agree : IsTold old → IfOk result (λ plan. IsFromDisk plan.outcome → plan.table ≡ false → IsTrue (copies_agree old.disk.medium))
  pub holds : IsTold old → IfOk result (λ plan. HoldsOutcome sw found old (handed_by room) plan.outcome)
  -- a hand-over names the versions that are stored after it
  pub stored : IfOk result (TellsStored found)
  pub reads : IsTold old → ReadsAtMost look old new

-- The plan of a mode that boots a slot.
abbrev pub PlansSlot : Switches → Found → (developer : Bool) → World → World → Room → Result Plan Fault → Type 0
PlansSlot sw found developer old new room result =
    let answer = selected_answer found old in
    Plans sw found (look_by sw found developer answer) (slot_plan_of sw found developer answer old) old new room result

-- The plan of a recovery by hand.
abbrev pub PlansRecovery : Switches → Found → World → World → Room → Result Plan Fault → Type 0
PlansRecovery sw found old new room result = Plans sw found (look_in Manual sw found old) (manual_plan_of sw found old) old new room result

-- The plan of a boot.
abbrev pub PlansBoot : Switches → Found → World → World → Room → Result Plan Fault → Type 0
PlansBoot sw found old new room result = Plans sw found (look_of sw found old) (plan_of sw found old) old new room result

-- ---- changing

-- where the changes of a plan go
abbrev pub to_of : Found → PartitionTable → Targets
to_of found table = record { area = found.map.nvram.at; table = table }

-- What the table of a plan leaves of the drives: a disk of which none is written stays as it is, and of one that was written both
-- copies hold it. Nothing is read.
pub record WritesTable {T : Type 0} (wanted : Bool) (table : PartitionTable) (old new : World) (result : Result T Fault) : Type 0 where
  pub unwritten : wanted ≡ false → new.disk ≡ old.disk
  pub both : IsTrue old.disk.medium.told → wanted ≡ true → OnOk result (BothHold table new.disk.medium.sectors new.disk.medium.bytes)
  pub reads : new.disk.medium.sectors_read ≡ old.disk.medium.sectors_read
  pub stick : new.stick ≡ old.stick

-- The first changes of a plan: the firmware space and a record.
pub record MakesFirst {T : Type 0} (to : Targets) (state : NvState) (plan : Plan) (old new : World) (result : Result T Fault) : Type 0 where
  pub carried : CarriesOut 0 to state (first_changes plan) old new result
  pub kept : IsTrue old.flash.medium.told → KeepsWritten to.area state old.flash.medium.bytes new.flash.medium.bytes
  pub drives : SameDrives old new

-- a record, where one is stored, goes into one page alone
abbrev pub StoresIn : ℕ → NvState → Option (List ℕ) → List ℕ → List ℕ → Type 0
StoresIn area state None old new = new ≡ old
StoresIn area state (Some r) old new = SameBut (area + 4096 * page_to_write state r) 4096 old new

-- The later changes of a plan, after so many: the table, the kernel space and a last record.
pub record MakesLater {T : Type 0} (done : ℕ) (to : Targets) (state : NvState) (plan : Plan) (old new : World)
    (result : Result T Fault) : Type 0 where
  pub carried : CarriesOut done to state (later_changes plan) old new result
  pub kept : IsTrue old.flash.medium.told → KeepsWritten to.area state old.flash.medium.bytes new.flash.medium.bytes
  -- a record is stored in one page alone
  pub page : IsTrue old.flash.medium.told → StoresIn to.area state plan.last old.flash.medium.bytes new.flash.medium.bytes
  pub drives : WritesTable plan.table to.table old new result

-- The changes of a plan, in their order, where this is the table that is written.
pub record Makes {T : Type 0} (table : PartitionTable) (found : Found) (plan : Plan) (old new : World) (result : Result T Fault) : Type 0 where
  pub carried : CarriesOut 0 (to_of found table) found.state (changes_of plan) old new result
  -- what was written in the current page of nvdata stays
  pub kept : IsTrue old.flash.medium.told → KeepsWritten found.map.nvram.at found.state old.flash.medium.bytes new.flash.medium.bytes
  pub drives : WritesTable plan.table table old new result

-- ---- locking

-- Both spaces are locked, after so many changes.
pub record LocksBoth (done : ℕ) (old new : World) (result : Result Unit Fault) : Type 0 where
  pub looks : Looks old new result
  pub drives : SameDrives old new
  pub locked : OnOk result (new.tpm.locks ≡ both_locked)
  pub fault : IfErr result (λ fault. fault.done ≡ done)

-- the locks by what a boot comes to: both spaces are locked where it goes on, and neither where it ends
abbrev pub locks_at : Outcome → Locks
locks_at (outcome.HandOver hand) = both_locked
locks_at other = unlocked

pub record LocksAt (outcome : Outcome) (done : ℕ) (old new : World) (result : Result Unit Fault) : Type 0 where
  pub looks : Looks old new result
  pub drives : SameDrives old new
  pub locks : OnOk result (new.tpm.locks ≡ locks_at outcome)
  pub fault : IfErr result (λ fault. fault.done ≡ done)

-- The changes of a plan, and then both locks where the boot goes on.
pub record Finishes (table : PartitionTable) (found : Found) (plan : Plan) (old new : World) (result : Result Outcome Fault) : Type 0 where
  pub makes : Makes table found plan old new result
  pub locks : IfOk result (λ outcome. new.tpm.locks ≡ locks_at outcome)
  pub outcome : IfOk result (λ outcome. outcome ≡ plan.outcome)
