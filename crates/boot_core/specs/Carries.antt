-- Parts of a boot: reads and checks, and changes that are made one after another, up to the first call that fails.
use Rattle.std.specs.Prelude.{◌≡◌, ◌⊎◌, ℕ, ◌+◌, ◌<◌, ◌≤◌, List, [], ◌∷◌, ◌++◌, length, fold, All, IsTrue, Result, is_err, OnOk, IfErr}
use Rattle.board_core.specs.declared.counters.FuseState.TheVariants.{Armed, Dead}
use Rattle.board_core.specs.declared.device.Device.{Device}
use Rattle.board_core.specs.declared.device.Device.TheVariants as device
use Rattle.board_core.specs.declared.device.Fault.{Fault}
use Rattle.board_core.specs.Counters.{MadeStep, CountsFaults, Rose}
use Rattle.board_core.specs.Torn.{Grown, added}
use Rattle.board_core.specs.Fault.{is_fault_of}
use Rattle.board_core.specs.Flash.{FlashMedium}
use Rattle.board_core.specs.Disk.{DiskMedium}
use Rattle.board_core.specs.World.{World, counters_on}
use Rattle.nvstore_core.specs.declared.state.NvState.{NvState}
use Rattle.nvstore_core.specs.Pages.{record_in}
use Rattle.nvstore_core.specs.Saving.{SameButPages}
use Rattle.nvstore_core.specs.Fair.{FailsToStore}
use Rattle.gpt_core.specs.Format.{PartitionTable}
use Rattle.gpt_core.specs.Tables.{table_in}
use Rattle.gpt_core.specs.Commits.{SameButCopies, IsOfCommit, FailsToCommit, bytes_with_table}
use Rattle.boot_core.specs.Changes.{Change, Record, Table, flash_with, record_with, spaces_with, disk_with, table_with, device_of, calls_on}

-- where changes go: the place of nvdata in the flash, in bytes, and the table that is written
pub record Targets : Type 0 where
  pub area : ℕ
  pub table : PartitionTable

-- nothing is pending on either disk
pub record IsSettled (w : World) : Type 0 where
  pub disk : w.disk.medium.pending ≡ 0
  pub stick : w.stick.medium.pending ≡ 0

-- ---- what is counted

-- How many changing calls each device had. The device that failed counted it, and no other counted a fault.
pub record CountsBoard {T : Type 0} (calls : Device → ℕ) (old new : World) (result : Result T Fault) : Type 0 where
  pub flash : MadeStep old.flash.counters new.flash.counters (calls device.Flash) (is_err result) (is_fault_of device.Flash result)
  pub tpm : MadeStep old.tpm.counters new.tpm.counters (calls device.Tpm) (is_err result) (is_fault_of device.Tpm result)
  pub disk : MadeStep old.disk.counters new.disk.counters (calls device.Disk) (is_err result) (is_fault_of device.Disk result)
  pub stick : MadeStep old.stick.counters new.stick.counters (calls device.Stick) (is_err result) (is_fault_of device.Stick result)
  pub hook : CountsFaults old.hook.faults new.hook.faults (is_fault_of device.Hook result)

-- ---- what stays, whatever the answer

-- the flash but for the two pages of nvdata
pub record FrameFlash (area : ℕ) (old new : FlashMedium) : Type 0 where
  pub size : new.size ≡ old.size
  pub told : new.told ≡ old.told
  pub bytes : IsTrue old.told → SameButPages area old.bytes new.bytes
  -- no record of a torn range is lost
  pub torn : IsTrue old.told → Grown old.torn new.torn

-- the disk but for both copies of its table and the number of sectors read
pub record FrameDisk (old new : DiskMedium) : Type 0 where
  pub sectors : new.sectors ≡ old.sectors
  pub told : new.told ≡ old.told
  pub none_pending : new.pending ≡ 0
  pub bytes : IsTrue old.told → SameButCopies old.sectors old.bytes new.bytes
  pub torn : IsTrue old.told → Grown old.torn new.torn

-- a disk that is only read: all but the number of sectors read, and nothing is pending where nothing was
pub record SameDisk (old new : DiskMedium) : Type 0 where
  pub sectors : new.sectors ≡ old.sectors
  pub told : new.told ≡ old.told
  pub none_pending : old.pending ≡ 0 → new.pending ≡ 0
  pub bytes : IsTrue old.told → new.bytes ≡ old.bytes
  pub torn : IsTrue old.told → new.torn ≡ old.torn

-- the stick but for the number of sectors read
pub record FrameStick (old new : DiskMedium) : Type 0 where
  pub sectors : new.sectors ≡ old.sectors
  pub told : new.told ≡ old.told
  pub none_pending : new.pending ≡ 0
  pub bytes : IsTrue old.told → new.bytes ≡ old.bytes
  pub torn : IsTrue old.told → new.torn ≡ old.torn

pub record Frame (area : ℕ) (old new : World) : Type 0 where
  pub flash : FrameFlash area old.flash.medium new.flash.medium
  pub tpm_told : new.tpm.told ≡ old.tpm.told
  pub disk : FrameDisk old.disk.medium new.disk.medium
  pub stick : FrameStick old.stick.medium new.stick.medium
  pub hook_told : new.hook.told ≡ old.hook.told
  pub rows : new.hook.rows ≡ old.hook.rows
  pub map_at : new.map_at ≡ old.map_at

-- ---- changes that are made

-- the flash with these changes
pub record MadeFlash (area : ℕ) (changes : List Change) (old new : FlashMedium) : Type 0 where
  pub bytes : new.bytes ≡ fold (flash_with area) old.bytes changes
  pub stands : record_in area new.bytes ≡ fold record_with (record_in area old.bytes) changes
  pub torn : new.torn ≡ old.torn

-- the disk with these changes
pub record MadeDisk (table : PartitionTable) (changes : List Change) (old new : DiskMedium) : Type 0 where
  pub bytes : new.bytes ≡ fold (disk_with old.sectors table) old.bytes changes
  pub stands : table_in new.sectors new.bytes ≡ fold (table_with table) (table_in old.sectors old.bytes) changes
  pub torn : new.torn ≡ old.torn

-- these changes are made on each device that tells what it holds, and nothing is torn
pub record IsMade (to : Targets) (changes : List Change) (old new : World) : Type 0 where
  pub flash : IsTrue old.flash.medium.told → MadeFlash to.area changes old.flash.medium new.flash.medium
  pub spaces : IsTrue old.tpm.told → new.tpm.spaces ≡ fold spaces_with old.tpm.spaces changes
  pub disk : IsTrue old.disk.medium.told → MadeDisk to.table changes old.disk.medium new.disk.medium

-- ---- a change that failed

-- one of two values stands
abbrev pub OldOrNew : {A : Type 0} → A → A → A → Type 0
OldOrNew before after now = (now ≡ before) ⊎ (now ≡ after)

-- each record of a torn sector that was added is of one of the copies, and was meant to hold what this table has there
abbrev pub NotesTable : PartitionTable → DiskMedium → DiskMedium → Type 0
NotesTable table old new = All (IsOfCommit old.sectors (bytes_with_table old.sectors table old.bytes)) (added old.torn new.torn)

-- a table that was not written whole: on a fair disk the old one stands or the new one
pub record FailsToWrite (table : PartitionTable) (old new : DiskMedium) : Type 0 where
  pub stands : IsTrue old.told → FailsToCommit table old new
  pub noted : IsTrue old.told → NotesTable table old new

-- what the change that failed leaves on its device; the others were not called
abbrev pub Fails : Targets → Change → World → World → Type 0
Fails to (Record r) old new =
    FailsToStore to.area r old.flash.medium new.flash.medium × (new.tpm.spaces ≡ old.tpm.spaces) × (new.disk.medium ≡ old.disk.medium)
Fails to Table old new =
    FailsToWrite to.table old.disk.medium new.disk.medium × (new.tpm.spaces ≡ old.tpm.spaces) × (new.flash.medium ≡ old.flash.medium)
Fails to change old new =
    (IsTrue old.tpm.told → OldOrNew old.tpm.spaces (spaces_with old.tpm.spaces change) new.tpm.spaces)
    × (new.flash.medium ≡ old.flash.medium) × (new.disk.medium ≡ old.disk.medium)

-- A fault between two changes: those before it are whole, and no other has begun. `base` changes came before them all.
pub record EndsBetween (base : ℕ) (to : Targets) (changes : List Change) (fault : Fault) (old new : World) : Type 0 where
  pub before : List Change
  pub behind : List Change
  pub place : changes ≡ before ++ behind
  pub done : fault.done ≡ base + length before
  pub whole : IsMade to before old new
  -- no stop fell
  pub alive : (on : Device) → (counters_on on new).stop ≡ Dead → (counters_on on old).stop ≡ Dead

-- A fault in a change: those before it are whole. Its device is the one that failed, in a changing call, and a stop that fell
-- fell in it.
pub record EndsIn (base : ℕ) (to : Targets) (state : NvState) (changes : List Change) (fault : Fault) (old new : World) : Type 0 where
  pub before : List Change
  pub next : Change
  pub behind : List Change
  pub place : changes ≡ before ++ next ∷ behind
  pub done : fault.done ≡ base + length before
  pub device : fault.device ≡ device_of next
  pub broke : Rose (counters_on (device_of next) old).failed_changes (counters_on (device_of next) new).failed_changes
  pub fell : (left keep : ℕ) → (counters_on (device_of next) old).stop ≡ Armed left keep → (counters_on (device_of next) new).stop ≡ Dead
      → (calls_on (device_of next) state before < left) × (left ≤ calls_on (device_of next) state (before ++ next ∷ []))
  -- the world before that change
  pub mid : World
  pub mid_frame : Frame to.area old mid
  pub whole : IsMade to before old mid
  pub failed : Fails to next mid new

abbrev pub EndsAt : ℕ → Targets → NvState → List Change → Fault → World → World → Type 0
EndsAt base to state changes fault old new = EndsBetween base to changes fault old new ⊎ EndsIn base to state changes fault old new

-- A part of a boot, which makes these changes. `base` changes came before them, and `state` is that of nvdata before them.
pub record CarriesOut {T : Type 0} (base : ℕ) (to : Targets) (state : NvState) (changes : List Change) (old new : World)
    (result : Result T Fault) : Type 0 where
  pub counts : CountsBoard (λ on. calls_on on state changes) old new result
  pub frame : Frame to.area old new
  pub made : OnOk result (IsMade to changes old new)
  pub ends : IfErr result (λ fault. EndsAt base to state changes fault old new)
