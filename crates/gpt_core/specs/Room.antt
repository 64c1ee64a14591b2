-- What a room for a table holds, and what is found in a disk.
use Rattle.std.specs.Prelude.{◌≡◌, ◌↔◌, ℕ, ◌+◌, ◌-◌, ◌≤◌, List, drop, replicate, Bool, true, false, IsTrue, Option, Some, None, Result, is_err, IfOk, OnErr}
use Rattle.board_core.specs.Counters.{Observed}
use Rattle.board_core.specs.Disk.{DiskState}
use Rattle.gpt_core.specs.declared.side.Side.{Side}
use Rattle.gpt_core.specs.declared.side.Side.TheVariants.{Primary, Backup}
use Rattle.gpt_core.specs.declared.entry.Entry.{Entry}
use Rattle.gpt_core.specs.declared.found.Found.{Found}
use Rattle.gpt_core.specs.declared.found.Found.TheVariants as found
use Rattle.gpt_core.specs.Entries.{no_entries, EntriesFit, with_entry, with_attributes}
use Rattle.gpt_core.specs.Placing.{with_each}
use Rattle.gpt_core.specs.Format.{PartitionTable, IsValidTable, table_of_image}
use Rattle.gpt_core.specs.Copies.{copy_of}
use Rattle.gpt_core.specs.Tables.{IsSource}
use Rattle.gpt_core.specs.Reads.{KeepsDisk}

-- Bytes with zeros behind so many of them, up to a sector.
pub record IsPadded (len : ℕ) (bytes : List ℕ) : Type 0 where
  pub fits : len ≤ 512
  pub zeros : drop len bytes ≡ replicate (512 - len) 0

-- What contracts see of a room.
pub record RoomView : Type 0 where
  -- the number of sectors of the disk, or 0 where the room has no table of one
  pub sectors : ℕ
  -- the copy that was read
  pub source : Option Side
  -- whether both copies agreed then
  pub agree : Bool
  -- the table that was read
  pub found : PartitionTable
  -- the table as it is now
  pub table : PartitionTable

-- ---- tables

-- no GUID, no usable sector and no entry
abbrev pub empty_table : PartitionTable
empty_table = record { guid = replicate 16 0; first_usable = 0; last_usable = 0; entries = no_entries }

-- a new table of a disk with so many sectors: all that the copies leave is usable, and no entry is used
abbrev pub new_table : ℕ → List ℕ → PartitionTable
new_table sectors guid = record { guid = guid; first_usable = 34; last_usable = sectors - 34; entries = no_entries }

-- the table with this as entry k, or with these attributes there
abbrev pub table_with_entry : PartitionTable → ℕ → Entry → PartitionTable
table_with_entry table k entry = record table { entries = with_entry table.entries k entry }

abbrev pub table_with_attributes : PartitionTable → ℕ → ℕ → PartitionTable
table_with_attributes table k attributes = record table { entries = with_attributes table.entries k attributes }

-- or with its attributes in each entry
abbrev pub table_with_each : PartitionTable → (ℕ → ℕ) → PartitionTable
table_with_each table attributes = record table { entries = with_each 128 attributes table.entries }

-- what is asked of an entry that is put into a table: the entries fit then
abbrev pub Fits : PartitionTable → ℕ → Entry → Type 0
Fits table k entry = EntriesFit table.first_usable table.last_usable (with_entry table.entries k entry)

-- ---- rooms

abbrev pub empty_room : RoomView
empty_room = record { sectors = 0; source = None; agree = false; found = empty_table; table = empty_table }

-- the table can stand on the disk, where there is one
abbrev pub IsSound : ℕ → PartitionTable → Type 0
IsSound sectors table = 1 ≤ sectors → IsValidTable sectors table

-- a room with a table that was read
abbrev pub room_with : ℕ → Side → Bool → PartitionTable → RoomView
room_with sectors source agree table = record { sectors = sectors; source = Some source; agree = agree; found = table; table = table }

-- the same, as it was found
abbrev pub found_room : Found → ℕ → PartitionTable → RoomView
found_room (found.Primary agree) sectors table = room_with sectors Primary agree table
found_room found.Backup sectors table = room_with sectors Backup false table
found_room found.None sectors table = empty_room

-- a room in which a table was started: what was read stays noted
abbrev pub started_room : RoomView → ℕ → List ℕ → RoomView
started_room room sectors guid = record room { sectors = sectors; table = new_table sectors guid }

-- a room whose table stands in both copies of the disk
abbrev pub committed_room : RoomView → RoomView
committed_room room = room_with room.sectors Primary true room.table

-- ---- what is found

-- what is found in two copies: the table of the good primary, else of the good backup, else none
abbrev pub IsFoundIn : Found → ℕ → List ℕ → List ℕ → PartitionTable → Type 0
IsFoundIn (found.Primary agree) sectors primary backup table =
    (table_of_image Primary sectors primary ≡ Some table) × (IsTrue agree ↔ (table_of_image Backup sectors backup ≡ Some table))
IsFoundIn found.Backup sectors primary backup table =
    (table_of_image Primary sectors primary ≡ None) × (table_of_image Backup sectors backup ≡ Some table)
IsFoundIn found.None sectors primary backup table =
    (table_of_image Primary sectors primary ≡ None) × (table_of_image Backup sectors backup ≡ None)

-- the same in the bytes of a disk
abbrev pub IsFoundOn : Found → ℕ → List ℕ → PartitionTable → Type 0
IsFoundOn what sectors bytes table = IsFoundIn what sectors (copy_of Primary sectors bytes) (copy_of Backup sectors bytes) table

-- a table that was found can stand on the disk
abbrev pub IsValidFound : Found → ℕ → PartitionTable → Type 0
IsValidFound (found.Primary agree) sectors table = IsValidTable sectors table
IsValidFound found.Backup sectors table = IsValidTable sectors table
IsValidFound found.None sectors table = Unit {0}

-- whether a copy was taken, and then what was
pub record Takes (side : Side) (sectors : ℕ) (copy : List ℕ) (table : PartitionTable) (taken : Bool) : Type 0 where
  pub good : taken ≡ true → table_of_image side sectors copy ≡ Some table
  pub valid : taken ≡ true → IsValidTable sectors table
  pub bad : taken ≡ false → table_of_image side sectors copy ≡ None

-- ---- calls

-- Both copies are read, on a disk on which nothing is pending.
pub record ReadsBoth {E : Type 0} (primary backup : List ℕ) (old new : DiskState) (result : Result Unit E) : Type 0 where
  pub counters : Observed old.counters new.counters (is_err result)
  pub keeps : KeepsDisk old.medium new.medium
  pub filled : IsTrue old.medium.told → IfOk result (λ done.
      (primary ≡ copy_of Primary old.medium.sectors old.medium.bytes)
      × (backup ≡ copy_of Backup old.medium.sectors old.medium.bytes))
  pub no_fewer : IsTrue old.medium.told → old.medium.sectors_read ≤ new.medium.sectors_read
  pub no_more : IsTrue old.medium.told → new.medium.sectors_read ≤ old.medium.sectors_read + 66

-- The table of a disk is read into a room, on a disk on which nothing is pending.
pub record ReadsTable {E : Type 0} (old new : DiskState) (room : RoomView) (result : Result Found E) : Type 0 where
  -- a disk that failed counted it once, and nothing else moves its counters
  pub counters : Observed old.counters new.counters (is_err result)
  -- the disk holds what it held, and nothing is pending
  pub keeps : KeepsDisk old.medium new.medium
  -- at most 66 sectors are read
  pub no_fewer : IsTrue old.medium.told → old.medium.sectors_read ≤ new.medium.sectors_read
  pub no_more : IsTrue old.medium.told → new.medium.sectors_read ≤ old.medium.sectors_read + 66
  -- the room holds what was found
  pub holds : IfOk result (λ what. room ≡ found_room what old.medium.sectors room.table)
  -- which can stand on the disk, told or not
  pub fits : IfOk result (λ what. IsValidFound what old.medium.sectors room.table)
  -- and is what the copies say
  pub found : IsTrue old.medium.told → IfOk result (λ what. IsFoundOn what old.medium.sectors old.medium.bytes room.table)
  pub failed : OnErr result (room ≡ empty_room)

-- What a commit asks of the disk and of the room.
pub record CanCommit (disk : DiskState) (room : RoomView) : Type 0 where
  pub settled : disk.medium.pending ≡ 0
  pub known : 1 ≤ room.sectors
  pub same_disk : room.sectors ≡ disk.medium.sectors
  pub source : IsTrue disk.medium.told → IsSource room.source disk.medium.sectors disk.medium.bytes
