-- What the commands do to a disk, and what they put into a sink.
use Rattle.std.specs.Prelude.{◌≡◌, ◌↔◌, ◌⊎◌, ℕ, ◌≤◌, Bool, true, false, IsTrue, List, ◌++◌, All, Option, Some, None, Result, Ok, is_err, OnOk, OnErr, IfOk, IfSome, IfNone}
use Rattle.board_core.specs.Counters.{CountsFaults, Observed, MadeChanges, Rose}
use Rattle.board_core.specs.Disk.{DiskMedium, DiskState, Flushed}
use Rattle.board_core.specs.Streams.{StreamState, IsFrontPut}
use Rattle.board_core.specs.Torn.{Grown, added}
use Rattle.gpt_core.specs.declared.side.Side.TheVariants as side
use Rattle.gpt_core.specs.declared.found.Found.{Found}
use Rattle.gpt_core.specs.declared.found.Found.TheVariants as found
use Rattle.gpt_core.specs.Commits.{SameButCopies, IsOfCommit, FailsToCommit, Commits, bytes_with_table}
use Rattle.gpt_core.specs.Format.{PartitionTable, IsValidTable}
use Rattle.gpt_core.specs.Reads.{KeepsDisk}
use Rattle.gpt_core.specs.Room.{RoomView, room_with, empty_room}
use Rattle.gpt_core.specs.Tables.{table_in, table_on, IsSource, CopiesAgree, BothHold}
use Rattle.cgpt_core.specs.declared.call.CgptCall.{CgptCall}
use Rattle.cgpt_core.specs.declared.fault.CgptFault.{CgptFault}
use Rattle.cgpt_core.specs.declared.opening.Opened.{Opened}
use Rattle.cgpt_core.specs.Faults.{is_device, is_write}
use Rattle.cgpt_core.specs.Plans.{Standing, Plan, told, plan_of, is_reader}

-- ---- the table of a disk

-- The table of the disk, the copy from which it is taken, and whether both copies agree.
pub record IsOpened (opened : Opened) (sectors : ℕ) (bytes : List ℕ) (table : PartitionTable) : Type 0 where
  pub good : table_in sectors bytes ≡ Some table
  pub source : IsSource (Some opened.side) sectors bytes
  pub agrees : IsTrue opened.agree ↔ CopiesAgree sectors bytes

abbrev pub opened_of : Found → Option Opened
opened_of (found.Primary agree) = Some (record { side = side.Primary; agree = agree })
opened_of found.Backup = Some (record { side = side.Backup; agree = false })
opened_of found.None = None

-- A room holds the table that was found.
pub record Holds (sectors : ℕ) (room : RoomView) (opened : Opened) : Type 0 where
  pub is : room ≡ room_with sectors opened.side opened.agree room.table
  pub known : 1 ≤ room.sectors
  pub valid : IsValidTable room.sectors room.table

-- The table of a disk on which nothing is pending is read into a room.
pub record Opens {E : Type 0} (old new : DiskState) (room : RoomView) (result : Result (Option Opened) E) : Type 0 where
  pub counters : Observed old.counters new.counters (is_err result)
  pub keeps : KeepsDisk old.medium new.medium
  pub no_fewer : IsTrue old.medium.told → old.medium.sectors_read ≤ new.medium.sectors_read
  pub holds : IfOk result (λ found. IfSome found (Holds old.medium.sectors room))
  pub found : IsTrue old.medium.told → IfOk result
      (λ found. IfSome found (λ opened. IsOpened opened old.medium.sectors old.medium.bytes room.table))
  pub none : IsTrue old.medium.told → IfOk result (λ found. IfNone found (IsSource None old.medium.sectors old.medium.bytes))
  pub empty : IfOk result (λ found. IfNone found (room ≡ empty_room))

-- the table that stands on a disk, or none where neither copy is good
abbrev pub IsStanding : Option Standing → DiskMedium → Type 0
IsStanding (Some standing) medium = IsOpened standing.opened medium.sectors medium.bytes standing.table
IsStanding None medium = table_on medium ≡ None

-- what an opened room holds
abbrev pub standing_of : Option Opened → PartitionTable → Option Standing
standing_of (Some opened) table = Some (record { opened = opened; table = table })
standing_of None table = None

-- ---- what becomes of the disk

-- A table stands in both copies, all other bytes are as they were, and no record was added.
pub record IsWritten (table : PartitionTable) (old new : DiskMedium) : Type 0 where
  pub written : Flushed (record old { bytes = bytes_with_table old.sectors table old.bytes }) new
  pub holds : BothHold table old.sectors new.bytes

-- The commit of a table failed in a changing call, which the disk counted. Where what it left is fair, the table is the one
-- that it was, or this one.
pub record IsBroken (table : PartitionTable) (old new : DiskState) : Type 0 where
  pub broke : Rose old.counters.failed_changes new.counters.failed_changes
  -- no record is lost, and those that are new are of sectors which were meant to hold this table
  pub kept : Grown old.medium.torn new.medium.torn
  pub noted : All (IsOfCommit old.medium.sectors (bytes_with_table old.medium.sectors table old.medium.bytes))
      (added old.medium.torn new.medium.torn)
  pub fails : FailsToCommit table old.medium new.medium

-- nothing is written, by no changing call, or this table by 6
abbrev pub LeavesTable : Option PartitionTable → (calls : ℕ) → DiskMedium → DiskMedium → Type 0
LeavesTable (Some table) calls old new = (calls ≡ 6) × IsWritten table old new
LeavesTable None calls old new = (calls ≡ 0) × KeepsDisk old new

-- the commit of the table that was to be written failed
abbrev pub BreaksTable : Option PartitionTable → (calls : ℕ) → DiskState → DiskState → Type 0
BreaksTable (Some table) calls old new = (calls ≡ 6) × IsBroken table old new
BreaksTable None calls old new = ⊥

-- What a command does to its disk, whatever it comes to.
pub record CallsDisk (calls : ℕ) (failed : Bool) (old new : DiskState) : Type 0 where
  -- the disk had so many changing calls, and counted one failed call where it is said to have failed, and none else
  pub counters : MadeChanges old.counters new.counters calls failed
  pub all_or_none : (calls ≡ 0) ⊎ (calls ≡ 6)
  pub sectors : new.medium.sectors ≡ old.medium.sectors
  pub told : new.medium.told ≡ old.medium.told
  pub none_pending : new.medium.pending ≡ 0
  -- the number of sectors read does not fall
  pub no_fewer : IsTrue old.medium.told → old.medium.sectors_read ≤ new.medium.sectors_read
  -- all outside both copies stays
  pub frame : IsTrue old.medium.told → SameButCopies old.medium.sectors old.medium.bytes new.medium.bytes

-- and to its sink
pub record CallsSink (old new : StreamState) (result : Result Unit CgptFault) : Type 0 where
  -- the sink counted one failed call where it is said to have failed, and none else
  pub faults : CountsFaults old.faults new.faults (is_write result)
  pub told : new.told ≡ old.told
  -- nothing is put where the disk failed
  pub silent : IsTrue old.told → is_device result ≡ true → new.bytes ≡ old.bytes

-- ---- a command and its plan

-- What is answered and put, by a plan.
pub record Tells (plan : Plan) (put put' : StreamState) (result : Result Unit CgptFault) : Type 0 where
  -- unless the disk or the sink failed, the answer and the lines are those of the plan
  pub answer : is_device result ≡ false → is_write result ≡ false → result ≡ plan.answer
  pub lines : IsTrue put.told → is_device result ≡ false → is_write result ≡ false → put'.bytes ≡ put.bytes ++ plan.lines
  -- a sink fails only where the plan is not refused, and then a beginning of the lines was put
  pub done : is_write result ≡ true → plan.answer ≡ Ok tt
  pub front : IsTrue put.told → is_write result ≡ true → IsFrontPut plan.lines put.bytes put'.bytes

-- One text is put, by a command whose disk did not fail.
pub record PutsWord (word : List ℕ) (put put' : StreamState) (result : Result Unit CgptFault) : Type 0 where
  pub device : is_device result ≡ false
  pub sink : CallsSink put put' result
  pub tells : Tells (told word) put put' result

-- the disk failed before its table was known, and nothing was changed
pub record IsUnread (calls : ℕ) (old new : DiskMedium) (result : Result Unit CgptFault) : Type 0 where
  pub answer : is_device result ≡ true
  pub none : calls ≡ 0
  pub keeps : KeepsDisk old new

-- The table of the disk was read, and the plan for it was followed.
pub record Follows (call : CgptCall) (guid : List ℕ) (calls : ℕ) (old new : DiskState) (put put' : StreamState)
    (result : Result Unit CgptFault) : Type 0 where
  -- what stands on the disk, which has one such only
  pub standing : Option Standing
  pub stands : IsStanding standing old.medium
  pub tells : Tells (plan_of old.medium.sectors standing call guid) put put' result
  -- the table of the plan is written, or none, unless the disk failed in writing it
  pub leaves : is_device result ≡ false → LeavesTable (plan_of old.medium.sectors standing call guid).table calls old.medium new.medium
  pub breaks : is_device result ≡ true → BreaksTable (plan_of old.medium.sectors standing call guid).table calls old new

-- A command on the table of a disk, with a GUID that it may use.
pub record Works (call : CgptCall) (guid : List ℕ) (old new : DiskState) (put put' : StreamState)
    (result : Result Unit CgptFault) : Type 0 where
  -- the number of changing calls
  pub calls : ℕ
  pub disk : CallsDisk calls (is_device result) old new
  pub sink : CallsSink put put' result
  -- `show` and `find` make no changing call, whether the disk tells its content or not
  pub reads : is_reader call.command ≡ true → Observed old.counters new.counters (is_device result)
  pub planned : IsTrue old.medium.told
      → IsUnread calls old.medium new.medium result ⊎ Follows call guid calls old new put put' result

-- The table of a room is written where it does not stand already in both copies.
pub record Saves {E : Type 0} (room : RoomView) (old new : DiskState) (result : Result Unit E) : Type 0 where
  pub is_written : Bool
  pub stood : (is_written ≡ false) ↔ (IsTrue room.agree × (room.table ≡ room.found))
  pub kept : is_written ≡ false → (new ≡ old) × (is_err result ≡ false)
  pub written : is_written ≡ true → Commits room.source room.table old new result
