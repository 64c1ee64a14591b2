-- What a commit does to a disk.
use Rattle.std.specs.Prelude.{◌≡◌, ◌⊎◌, ℕ, ◌+◌, ◌*◌, ◌-◌, ◌≤◌, List, length, take, All, IsTrue, Result, is_err, OnOk, OnErr, Option, Some}
use Rattle.board_core.specs.declared.torn.Torn.{Torn}
use Rattle.board_core.specs.Counters.{MadeChanges, Rose}
use Rattle.board_core.specs.Torn.{Grown, added}
use Rattle.board_core.specs.Flash.{range}
use Rattle.board_core.specs.Disk.{DiskMedium, DiskState, Flushed, IsSectorOf}
use Rattle.gpt_core.specs.declared.side.Side.{Side}
use Rattle.gpt_core.specs.declared.side.Side.TheVariants.{Primary, Backup}
use Rattle.gpt_core.specs.Copies.{Content, other_side, first_side, copy_at, copy_of, image_of, committed}
use Rattle.gpt_core.specs.Format.{PartitionTable, content_of}
use Rattle.gpt_core.specs.Tables.{table_on, BothHold, IsFairDisk}

-- All bytes outside both copies stay: sector 0, and those between the copies.
pub record SameButCopies (sectors : ℕ) (old new : List ℕ) : Type 0 where
  pub size : length new ≡ length old
  pub before : take 512 new ≡ take 512 old
  pub between : range new 17408 ((sectors - 67) * 512) ≡ range old 17408 ((sectors - 67) * 512)

-- a range of a copy
abbrev pub IsInCopy : Side → ℕ → ℕ → ℕ → Type 0
IsInCopy side sectors at count = (copy_at side sectors ≤ at) × (at + count ≤ copy_at side sectors + 16896)

-- A record of a sector of a copy, which was meant to hold what this commit writes there.
pub record IsOfCommit (sectors : ℕ) (target : List ℕ) (torn : Torn) : Type 0 where
  pub sector : IsSectorOf (sectors * 512) torn
  pub place : IsInCopy Primary sectors torn.at 512 ⊎ IsInCopy Backup sectors torn.at 512
  pub meant : torn.meant ≡ range target torn.at 512

-- Both copies are written, the source last.
pub record WritesBoth {E : Type 0} (content : Content) (old new : DiskState) (result : Result Unit E) : Type 0 where
  pub counters : MadeChanges old.counters new.counters 6 (is_err result)
  -- what failed was a changing call
  pub broke : IsTrue (is_err result) → Rose old.counters.failed_changes new.counters.failed_changes
  pub sectors : new.medium.sectors ≡ old.medium.sectors
  pub told : new.medium.told ≡ old.medium.told
  pub sectors_read : new.medium.sectors_read ≡ old.medium.sectors_read
  -- nothing is pending, whatever the answer
  pub none_pending : new.medium.pending ≡ 0
  -- whatever the answer
  pub frame : IsTrue old.medium.told → SameButCopies old.medium.sectors old.medium.bytes new.medium.bytes
  -- both copies stand, all else stays, and no record was added
  pub ok : IsTrue old.medium.told → OnOk result
      (Flushed (record old.medium { bytes = committed old.medium.sectors content old.medium.bytes }) new.medium)
  -- no record is lost
  pub kept : IsTrue old.medium.told → Grown old.medium.torn new.medium.torn
  pub noted : IsTrue old.medium.told →
      All (IsOfCommit old.medium.sectors (committed old.medium.sectors content old.medium.bytes)) (added old.medium.torn new.medium.torn)

-- The second copy is touched only when the first one stands. The first is the one that is not the source, and the primary
-- where there is no source.
abbrev pub InOrder : Option Side → Content → DiskMedium → DiskMedium → Type 0
InOrder source content old new =
    (copy_of (other_side (first_side source)) old.sectors new.bytes ≡ copy_of (other_side (first_side source)) old.sectors old.bytes)
    ⊎ (copy_of (first_side source) old.sectors new.bytes ≡ image_of (first_side source) content)

-- A commit of this table that failed: where what it left is fair, the table is the old one or this one.
abbrev pub FailsToCommit : PartitionTable → DiskMedium → DiskMedium → Type 0
FailsToCommit table old new = IsFairDisk table old new → (table_on new ≡ table_on old) ⊎ (table_on new ≡ Some table)

-- the bytes of a disk after a commit of this table
abbrev pub bytes_with_table : ℕ → PartitionTable → List ℕ → List ℕ
bytes_with_table sectors table bytes = committed sectors (content_of sectors table) bytes

-- The commit of a table.
pub record Commits {E : Type 0} (source : Option Side) (table : PartitionTable)
    (old new : DiskState) (result : Result Unit E) : Type 0 where
  -- 6 changing calls at most, nothing is pending, and all outside both copies stays
  pub writes : WritesBoth (content_of old.medium.sectors table) old new result
  pub order : IsTrue old.medium.told → OnErr result (InOrder source (content_of old.medium.sectors table) old.medium new.medium)
  -- both copies are good, and give the table
  pub holds : IsTrue old.medium.told → OnOk result (BothHold table old.medium.sectors new.medium.bytes)
  pub fails : IsTrue old.medium.told → OnErr result (FailsToCommit table old.medium new.medium)
