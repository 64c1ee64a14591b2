-- What a fuse over a disk keeps of the disk below, and what each part of a call makes of it. This file names no fuse, so
-- that the fuse can cite it.
use Rattle.std.specs.Prelude.{◌≡◌, ◌⊎◌, List, ℕ, ◌+◌, ◌*◌, ◌/◌, ◌≤◌, min, [], ◌∷◌, ◌++◌, length, take, drop, All, Bool, true, false, IsTrue, IsErr, OnOk, OnErr, Result, Ok, is_err}
use Rattle.board_core.specs.declared.device.Failed.{Failed}
use Rattle.board_core.specs.declared.torn.Torn.{Torn}
use Rattle.board_core.specs.Torn.{torn_records}
use Rattle.board_core.specs.Flash.{range, spliced}
use Rattle.board_core.specs.Disk.{DiskMedium, DiskState, ReadsDisk, WritesDisk, Flushes, LeftDiskTorn, IsSectorOf, overlaid, write_records}

-- what a disk holds, with one more log of torn sectors
abbrev pub with_disk_log : DiskMedium → List Torn → DiskMedium
with_disk_log medium log = record medium { torn = medium.torn ++ log ∷ [] }

-- An armed fuse has this list of the pending writes of the disk below.
pub record Mirrors (medium : DiskMedium) (writes : List Torn) : Type 0 where
  pub as_many : length writes ≡ medium.pending
  pub few : length writes ≤ 64
  pub in_sectors : All (IsSectorOf (medium.sectors * 512)) writes
  -- they are the disk's, where it tells them
  pub known : IsTrue medium.told → medium.writes ≡ writes
  -- and their bytes stand in it, so that putting them over once more changes nothing
  pub stand : IsTrue medium.told → overlaid medium.bytes writes ≡ medium.bytes

-- what a flush left torn, as the disk below and the log of the fuse tell it
abbrev pub TearsFlush : DiskState → DiskState → List Torn → List Torn → Type 0
TearsFlush old new log log' =
    IsTrue old.medium.told → LeftDiskTorn old.medium.writes [] (with_disk_log old.medium log) (with_disk_log new.medium log')

-- what a write left torn, as the disk below and the log of the fuse tell it
abbrev pub TearsWrite : ℕ → List ℕ → DiskState → DiskState → List Torn → List Torn → Type 0
TearsWrite lba meant old new log log' =
    IsTrue old.medium.told → LeftDiskTorn old.medium.writes (write_records lba meant old.medium) (with_disk_log old.medium log)
    (with_disk_log new.medium log')

-- ---- one call of the disk below, which failed or did not: its counts and its stop move as this one call moves them

-- One read, of so many bytes.
pub record OneDiskRead (lba count : ℕ) (old new : DiskState) (failed : Bool) : Type 0 where
  pub buf : List ℕ
  pub fits : length buf ≡ count
  pub answer : Result Unit Failed
  pub answered : is_err answer ≡ failed
  pub read : ReadsDisk lba buf old new answer

-- One write, of these bytes.
pub record OneDiskWrite (lba : ℕ) (bytes : List ℕ) (old new : DiskState) (failed : Bool) : Type 0 where
  pub answer : Result Unit Failed
  pub answered : is_err answer ≡ failed
  pub written : WritesDisk lba bytes old new answer

-- One flush.
pub record OneFlush (old new : DiskState) (failed : Bool) : Type 0 where
  pub answer : Result Unit Failed
  pub answered : is_err answer ≡ failed
  pub flushed : Flushes old new answer

-- One write of these bytes, where there are any, and then one flush.
pub record FlushesFront (lba : ℕ) (front : List ℕ) (old new : DiskState) (failed : Bool) : Type 0 where
  pub mid : DiskState
  pub written : ((length front ≡ 0) × (mid ≡ old)) ⊎ OneDiskWrite lba front old mid false
  pub flush : OneFlush mid new failed

-- the same, which ends at the first failure
abbrev pub WritesFront : ℕ → List ℕ → DiskState → DiskState → Bool → Type 0
WritesFront lba front old new failed = ((failed ≡ true) × OneDiskWrite lba front old new true) ⊎ FlushesFront lba front old new failed

-- ---- the parts of the calls

-- What a write makes of the content of a disk.
pub record WritesContent {E : Type 0} (lba : ℕ) (meant : List ℕ) (old new : DiskMedium) (result : Result Unit E) : Type 0 where
  pub sectors : new.sectors ≡ old.sectors
  pub told : new.told ≡ old.told
  pub pending : OnOk result (new.pending ≡ old.pending + length meant / 512)
  pub none_pending : OnErr result (new.pending ≡ 0)
  pub bytes : IsTrue old.told → OnOk result (new.bytes ≡ spliced old.bytes (lba * 512) meant)
  pub writes : IsTrue old.told → OnOk result (new.writes ≡ old.writes ++ write_records lba meant old)
  pub torn : IsTrue old.told → OnOk result (new.torn ≡ old.torn)
  pub err : IsTrue old.told → OnErr result (LeftDiskTorn old.writes (write_records lba meant old) old new)

-- A write that an armed fuse did not make: the disk below failed in the read of the old bytes.
pub record FailsAtRead (lba : ℕ) (meant : List ℕ) (old new : DiskState) (result : Result Unit Failed) : Type 0 where
  pub failed : IsErr result
  pub was : List ℕ
  pub fits : length was ≡ length meant
  pub read : ReadsDisk lba was old new result

-- A write of an armed fuse: the disk below read the old bytes, and then it did and answered what its write does.
pub record WritesAfterRead (lba : ℕ) (meant : List ℕ) (old new : DiskState) (result : Result Unit Failed) : Type 0 where
  pub was : List ℕ
  pub fits : length was ≡ length meant
  pub mid : DiskState
  pub read : ReadsDisk {E = Failed} lba was old mid (Ok tt)
  pub written : WritesDisk lba meant mid new result

-- a write of an armed fuse: the read of the old bytes failed, or the write was made after it
abbrev pub ReadsThenWrites : ℕ → List ℕ → DiskState → DiskState → Result Unit Failed → Type 0
ReadsThenWrites lba meant old new result = FailsAtRead lba meant old new result ⊎ WritesAfterRead lba meant old new result

-- These bytes were written from a sector, and all pending writes last.
pub record WroteFront (lba : ℕ) (front : List ℕ) (old new : DiskMedium) : Type 0 where
  pub bytes : new.bytes ≡ spliced old.bytes (lba * 512) front
  pub writes : new.writes ≡ []
  pub torn : new.torn ≡ old.torn

-- the first sectors of a write last, where the answer is Ok
abbrev pub FrontLasts : ℕ → List ℕ → DiskMedium → DiskMedium → Result Unit Failed → Type 0
FrontLasts lba front old new result = IsTrue old.told → OnOk result (WroteFront lba front old new)

-- they and what was pending are torn, where it is a failure
abbrev pub FrontTorn : ℕ → List ℕ → DiskMedium → DiskMedium → Result Unit Failed → Type 0
FrontTorn lba front old new result = IsTrue old.told → OnErr result (LeftDiskTorn old.writes (write_records lba front old) old new)

-- The part that a chosen write keeps, and its notes, where the log of the fuse is `log` before and `log'` after it.
pub record KeepsSectors (keep lba : ℕ) (meant : List ℕ) (old new : DiskMedium) (log log' : List Torn) : Type 0 where
  -- the number of bytes that are kept: those of whole sectors
  pub kept : ℕ
  pub exact : kept ≡ min (length meant) (keep / 512 * 512)
  pub bytes : new.bytes ≡ spliced old.bytes (lba * 512) (take kept meant)
  -- the disk below notes nothing
  pub torn : new.torn ≡ old.torn
  -- the fuse notes each pending sector, and the whole range
  pub noted : log' ≡ (log ++ old.writes)
      ++ torn_records (lba * 512) (range old.bytes (lba * 512) (length meant)) meant
      (take kept meant ++ drop kept (range old.bytes (lba * 512) (length meant)))

-- The disk below failed in the read of the old bytes. The fuse did no more, and notes nothing.
pub record EndsAtDiskRead (lba count : ℕ) (old new : DiskState) (log log' : List Torn) : Type 0 where
  pub read : OneDiskRead lba count old new true
  pub unnoted : log' ≡ log

-- The disk below read the old bytes, and failed in the write of the part or in the flush after it. The fuse did no more, and
-- notes nothing.
pub record EndsAtFront (keep lba : ℕ) (meant : List ℕ) (old new : DiskState) (log log' : List Torn) : Type 0 where
  pub mid : DiskState
  pub read : OneDiskRead lba (length meant) old mid false
  pub calls : WritesFront lba (take (min (length meant) (keep / 512 * 512)) meant) mid new true
  pub unnoted : log' ≡ log

-- The disk below read the old bytes, wrote the part and made it last.
pub record DoesDiskWrite (keep lba : ℕ) (meant : List ℕ) (old new : DiskState) (log log' : List Torn) : Type 0 where
  pub mid : DiskState
  pub read : OneDiskRead lba (length meant) old mid false
  pub calls : WritesFront lba (take (min (length meant) (keep / 512 * 512)) meant) mid new false
  pub part : IsTrue old.medium.told → KeepsSectors keep lba meant old.medium new.medium log log'

-- the chosen write: the disk below failed in its read or in the part, or it did the part
abbrev pub CutsDiskWrite : ℕ → ℕ → List ℕ → DiskState → DiskState → List Torn → List Torn → Type 0
CutsDiskWrite keep lba meant old new log log' =
    EndsAtDiskRead lba (length meant) old new log log'
    ⊎ (EndsAtFront keep lba meant old new log log' ⊎ DoesDiskWrite keep lba meant old new log log')

-- A chosen flush that happened, and its notes.
pub record KeepsAll (old new : DiskMedium) (log log' : List Torn) : Type 0 where
  pub bytes : new.bytes ≡ old.bytes
  -- the disk below notes nothing
  pub torn : new.torn ≡ old.torn
  -- the fuse notes each pending sector
  pub noted : log' ≡ log ++ old.writes

-- the chosen flush: the disk below failed in it, and the fuse did no more and notes nothing, or it happened
abbrev pub CutsFlush : DiskState → DiskState → List Torn → List Torn → Type 0
CutsFlush old new log log' =
    (OneFlush old new true × (log' ≡ log)) ⊎ (OneFlush old new false × (IsTrue old.medium.told → KeepsAll old.medium new.medium log log'))
