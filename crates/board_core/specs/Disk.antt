-- What a disk is, and what each call does to it.
use Rattle.std.specs.Prelude.{◌≡◌, ℕ, ◌+◌, ◌*◌, ◌/◌, ◌-◌, ◌^◌, ◌≤◌, min, List, [], ◌∷◌, ◌++◌, length, take, Bool, IsTrue, Result, is_err, OnOk, OnErr}
use Rattle.board_core.specs.declared.counters.Counters.{Counters}
use Rattle.board_core.specs.declared.torn.Torn.{Torn}
use Rattle.board_core.specs.Counters.{Observed, Changed}
use Rattle.board_core.specs.Torn.{Logs, torn_records, Grown, added}
use Rattle.board_core.specs.Flash.{range, spliced}

-- What a disk holds. Contracts see `sectors` and `pending` always, and the rest is the disk's where it is told.
pub record DiskMedium : Type 0 where
  -- the number of sectors of 512 bytes
  pub sectors : ℕ
  -- how many sectors were written since the last flush that answered Ok; one that was written twice counts twice
  pub pending : ℕ
  -- whether the content is told
  pub told : Bool
  -- the bytes, which all writes so far have reached
  pub bytes : List ℕ
  -- the writes since the last flush that answered Ok, in order: a record for each sector that was written, whose range
  -- holds what was meant
  pub writes : List Torn
  -- the records of torn ranges
  pub torn : Logs
  -- how many sectors were read so far
  pub sectors_read : ℕ

pub record DiskState : Type 0 where
  pub medium : DiskMedium
  pub counters : Counters

-- a count with so many more, which stands still at the greatest u64
abbrev pub advanced : ℕ → ℕ → ℕ
advanced count more = min (count + more) (2 ^ 64 - 1)

-- ---- what a failed change leaves

-- a record of one whole sector, in a disk of so many bytes
pub record IsSectorOf (size : ℕ) (torn : Torn) : Type 0 where
  pub len : torn.len ≡ 512
  pub inside : torn.at + 512 ≤ size
  pub was : length torn.was ≡ 512
  pub meant : length torn.meant ≡ 512
  pub left : length torn.left ≡ 512

-- the bytes with those that each record left put over them, one record after another
abbrev pub overlaid : List ℕ → List Torn → List ℕ
overlaid bytes [] = bytes
overlaid bytes (torn ∷ rest) = overlaid (spliced bytes torn.at (take torn.len torn.left)) rest

-- The record of a failed change in the range of this write: any bytes may be left there.
pub record IsRecordOf (write torn : Torn) : Type 0 where
  pub at : torn.at ≡ write.at
  pub len : torn.len ≡ write.len
  pub was : torn.was ≡ write.was
  pub meant : torn.meant ≡ write.meant
  pub size : length torn.left ≡ length write.left

-- one record for each write, in order
abbrev pub AreRecordsOf : List Torn → List Torn → Type 0
AreRecordsOf [] [] = Unit {0}
AreRecordsOf (write ∷ writes) (torn ∷ rest) = IsRecordOf write torn × AreRecordsOf writes rest
AreRecordsOf writes torn = ⊥

-- A call that failed, over the writes that were pending and its own. Any bytes may stand in each sector that was pending
-- and in the first ones of its own, and each of them is noted. Nothing is pending after it.
pub record LeftDiskTorn (pending own : List Torn) (old new : DiskMedium) : Type 0 where
  -- how many sectors of its own it may have touched, from the first on
  pub count : ℕ
  pub within : count ≤ length own
  -- the new records tell the bytes that it left, and all other bytes stay
  pub bytes : new.bytes ≡ overlaid old.bytes (added old.torn new.torn)
  -- no record is lost
  pub kept : Grown old.torn new.torn
  pub noted : AreRecordsOf (pending ++ take count own) (added old.torn new.torn)
  pub writes_end : new.writes ≡ []

-- ---- the calls

-- The call to read sectors. No byte changes. A read that answers Ok changes only the number of sectors read, and a failed
-- one ends what was pending.
pub record ReadsDisk {E : Type 0} (lba : ℕ) (buf : List ℕ) (old new : DiskState) (result : Result Unit E) : Type 0 where
  pub counters : Observed old.counters new.counters (is_err result)
  pub sectors : new.medium.sectors ≡ old.medium.sectors
  pub told : new.medium.told ≡ old.medium.told
  pub ok : OnOk result (new.medium ≡ record old.medium { sectors_read = new.medium.sectors_read })
  pub none_pending : OnErr result (new.medium.pending ≡ 0)
  pub bytes : IsTrue old.medium.told → new.medium.bytes ≡ old.medium.bytes
  -- a failed read notes each sector that was pending
  pub err : IsTrue old.medium.told → OnErr result (LeftDiskTorn old.medium.writes [] old.medium new.medium)
  -- the number of sectors read does not fall
  pub no_fewer : IsTrue old.medium.told → old.medium.sectors_read ≤ new.medium.sectors_read
  -- it rises by no more than the sectors that were asked for
  pub no_more : IsTrue old.medium.told → new.medium.sectors_read ≤ advanced old.medium.sectors_read (length buf / 512)
  -- and by exactly them where the answer is Ok
  pub all_read : IsTrue old.medium.told → OnOk result (new.medium.sectors_read ≡ advanced old.medium.sectors_read (length buf / 512))
  pub filled : IsTrue old.medium.told → OnOk result (buf ≡ range old.medium.bytes (lba * 512) (length buf))

-- the write of these bytes from a sector, over the bytes that stand there
abbrev pub write_records : ℕ → List ℕ → DiskMedium → List Torn
write_records lba meant medium = torn_records (lba * 512) (range medium.bytes (lba * 512) (length meant)) meant meant

-- The call to write sectors.
pub record WritesDisk {E : Type 0} (lba : ℕ) (meant : List ℕ) (old new : DiskState) (result : Result Unit E) : Type 0 where
  pub counters : Changed old.counters new.counters (is_err result)
  pub sectors : new.medium.sectors ≡ old.medium.sectors
  pub told : new.medium.told ≡ old.medium.told
  pub sectors_read : new.medium.sectors_read ≡ old.medium.sectors_read
  pub pending : OnOk result (new.medium.pending ≡ old.medium.pending + length meant / 512)
  -- a failed write ends what was pending
  pub none_pending : OnErr result (new.medium.pending ≡ 0)
  pub bytes : IsTrue old.medium.told → OnOk result (new.medium.bytes ≡ spliced old.medium.bytes (lba * 512) meant)
  pub writes : IsTrue old.medium.told → OnOk result (new.medium.writes ≡ old.medium.writes ++ write_records lba meant old.medium)
  pub torn : IsTrue old.medium.told → OnOk result (new.medium.torn ≡ old.medium.torn)
  pub err : IsTrue old.medium.told → OnErr result
      (LeftDiskTorn old.medium.writes (write_records lba meant old.medium) old.medium new.medium)

-- A flush that answered Ok: all writes so far last.
pub record Flushed (old new : DiskMedium) : Type 0 where
  pub bytes : new.bytes ≡ old.bytes
  pub writes : new.writes ≡ []
  pub torn : new.torn ≡ old.torn

-- The call to flush.
pub record Flushes {E : Type 0} (old new : DiskState) (result : Result Unit E) : Type 0 where
  pub counters : Changed old.counters new.counters (is_err result)
  pub sectors : new.medium.sectors ≡ old.medium.sectors
  pub told : new.medium.told ≡ old.medium.told
  pub sectors_read : new.medium.sectors_read ≡ old.medium.sectors_read
  -- also where it fails
  pub none_pending : new.medium.pending ≡ 0
  pub ok : IsTrue old.medium.told → OnOk result (Flushed old.medium new.medium)
  -- a failed flush notes each sector that was pending
  pub err : IsTrue old.medium.told → OnErr result (LeftDiskTorn old.medium.writes [] old.medium new.medium)
