-- What a fuse over a disk is, and what it makes of each call. The state of the disk below is its ghost member, which the
-- type of the fuse has.
use Rattle.std.specs.Prelude.{◌≡◌, List, ℕ, ◌/◌, length, IsErr, OnOk, OnErr, Result}
use Rattle.board_core.specs.declared.device.Failed.{Failed}
use Rattle.board_core.specs.declared.counters.FuseState.{FuseState}
use Rattle.board_core.specs.declared.counters.FuseState.TheVariants.{Unarmed, Armed, Dead}
use Rattle.board_core.specs.declared.counters.Turn.TheVariants.{Pass, Stop, Refuse}
use Rattle.board_core.specs.declared.disk.Disk.{Ghosts}
use Rattle.board_core.specs.declared.fuse_disk.FuseDisk.{FuseDisk}
use Rattle.board_core.specs.Counters.{turn_of, stop_after}
use Rattle.board_core.specs.Disk.{DiskState, ReadsDisk, WritesDisk, Flushes, advanced}
use Rattle.board_core.specs.FuseDiskParts.{with_disk_log, CutsDiskWrite, CutsFlush, ReadsThenWrites}

-- the state of the disk below
abbrev pub state_below : {D : Type 0} {disk : Ghosts D} → FuseDisk D disk → DiskState
state_below {disk = disk} fuse = disk.state fuse.inner

-- the disk below, with the log, the counters and the number of sectors read of the fuse: it tells its bytes where the disk
-- does
abbrev pub fuse_disk_state : {D : Type 0} {disk : Ghosts D} → FuseDisk D disk → DiskState
fuse_disk_state fuse = record {
  medium = record (with_disk_log (state_below fuse).medium fuse.torn.items) { sectors_read = fuse.sectors_read };
  counters = fuse.counters;
}

-- the disk below, the log and the number of sectors read are as they were
pub record IsUntouchedDisk {D : Type 0} {disk : Ghosts D} (old new : FuseDisk D disk) : Type 0 where
  pub inner : new.inner ≡ old.inner
  pub torn : new.torn.items ≡ old.torn.items
  pub sectors_read : new.sectors_read ≡ old.sectors_read

-- A read, on a fuse.
pub record FuseReadsDisk {D : Type 0} {disk : Ghosts D} (lba : ℕ) (buf : List ℕ) (old new : FuseDisk D disk)
    (result : Result Unit Failed) : Type 0 where
  -- the stop stays where it stood
  pub stop : new.counters.stop ≡ old.counters.stop
  -- a dead fuse refuses the read
  pub refused : old.counters.stop ≡ Dead → IsErr result × IsUntouchedDisk old new
  -- any other fuse passes it on
  pub passed : (old.counters.stop ≡ Dead → ⊥) → ReadsDisk lba buf (state_below old) (state_below new) result
      × (new.torn.items ≡ old.torn.items)
  -- the fuse counts the sectors of reads that answered Ok
  pub counted : OnOk result (new.sectors_read ≡ advanced old.sectors_read (length buf / 512))
  pub uncounted : OnErr result (new.sectors_read ≡ old.sectors_read)

-- A write that passed on. An armed fuse reads the old bytes first, and makes no write where that read fails.
abbrev pub PassesWrite : {D : Type 0} {disk : Ghosts D} → FuseState → ℕ → List ℕ → FuseDisk D disk → FuseDisk D disk → Result Unit Failed
    → Type 0
PassesWrite Unarmed lba meant old new result = WritesDisk lba meant (state_below old) (state_below new) result
PassesWrite (Armed left keep) lba meant old new result =
    ReadsThenWrites lba meant (state_below old) (state_below new) result
PassesWrite Dead lba meant old new result = ⊥

-- A write, on a fuse.
pub record FuseWritesDisk {D : Type 0} {disk : Ghosts D} (lba : ℕ) (meant : List ℕ) (old new : FuseDisk D disk)
    (result : Result Unit Failed) : Type 0 where
  -- the stop moves by one call
  pub stop : new.counters.stop ≡ stop_after old.counters.stop
  -- a dead fuse refuses the write
  pub refused : turn_of old.counters.stop ≡ Refuse → IsErr result × IsUntouchedDisk old new
  pub passed : turn_of old.counters.stop ≡ Pass → PassesWrite old.counters.stop lba meant old new result × (new.torn.items ≡ old.torn.items)
  -- the chosen write is cut short, and fails
  pub chosen : (keep : ℕ) → turn_of old.counters.stop ≡ Stop keep → IsErr result
      × CutsDiskWrite keep lba meant (state_below old) (state_below new) old.torn.items new.torn.items
  pub sectors_read : new.sectors_read ≡ old.sectors_read

-- A flush, on a fuse.
pub record FuseFlushes {D : Type 0} {disk : Ghosts D} (old new : FuseDisk D disk) (result : Result Unit Failed) : Type 0 where
  -- the stop moves by one call
  pub stop : new.counters.stop ≡ stop_after old.counters.stop
  -- a dead fuse refuses the flush
  pub refused : turn_of old.counters.stop ≡ Refuse → IsErr result × IsUntouchedDisk old new
  pub passed : turn_of old.counters.stop ≡ Pass → Flushes (state_below old) (state_below new) result × (new.torn.items ≡ old.torn.items)
  -- the chosen flush happens, and fails
  pub chosen : (keep : ℕ) → turn_of old.counters.stop ≡ Stop keep → IsErr result
      × CutsFlush (state_below old) (state_below new) old.torn.items new.torn.items
  pub sectors_read : new.sectors_read ≡ old.sectors_read
