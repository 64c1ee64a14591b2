-- What a disk in memory is, and what its failed changes leave.
use Rattle.std.specs.Prelude.{◌≡◌, ◌/◌, List, [], ◌∷◌, ◌++◌, true, length, map}
use Rattle.board_core.specs.declared.torn.Torn.{Torn}
use Rattle.board_core.specs.Counters.{plain_counters}
use Rattle.board_core.specs.Disk.{DiskState, overlaid}
use Rattle.board_mem.specs.declared.fails.Remains.{Remains}
use Rattle.board_mem.specs.declared.mem_disk.MemDisk.{MemDisk}
use Rattle.board_mem.specs.Fails.{Plan, plan_of}
use Rattle.board_mem.specs.Remains.{record_left, record_standing}

abbrev pub mem_disk_state : MemDisk → DiskState
mem_disk_state disk = record {
  medium = record {
    sectors = length disk.bytes.items / 512;
    pending = length disk.writes.items;
    told = true;
    bytes = disk.bytes.items;
    writes = disk.writes.items;
    torn = disk.torn.items ∷ [];
    sectors_read = disk.sectors_read;
  };
  counters = plain_counters disk.faults disk.failed_changes;
}

-- which of its calls are to fail
abbrev pub mem_disk_plan : MemDisk → Plan
mem_disk_plan disk = plan_of disk.schedule

-- its torn records, the oldest first
abbrev pub mem_disk_torn : MemDisk → List Torn
mem_disk_torn disk = disk.torn.items

-- A change that failed, over these writes: what remains is left in the sector of each, one after another, and each is
-- noted as torn.
pub record LeavesSectors (remains : Remains) (writes : List Torn) (old new : MemDisk) : Type 0 where
  pub bytes : (mem_disk_state new).medium.bytes ≡ overlaid (mem_disk_state old).medium.bytes (map (record_left remains) writes)
  pub torn : mem_disk_torn new ≡ mem_disk_torn old ++ map (record_left remains) writes

-- A read that failed: each of these writes is noted as torn, with the bytes that stand in its sector.
pub record NotesSectors (writes : List Torn) (old new : MemDisk) : Type 0 where
  pub bytes : (mem_disk_state new).medium.bytes ≡ (mem_disk_state old).medium.bytes
  pub torn : mem_disk_torn new ≡ mem_disk_torn old ++ map (record_standing (mem_disk_state old).medium.bytes) writes
