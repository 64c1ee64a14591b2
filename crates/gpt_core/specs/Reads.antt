-- What it does to a disk on which nothing is pending that one copy of a table is read.
use Rattle.std.specs.Prelude.{◌≡◌, ℕ, ◌≤◌, List, [], IsTrue, Result, is_err, OnOk}
use Rattle.board_core.specs.Counters.{Observed}
use Rattle.board_core.specs.Disk.{DiskMedium, DiskState, advanced}
use Rattle.gpt_core.specs.declared.side.Side.{Side}
use Rattle.gpt_core.specs.Copies.{copy_of}

-- All that a disk holds stays, but for the number of sectors read. Nothing is pending.
pub record KeepsDisk (old new : DiskMedium) : Type 0 where
  pub sectors : new.sectors ≡ old.sectors
  pub told : new.told ≡ old.told
  pub none_pending : new.pending ≡ 0
  pub bytes : IsTrue old.told → new.bytes ≡ old.bytes
  pub torn : IsTrue old.told → new.torn ≡ old.torn
  pub writes : IsTrue old.told → new.writes ≡ []

pub record ReadsCopy {E : Type 0} (side : Side) (copy : List ℕ) (old new : DiskState) (result : Result Unit E) : Type 0 where
  pub counters : Observed old.counters new.counters (is_err result)
  -- whatever the answer
  pub keeps : KeepsDisk old.medium new.medium
  pub filled : IsTrue old.medium.told → OnOk result (copy ≡ copy_of side old.medium.sectors old.medium.bytes)
  pub no_fewer : IsTrue old.medium.told → old.medium.sectors_read ≤ new.medium.sectors_read
  pub no_more : IsTrue old.medium.told → new.medium.sectors_read ≤ advanced old.medium.sectors_read 33
