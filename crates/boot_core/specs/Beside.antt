-- What the changes of a boot leave: the map of the flash, each area that a boot reads, and the partitions of a disk.
use Rattle.std.specs.Prelude.{◌≡◌, ℕ, ◌*◌, ◌<◌, List, length, Option, Some, Result, Ok}
use Rattle.board_core.specs.Disk.{DiskMedium}
use Rattle.board_core.specs.Flash.{range}
use Rattle.rom_core.specs.declared.area.Area.{Area}
use Rattle.rom_core.specs.declared.map.Map.{Map}
use Rattle.rom_core.specs.declared.fault.MapFault.{MapFault}
use Rattle.rom_core.specs.Map.{MapQuestion}
use Rattle.rom_core.specs.Decoded.{flash_map}
use Rattle.nvstore_core.specs.Saving.{SameButPages}
use Rattle.gpt_core.specs.Commits.{SameButCopies}
use Rattle.gpt_core.specs.Entries.{first_in, IsUsed}
use Rattle.gpt_core.specs.Format.{PartitionTable}
use Rattle.gpt_core.specs.Tables.{table_on}
use Rattle.kernel_core.specs.KernelBodies.{partition_bytes}
use Rattle.walk_core.specs.Chosen.{sectors_in}

-- an area holds what it held
abbrev pub SameArea : Area → List ℕ → List ℕ → Type 0
SameArea area old new = range new area.at area.size ≡ range old area.at area.size

abbrev pub asked : (size at : ℕ) → List ℕ → MapQuestion
asked size at bytes = record { size = size; bytes = bytes; at = at }

-- The map of a flash and its areas but nvdata are as they were.
pub record SameBeside (size at : ℕ) (map : Map) (old new : List ℕ) : Type 0 where
  pub map_stays : flash_map (asked size at new) ≡ flash_map (asked size at old)
  pub gbb : SameArea map.gbb old new
  pub vblock_a : SameArea map.vblock_a old new
  pub main_a : SameArea map.main_a old new
  pub vblock_b : SameArea map.vblock_b old new
  pub main_b : SameArea map.main_b old new

-- two flashes that are the same but for the pages of nvdata, of which one has this map, without a fault
abbrev pub StaysBeside : Type 0
StaysBeside =
    (size at : ℕ) (map : Map) (old new : List ℕ) → flash_map (asked size at old) ≡ Ok map → SameButPages map.nvram.at old new
    → SameBeside size at map old new

-- two disks that are the same but for the copies of the table: the partition of each used entry of the table that stands holds what it held
abbrev pub StaysBetween : Type 0
StaysBetween =
    (old new : DiskMedium) (table : PartitionTable) (k : ℕ) → length old.bytes ≡ old.sectors * 512 → table_on old ≡ Some table → k < 128
    → IsUsed table.entries k → SameButCopies old.sectors old.bytes new.bytes
    → partition_bytes (first_in table.entries k) (sectors_in table.entries k) new
    ≡ partition_bytes (first_in table.entries k) (sectors_in table.entries k) old
