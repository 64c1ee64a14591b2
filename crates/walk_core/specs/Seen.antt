-- What is seen on a drive: whether it has a table, and what the walk over its kernels comes to. It is one function of what disk
-- and hook hold, of the key and of the rules.
-- Source: `vb2api_load_kernel` of vboot_reference (firmware/2lib/2load_kernel.c).
use Rattle.std.specs.Prelude.{◌≡◌, ℕ, ◌+◌, ◌-◌, ◌≤◌, Bool, false, not, ◌&&◌, nat_eq, IsTrue, List, Option, Some, None, IfSome, Result, IfOk}
use Rattle.std.specs.Str.{bytes_eq}
use Rattle.board_core.specs.Counters.{Observed}
use Rattle.board_core.specs.Disk.{DiskMedium, DiskState}
use Rattle.board_core.specs.Hook.{HookState}
use Rattle.gpt_core.specs.declared.side.Side.TheVariants.{Primary, Backup}
use Rattle.gpt_core.specs.Format.{PartitionTable}
use Rattle.gpt_core.specs.Reads.{KeepsDisk}
use Rattle.gpt_core.specs.Room.{RoomView, CanCommit}
use Rattle.gpt_core.specs.Tables.{copy_table, table_on}
use Rattle.chain_core.specs.Accepted.{Asked}
use Rattle.chain_core.specs.Bodies.{store_failed, hook_failed}
use Rattle.chain_core.specs.declared.fault.Failure.{Failure}
use Rattle.walk_core.specs.Kernels.{WalkQuestion}
use Rattle.walk_core.specs.Chosen.{head_of}
use Rattle.walk_core.specs.Choice.{chosen_in, lowest_in}
use Rattle.walk_core.specs.Fates.{table_after}
use Rattle.walk_core.specs.Walks.{sum_below, sectors_for, kernel_for, IsKernelOf}
use Rattle.walk_core.specs.declared.walked.Kernel.{Kernel}
use Rattle.walk_core.specs.declared.walked.Walked.{Walked}
use Rattle.walk_core.specs.declared.drive.Seen.{Seen}
use Rattle.walk_core.specs.declared.drive.Seen.TheVariants as seen

-- ---- the walk as a function

-- what is read of the chosen entry
abbrev pub kernel_at : WalkQuestion → List ℕ → (chosen : Option ℕ) → Option Kernel
kernel_at d entries None = None
kernel_at d entries (Some k) = Some (kernel_for k (head_of d entries k))

abbrev pub walked_in : WalkQuestion → List ℕ → Walked
walked_in d entries = record { chosen = kernel_at d entries (chosen_in d entries); lowest = lowest_in d entries (chosen_in d entries) }

-- the table in which each entry has met its fate
abbrev pub table_walked : WalkQuestion → PartitionTable → PartitionTable
table_walked d table = table_after d (chosen_in d table.entries) table

-- ---- whether it is to be written

abbrev pub says_same : PartitionTable → PartitionTable → Bool
says_same a b =
    bytes_eq a.guid b.guid && nat_eq a.first_usable b.first_usable && nat_eq a.last_usable b.last_usable && bytes_eq a.entries b.entries

-- both copies are good, and say the same
abbrev pub both_say : Option PartitionTable → Option PartitionTable → Bool
both_say (Some a) (Some b) = says_same a b
both_say (Some a) None = false
both_say None b = false

abbrev pub copies_agree : DiskMedium → Bool
copies_agree medium = both_say (copy_table Primary medium.sectors medium.bytes) (copy_table Backup medium.sectors medium.bytes)

-- the copies do not agree, or an entry is another one after the walk
abbrev pub is_changed : WalkQuestion → PartitionTable → Bool
is_changed d table = not (copies_agree d.disk.medium && bytes_eq (table_walked d table).entries table.entries)

-- ---- what is seen

abbrev pub seen_by : WalkQuestion → Option PartitionTable → Seen
seen_by d None = seen.NoTable
seen_by d (Some table) = seen.Table (walked_in d table.entries) (is_changed d table)

unfoldable pub seen_in : WalkQuestion → Seen
seen_in d = seen_by d (table_on d.disk.medium)

-- the kernel that is seen: the chosen one, or none
abbrev pub kernel_of : Seen → Option Kernel
kernel_of seen.NoTable = None
kernel_of (seen.Table walked changed) = walked.chosen

-- how many sectors the walk over a table reads at most
abbrev pub sectors_of_walk : WalkQuestion → Option PartitionTable → ℕ
sectors_of_walk d None = 0
sectors_of_walk d (Some table) = sum_below 128 (sectors_for d table.entries)

-- ---- the call

-- the drive has a table
abbrev pub HasTable : Seen → Type 0
HasTable seen.NoTable = ⊥
HasTable (seen.Table walked changed) = Unit {0}

-- the kernel that was taken is that of an entry of the drive's table
abbrev pub IsSeen : WalkQuestion → (handed_out : List ℕ) → Seen → Type 0
IsSeen d handed_out seen.NoTable = Unit {0}
IsSeen d handed_out (seen.Table walked changed) = IfSome walked.chosen (λ kernel.
    (table : PartitionTable) × (table_on d.disk.medium ≡ Some table) × IsKernelOf d table.entries (kernel.partition - 1) kernel handed_out)

-- the room holds the drive's table after the walk
abbrev pub HoldsWalked : WalkQuestion → RoomView → Type 0
HoldsWalked d room = (table : PartitionTable) × (table_on d.disk.medium ≡ Some table) × (room.table ≡ table_walked d table)

-- A drive is looked at, on which nothing is pending.
pub record Sees (d : WalkQuestion) (room : RoomView) (disk' : DiskState) (hook' : HookState) (handed_out : List ℕ)
    (result : Result Seen Failure) : Type 0 where
  -- a disk or a hook that failed counted it once, and they hold what they held
  pub counters : Observed d.disk.counters disk'.counters (store_failed result)
  pub keeps : KeepsDisk d.disk.medium disk'.medium
  pub asked : Asked d.hook hook' (hook_failed result)
  -- so many sectors were read at most, whatever the answer
  pub reads : IsTrue d.disk.medium.told → IsTrue d.hook.told
      → disk'.medium.sectors_read ≤ d.disk.medium.sectors_read + (66 + sectors_of_walk d (table_on d.disk.medium))
  -- what is seen
  pub seen : IsTrue d.disk.medium.told → IsTrue d.hook.told → IfOk result (λ what. what ≡ seen_in d)
  pub kernel : IsTrue d.disk.medium.told → IsTrue d.hook.told → IfOk result (IsSeen d handed_out)
  -- the room holds the table after the walk, and it can be committed
  pub holds : IsTrue d.disk.medium.told → IsTrue d.hook.told → IfOk result (λ what. HasTable what → HoldsWalked d room)
  pub ready : IfOk result (λ what. HasTable what → CanCommit disk' room)
