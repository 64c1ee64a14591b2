-- What showing a partition of a drive does.
use Rattle.std.specs.Prelude.{◌≡◌, ℕ, ◌+◌, ◌-◌, ◌≤◌, ◌&&◌, nat_le, if◌then◌else◌, Bool, true, false, IsTrue, List, ◌++◌, length, take, Option, Some, None, Result, Ok, Err, is_err, IfOk}
use Rattle.board_core.specs.Counters.{Observed, CountsFaults}
use Rattle.board_core.specs.Disk.{DiskMedium, DiskState}
use Rattle.board_core.specs.Streams.{StreamState}
use Rattle.gpt_core.specs.Entries.{is_used, first_in, last_in}
use Rattle.gpt_core.specs.Format.{PartitionTable}
use Rattle.gpt_core.specs.Reads.{KeepsDisk}
use Rattle.gpt_core.specs.Tables.{table_on}
use Rattle.show_core.specs.declared.facts.PartitionFacts.{PartitionFacts}
use Rattle.show_core.specs.declared.partition.PartitionFault.{PartitionFault}
use Rattle.show_core.specs.declared.partition.PartitionFault.TheVariants.{Device, NoTable, NoEntry, Write}
use Rattle.show_core.specs.declared.partition_reading.Missing.{Missing}
use Rattle.show_core.specs.declared.partition_reading.Missing.TheVariants as missing
use Rattle.show_core.specs.Facts.{partition_facts}
use Rattle.show_core.specs.Text.{partition_text}

-- ---- what a drive shows

-- there is an entry of this index, and it is used
abbrev pub has_entry : (index : ℕ) → List ℕ → Bool
has_entry index entries = nat_le 1 index && nat_le index 128 && is_used entries (index - 1)

-- its first sector, and how many it has
abbrev pub entry_place : (index : ℕ) → List ℕ → Option (ℕ × ℕ)
entry_place index entries =
    if has_entry index entries
    then Some (first_in entries (index - 1), last_in entries (index - 1) + 1 - first_in entries (index - 1))
    else None

-- what is shown of a place, or that there is none
abbrev pub place_answer : Option (ℕ × ℕ) → DiskMedium → Result PartitionFacts Missing
place_answer (Some place) medium = Ok (partition_facts place.0 place.1 medium)
place_answer None medium = Err missing.Entry

abbrev pub table_answer : (index : ℕ) → Option PartitionTable → DiskMedium → Result PartitionFacts Missing
table_answer index (Some table) medium = place_answer (entry_place index table.entries) medium
table_answer index None medium = Err missing.Table

-- what is shown of a partition, or what there is not
abbrev pub partition_answer : (index : ℕ) → DiskMedium → Result PartitionFacts Missing
partition_answer index medium = table_answer index (table_on medium) medium

-- ---- reading it

-- The kernel of so many sectors from this one is read, on a disk on which nothing is pending.
pub record ReadsKernel {E : Type 0} (first sectors : ℕ) (old new : DiskState) (result : Result PartitionFacts E) : Type 0 where
  pub counters : Observed old.counters new.counters (is_err result)
  pub keeps : KeepsDisk old.medium new.medium
  pub no_fewer : IsTrue old.medium.told → old.medium.sectors_read ≤ new.medium.sectors_read
  pub no_more : IsTrue old.medium.told → new.medium.sectors_read ≤ old.medium.sectors_read + 128
  pub facts : IsTrue old.medium.told → IfOk result (λ facts. facts ≡ partition_facts first sectors old.medium)

-- A partition is looked up and read.
pub record ReadsPartition {E : Type 0} (index : ℕ) (old new : DiskState) (result : Result (Result PartitionFacts Missing) E) : Type 0 where
  pub counters : Observed old.counters new.counters (is_err result)
  pub keeps : KeepsDisk old.medium new.medium
  pub no_fewer : IsTrue old.medium.told → old.medium.sectors_read ≤ new.medium.sectors_read
  pub no_more : IsTrue old.medium.told → new.medium.sectors_read ≤ old.medium.sectors_read + 194
  pub answer : IsTrue old.medium.told → IfOk result (λ answer. answer ≡ partition_answer index old.medium)

-- ---- showing it

-- the answer is that the disk failed
abbrev pub is_disk_fault : Result Unit PartitionFault → Bool
is_disk_fault (Err Device) = true
is_disk_fault other = false

-- the answer is that the sink failed
abbrev pub is_sink_fault : Result Unit PartitionFault → Bool
is_sink_fault (Err Write) = true
is_sink_fault other = false

-- the disk failed, or there is no such partition
abbrev pub IsNotShown : Result Unit PartitionFault → Type 0
IsNotShown (Err Device) = Unit {0}
IsNotShown (Err NoTable) = Unit {0}
IsNotShown (Err NoEntry) = Unit {0}
IsNotShown other = ⊥

-- the text is that of the partition
abbrev pub IsPartitionText : (index : ℕ) → DiskMedium → List ℕ → Type 0
IsPartitionText index medium text =
    (facts : PartitionFacts) × (partition_answer index medium ≡ Ok facts) × (text ≡ partition_text index facts)

-- what was put, where disk and sink tell what they hold
abbrev pub PutsPartition : (index : ℕ) → DiskMedium → List ℕ → List ℕ → Result Unit PartitionFault → Type 0
PutsPartition index medium old new (Ok done) = (text : List ℕ) × IsPartitionText index medium text × (new ≡ old ++ text)
PutsPartition index medium old new (Err Write) =
    (text : List ℕ) × IsPartitionText index medium text × ((count : ℕ) × (count ≤ length text) × (new ≡ old ++ take count text))
PutsPartition index medium old new (Err NoTable) = (partition_answer index medium ≡ Err missing.Table) × (new ≡ old)
PutsPartition index medium old new (Err NoEntry) = (partition_answer index medium ≡ Err missing.Entry) × (new ≡ old)
PutsPartition index medium old new (Err Device) = new ≡ old

-- A partition of a drive is shown.
pub record ShowsPartition (index : ℕ) (old new : DiskState) (put put' : StreamState) (result : Result Unit PartitionFault) : Type 0 where
  -- the disk counted one failed call where it is said to have failed, and none else; it holds what it held
  pub counters : Observed old.counters new.counters (is_disk_fault result)
  pub keeps : KeepsDisk old.medium new.medium
  pub no_fewer : IsTrue old.medium.told → old.medium.sectors_read ≤ new.medium.sectors_read
  pub no_more : IsTrue old.medium.told → new.medium.sectors_read ≤ old.medium.sectors_read + 194
  -- so did the sink
  pub faults : CountsFaults put.faults put'.faults (is_sink_fault result)
  pub told : put'.told ≡ put.told
  -- the whole text was put; or a front of it, where the sink failed; or nothing, where there is no such partition
  pub texts : IsTrue old.medium.told → IsTrue put.told → PutsPartition index old.medium put.bytes put'.bytes result
  -- whatever the disk tells, nothing was put where it failed or there is no such partition
  pub nothing : IsTrue put.told → IsNotShown result → put'.bytes ≡ put.bytes
