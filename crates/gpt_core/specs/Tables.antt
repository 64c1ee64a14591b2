-- The table of a disk, by its two copies, and what is fair of a failed commit.
use Rattle.std.specs.Prelude.{◌≡◌, ◌⊎◌, ℕ, Bool, ◌&&◌, nat_eq, List, Option, Some, None}
use Rattle.std.specs.Cmp.Lexicographic.{pointwise}
use Rattle.board_core.specs.Torn.{added}
use Rattle.board_core.specs.Disk.{DiskMedium, overlaid}
use Rattle.gpt_core.specs.declared.side.Side.{Side}
use Rattle.gpt_core.specs.declared.side.Side.TheVariants.{Primary, Backup}
use Rattle.gpt_core.specs.Copies.{Content, copy_of, image_of}
use Rattle.gpt_core.specs.Format.{PartitionTable, table_of_image}

-- the first where there is one, and else the second
abbrev pub or_else : {T : Type 0} → Option T → Option T → Option T
or_else (Some table) other = Some table
or_else None other = other

-- there is one
abbrev pub IsGood : {T : Type 0} → Option T → Type 0
IsGood (Some table) = Unit {0}
IsGood None = ⊥

-- the table of one copy of a disk of so many sectors and with these bytes, or none where the copy is not good
abbrev pub copy_table : Side → ℕ → List ℕ → Option PartitionTable
copy_table side sectors bytes = table_of_image side sectors (copy_of side sectors bytes)

-- the table of the good primary, else of the good backup, else none
abbrev pub table_in : ℕ → List ℕ → Option PartitionTable
table_in sectors bytes = or_else (copy_table Primary sectors bytes) (copy_table Backup sectors bytes)

-- the same of all that a disk holds
abbrev pub table_on : DiskMedium → Option PartitionTable
table_on medium = table_in medium.sectors medium.bytes

-- both copies are good, and give this table
pub record BothHold (table : PartitionTable) (sectors : ℕ) (bytes : List ℕ) : Type 0 where
  pub primary : copy_table Primary sectors bytes ≡ Some table
  pub backup : copy_table Backup sectors bytes ≡ Some table

-- the copies agree: both are good, and their tables are equal
abbrev pub CopiesAgree : ℕ → List ℕ → Type 0
CopiesAgree sectors bytes = (table : PartitionTable) × BothHold table sectors bytes

-- two tables say the same: as a test
abbrev pub says_same : PartitionTable → PartitionTable → Bool
says_same one two =
    pointwise nat_eq one.guid two.guid && nat_eq one.first_usable two.first_usable && nat_eq one.last_usable two.last_usable
    && pointwise nat_eq one.entries two.entries

-- what is written gives this table, in both copies
pub record GivesTable (content : Content) (table : PartitionTable) (sectors : ℕ) : Type 0 where
  pub primary : table_of_image Primary sectors (image_of Primary content) ≡ Some table
  pub backup : table_of_image Backup sectors (image_of Backup content) ≡ Some table

-- the copy from which the table is taken, or none
abbrev pub IsSource : Option Side → ℕ → List ℕ → Type 0
IsSource (Some Primary) sectors bytes = IsGood (copy_table Primary sectors bytes)
IsSource (Some Backup) sectors bytes = (copy_table Primary sectors bytes ≡ None) × IsGood (copy_table Backup sectors bytes)
IsSource None sectors bytes = (copy_table Primary sectors bytes ≡ None) × (copy_table Backup sectors bytes ≡ None)

-- ---- fair

-- A copy, its bytes before with those that the new records left put over them: it is not good, or it is as it was, or it
-- has the table that was to be written.
abbrev pub IsFairCopy : PartitionTable → Side → ℕ → List ℕ → List ℕ → Type 0
IsFairCopy table side sectors old left =
    (copy_table side sectors left ≡ None)
    ⊎ ((copy_of side sectors left ≡ copy_of side sectors old) ⊎ (copy_table side sectors left ≡ Some table))

-- each copy is fair; one that no new record meets is as it was
pub record IsFairDisk (table : PartitionTable) (old new : DiskMedium) : Type 0 where
  pub primary : IsFairCopy table Primary old.sectors old.bytes (overlaid old.bytes (added old.torn new.torn))
  pub backup : IsFairCopy table Backup old.sectors old.bytes (overlaid old.bytes (added old.torn new.torn))
