-- Reading a partition: its kernel, its place, and whether there is one.
use Rattle.std.proofs.Common.{◌≡◌, ◌∙◌, ℕ, ◌+◌, ◌-◌, ◌*◌, ◌<◌, ◌≤◌, length, refl, ap, sym, arith, true, false, List, Option, Some, None, Result, Ok, Err}
use Rattle.std.specs.Prelude.{nat_le, ◌&&◌, if◌then◌else◌}
use Rattle.std.proofs.lemmas.Bool.{and_parts, and_from, and_left, and_right, le-leb, lt-leb, leb-true, cond-true, cond-false}
use Rattle.board_core.specs.Flash.{range}
use Rattle.board_core.specs.Disk.{DiskMedium}
use Rattle.gpt_core.specs.declared.entry.Entry.{Entry}
use Rattle.gpt_core.specs.declared.found.Found.{Found}
use Rattle.gpt_core.specs.declared.found.Found.TheVariants as found
use Rattle.gpt_core.specs.Entries.{is_used, first_in, last_in, entry_in}
use Rattle.gpt_core.specs.Format.{PartitionTable, IsValidTable}
use Rattle.gpt_core.specs.Room.{IsFoundOn}
use Rattle.gpt_core.proofs.Sources.{IsThere}
use Rattle.gpt_core.proofs.FoundTables.{table_there, none_there, used_says}
use Rattle.gpt_core.proofs.UsedEntries.{used_between, LiesBetween}
use Rattle.show_core.specs.declared.facts.PartitionFacts.{PartitionFacts}
use Rattle.show_core.specs.declared.facts.PartitionFacts.TheVariants.{Short, Kernel}
use Rattle.show_core.specs.declared.facts.KernelFacts.{KernelFacts}
use Rattle.key_core.specs.declared.fault.KeyblockFault.{KeyblockFault}
use Rattle.show_core.specs.Facts.{kernel_facts, partition_facts}
use Rattle.show_core.specs.declared.partition_reading.Missing.TheVariants as missing
use Rattle.show_core.specs.Partition.{has_entry, entry_place, place_answer, table_answer, partition_answer}

-- ---- the kernel of a partition

pub short_facts : (first sectors : ℕ) (medium : DiskMedium) → sectors < 128 → Short ≡ partition_facts first sectors medium
short_facts first sectors medium few =
    sym (cond-false (nat_le 128 sectors) (Kernel (kernel_facts (range medium.bytes (first * 512) 65536))) Short (lt-leb 128 sectors few))

pub long_facts : (first sectors : ℕ) (medium : DiskMedium) (buf : List ℕ) (kernel : Result KernelFacts KeyblockFault) → 128 ≤ sectors → kernel ≡ kernel_facts buf
    → buf ≡ range medium.bytes (first * 512) (length buf) → length buf ≡ 65536 → Kernel kernel ≡ partition_facts first sectors medium
long_facts first sectors medium buf kernel many is filled size =
    ap Kernel (is ∙ ap kernel_facts (filled ∙ ap (range medium.bytes (first * 512)) size))
    ∙ sym (cond-true (nat_le 128 sectors) (Kernel (kernel_facts (range medium.bytes (first * 512) 65536))) Short (le-leb 128 sectors many))

-- ---- the place of an entry

abbrev place_if : (entries : List ℕ) (index : ℕ) → (ℕ × ℕ)
place_if entries index = (first_in entries (index - 1), last_in entries (index - 1) + 1 - first_in entries (index - 1))

no_place : (index : ℕ) (entries : List ℕ) → has_entry index entries ≡ false → None ≡ entry_place index entries
no_place index entries none = sym (cond-false (has_entry index entries) (Some (place_if entries index)) None none)

-- an index that is too small or too large has no place, nor has an unused entry
pub no_place_low : (index : ℕ) (entries : List ℕ) → index < 1 → None ≡ entry_place index entries
no_place_low index entries low =
    no_place index entries (and_left (nat_le 1 index && nat_le index 128) (is_used entries (index - 1)) (and_left (nat_le 1 index) (nat_le index 128) (lt-leb 1 index low)))

pub no_place_high : (index : ℕ) (entries : List ℕ) → 128 < index → None ≡ entry_place index entries
no_place_high index entries high =
    no_place index entries (and_left (nat_le 1 index && nat_le index 128) (is_used entries (index - 1)) (and_right (nat_le 1 index) (nat_le index 128) (lt-leb index 128 high)))

pub no_place_unused : (index : ℕ) (entries : List ℕ) → is_used entries (index - 1) ≡ false → None ≡ entry_place index entries
no_place_unused index entries unused = no_place index entries (and_right (nat_le 1 index && nat_le index 128) (is_used entries (index - 1)) unused)

-- a used entry has its place
pub used_place : (sectors : ℕ) (table : PartitionTable) (index : ℕ) (entry : Entry) (count : ℕ) → IsValidTable sectors table → 1 ≤ index → index ≤ 128 → is_used table.entries (index - 1) ≡ true
    → entry ≡ entry_in table.entries (index - 1) → count ≡ entry.last - entry.first + 1
    → (Some (entry.first, count) ≡ entry_place index table.entries) × (entry.first + count ≤ sectors)
used_place sectors table index entry count valid least most used is size =
    let lies : LiesBetween sectors (first_in table.entries (index - 1)) (last_in table.entries (index - 1)) = used_between sectors table (index - 1) valid (omega (arith, most)) (used_says table.entries (index - 1) used) in
    let first : entry.first ≡ first_in table.entries (index - 1) = ap (λ (e : Entry). e.first) is in
    let last : entry.last ≡ last_in table.entries (index - 1) = ap (λ (e : Entry). e.last) is in
    let many : count ≡ last_in table.entries (index - 1) + 1 - first_in table.entries (index - 1) = omega (arith, size, first, last, lies.ordered) in
    let there : has_entry index table.entries ≡ true =
    and_from (nat_le 1 index && nat_le index 128) (is_used table.entries (index - 1)) (and_from (nat_le 1 index) (nat_le index 128) (le-leb 1 index least) (le-leb index 128 most)) used in
    let here : ◌≡◌ {A = Option (ℕ × ℕ)} (Some (entry.first, count)) (Some (place_if table.entries index)) = rw (first, many) refl in (
      here ∙ sym (cond-true (has_entry index table.entries) (Some (place_if table.entries index)) None there),
      omega (arith, size, first, last, lies.ordered, lies.ends),
    )

-- and lies in the disk
pub used_bounds : (sectors : ℕ) (table : PartitionTable) (index : ℕ) (entry : Entry) → IsValidTable sectors table → index ≤ 128 → is_used table.entries (index - 1) ≡ true
    → entry ≡ entry_in table.entries (index - 1) → (entry.first ≤ entry.last) × (entry.last < 4294967296)
used_bounds sectors table index entry valid most used is =
    let lies : LiesBetween sectors (first_in table.entries (index - 1)) (last_in table.entries (index - 1)) = used_between sectors table (index - 1) valid (omega (arith, most)) (used_says table.entries (index - 1) used) in
    let first : entry.first ≡ first_in table.entries (index - 1) = ap (λ (e : Entry). e.first) is in
    let last : entry.last ≡ last_in table.entries (index - 1) = ap (λ (e : Entry). e.last) is in
    let size : sectors ≤ 4294967296 = leb-true sectors 4294967296 (and_parts (nat_le 69 sectors) (nat_le sectors 4294967296) valid.size).1 in
    (omega (arith, first, last, lies.ordered), omega (arith, last, lies.ends, size))

-- ---- the table of a disk, and what is answered

pub no_table : (index : ℕ) (medium : DiskMedium) (table : PartitionTable) → IsFoundOn found.None medium.sectors medium.bytes table → Err missing.Table ≡ partition_answer index medium
no_table index medium table is =
    sym (ap (λ (o : Option PartitionTable). table_answer index o medium) (none_there medium.sectors medium.bytes table is))

answer_of : (index : ℕ) (medium : DiskMedium) (what : Found) (table : PartitionTable) (place : Option (ℕ × ℕ)) → IsThere what → IsFoundOn what medium.sectors medium.bytes table
    → place ≡ entry_place index table.entries → partition_answer index medium ≡ place_answer place medium
answer_of index medium what table place there is here =
    ap (λ (o : Option PartitionTable). table_answer index o medium) (table_there what medium.sectors medium.bytes table there is)
    ∙ ap (λ (p : Option (ℕ × ℕ)). place_answer p medium) (sym here)

pub no_entry : (index : ℕ) (medium : DiskMedium) (what : Found) (table : PartitionTable) (place : Option (ℕ × ℕ)) → IsThere what → IsFoundOn what medium.sectors medium.bytes table
    → place ≡ entry_place index table.entries → place ≡ None → Err missing.Entry ≡ partition_answer index medium
no_entry index medium what table place there is here none =
    sym (answer_of index medium what table place there is here ∙ ap (λ (p : Option (ℕ × ℕ)). place_answer p medium) none)

pub an_entry : (index : ℕ) (medium mid : DiskMedium) (what : Found) (table : PartitionTable) (place : Option (ℕ × ℕ)) (first sectors : ℕ) (facts : PartitionFacts)
    → IsThere what → IsFoundOn what medium.sectors medium.bytes table → place ≡ entry_place index table.entries → place ≡ Some (first, sectors)
    → mid.bytes ≡ medium.bytes → facts ≡ partition_facts first sectors mid → Ok facts ≡ partition_answer index medium
an_entry index medium mid what table place first sectors facts there is here some same read =
    let all : partition_facts first sectors mid ≡ partition_facts first sectors medium =
    ap (λ (bytes : List ℕ). if nat_le 128 sectors then Kernel (kernel_facts (range bytes (first * 512) 65536)) else Short) same in
    ap Ok (read ∙ all) ∙ sym (answer_of index medium what table place there is here ∙ ap (λ (p : Option (ℕ × ℕ)). place_answer p medium) some)
