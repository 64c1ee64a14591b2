-- The table that stands on a disk can stand on it, and the partitions of its used entries lie between the copies.
use Rattle.std.proofs.Common.{◌≡◌, ℕ, ◌+◌, ◌-◌, ◌*◌, ◌<◌, ◌≤◌, ◌&&◌, List, length, Option, Some, None, refl, ap, sym, ◌∙◌, arith}
use Rattle.std.specs.Prelude.{nat_le}
use Rattle.std.proofs.lemmas.Bool.{and_parts, leb-true}
use Rattle.board_core.specs.Disk.{DiskMedium}
use Rattle.board_core.specs.Flash.{range}
use Rattle.board_core.proofs.OverlaidRanges.{range-range, length-range}
use Rattle.gpt_core.specs.declared.side.Side.{Side}
use Rattle.gpt_core.specs.declared.side.Side.TheVariants.{Primary, Backup}
use Rattle.gpt_core.specs.Commits.{SameButCopies}
use Rattle.gpt_core.specs.Copies.{copy_at, copy_of}
use Rattle.gpt_core.specs.Entries.{first_in, last_in, IsUsed}
use Rattle.gpt_core.specs.Format.{PartitionTable, IsValidTable, header_in, entries_in, is_good_header, are_good_entries, has_size, is_good_copy, table_from, table_of_image}
use Rattle.gpt_core.specs.Tables.{or_else, copy_table, table_on}
use Rattle.gpt_core.proofs.CopyPlaces.{copy_inside}
use Rattle.gpt_core.proofs.UsedEntries.{used_between}
use Rattle.gpt_core.proofs.Validity.{chosen, image_valid}

-- a good copy tells that the disk is large enough
image_sized : (side : Side) (sectors : ℕ) (copy : List ℕ) (table : PartitionTable) → table_of_image side sectors copy ≡ Some table → 69 ≤ sectors
unfolding table_of_image
image_sized side sectors copy table is =
    let header = header_in side copy in
    let entries = entries_in side copy in
    let good = chosen (is_good_copy side sectors header entries) (table_from header entries) table is in
    let outer = and_parts (has_size sectors) (is_good_header side sectors header && are_good_entries header entries) good.0 in
    let size = and_parts (nat_le 69 sectors) (nat_le sectors 4294967296) outer.0 in
    leb-true 69 sectors size.0

copy_valid : (side : Side) (medium : DiskMedium) (table : PartitionTable) → length medium.bytes ≡ medium.sectors * 512
    → copy_table side medium.sectors medium.bytes ≡ Some table → IsValidTable medium.sectors table
copy_valid side medium table size is =
    let copy = copy_of side medium.sectors medium.bytes in
    let within = copy_inside side medium.sectors (image_sized side medium.sectors copy table is) in
    image_valid side medium.sectors copy table (length-range medium.bytes (copy_at side medium.sectors) 16896 (omega (arith, within, size))) is

of_either : (medium : DiskMedium) (table : PartitionTable) (primary : Option PartitionTable) → length medium.bytes ≡ medium.sectors * 512
    → copy_table Primary medium.sectors medium.bytes ≡ primary → or_else primary (copy_table Backup medium.sectors medium.bytes) ≡ Some table
    → IsValidTable medium.sectors table
of_either medium table (Some first) size is there = copy_valid Primary medium table size (is ∙ there)
of_either medium table None size is there = copy_valid Backup medium table size there

pub table_valid : (medium : DiskMedium) (table : PartitionTable) → length medium.bytes ≡ medium.sectors * 512 → table_on medium ≡ Some table
    → IsValidTable medium.sectors table
table_valid medium table size there = of_either medium table (copy_table Primary medium.sectors medium.bytes) size refl there

-- What is written to the copies alone leaves the partition of a used entry.
pub partition_beside : (sectors : ℕ) (old new : List ℕ) (table : PartitionTable) (k : ℕ) → IsValidTable sectors table → k < 128 → IsUsed table.entries k
    → SameButCopies sectors old new → let first = first_in table.entries k in let many = (last_in table.entries k + 1 - first_in table.entries k) * 512 in
    range new (first * 512) many ≡ range old (first * 512) many
partition_beside sectors old new table k valid below used same =
    let lies = used_between sectors table k valid below used in
    let first = first_in table.entries k in
    let many = (last_in table.entries k + 1 - first) * 512 in
    let from = (first - 34) * 512 in
    let at : first * 512 ≡ 17408 + from = omega (arith, lies.begins) in
    let within : from + many ≤ (sectors - 67) * 512 = omega (arith, lies.begins, lies.ordered, lies.ends) in
    ap (λ (n : ℕ). range new n many) at
    ∙ sym (range-range new 17408 ((sectors - 67) * 512) from many within)
    ∙ ap (λ (b : List ℕ). range b from many) same.between
    ∙ range-range old 17408 ((sectors - 67) * 512) from many within
    ∙ ap (λ (n : ℕ). range old n many) (sym at)
