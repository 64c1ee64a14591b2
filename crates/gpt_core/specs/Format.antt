-- A copy of a partition table: a header of one sector, and 32 sectors of entries. The primary copy has its header first,
-- the backup copy has it last.
-- Source: the UEFI specification, section 5.3.2 ("GPT Header").
use Rattle.std.specs.Prelude.{◌≡◌, ℕ, ◌-◌, Bool, true, length, ◌&&◌, nat_eq, nat_le, if◌then◌else◌, List, ◌++◌, take, drop, replicate, codes, Option, Some, None}
use Rattle.std.specs.Cmp.Lexicographic.{pointwise}
use Rattle.byteorder.specs.Endian.{little_bytes}
use Rattle.wire_core.specs.Fields.{number_at, with_number}
use Rattle.wire_core.specs.Crc32.{crc32_of}
use Rattle.board_core.specs.Flash.{range}
use Rattle.gpt_core.specs.declared.side.Side.{Side}
use Rattle.gpt_core.specs.declared.side.Side.TheVariants.{Primary, Backup}
use Rattle.gpt_core.specs.Copies.{Content, content_with, header_lba, entries_lba, other_side}
use Rattle.gpt_core.specs.Entries.{entries_fit}

-- What a copy says: the GUID of the disk, as it is stored, the first and the last usable sector, and the bytes of the
-- 128 entries.
pub record PartitionTable : Type 0 where
  pub guid : List ℕ
  pub first_usable : ℕ
  pub last_usable : ℕ
  pub entries : List ℕ

-- ---- the two parts of a copy

abbrev pub header_in : Side → List ℕ → List ℕ
header_in Primary copy = take 512 copy
header_in Backup copy = drop 16384 copy

abbrev pub entries_in : Side → List ℕ → List ℕ
entries_in Primary copy = drop 512 copy
entries_in Backup copy = take 16384 copy

-- ---- the tests of a copy

-- the disk has 69 to 4,294,967,296 sectors
abbrev pub has_size : ℕ → Bool
has_size sectors = nat_le 69 sectors && nat_le sectors 4294967296

-- the magic bytes, revision 0x00010000 and a header of 92 bytes
abbrev pub signature : List ℕ
signature = codes "EFI PART" ++ little_bytes 4 65536 ++ little_bytes 4 92

abbrev pub has_signature : List ℕ → Bool
has_signature header = pointwise nat_eq signature (take 16 header)

-- the CRC-32 of the header's 92 bytes, with this field 0
abbrev pub without_crc : List ℕ → List ℕ
without_crc header = with_number 4 (take 92 header) 16 0

abbrev pub has_own_crc : List ℕ → Bool
has_own_crc header = nat_eq (number_at 4 header 16) (crc32_of (without_crc header))

-- its own place
abbrev pub has_place : Side → ℕ → List ℕ → Bool
has_place side sectors header = nat_eq (number_at 8 header 24) (header_lba side sectors)

-- the place of the entries
abbrev pub has_entries_place : Side → ℕ → List ℕ → Bool
has_entries_place side sectors header = nat_eq (number_at 8 header 72) (entries_lba side sectors)

-- 128 entries of 128 bytes
abbrev pub has_counts : List ℕ → Bool
has_counts header = nat_eq (number_at 4 header 80) 128 && nat_eq (number_at 4 header 84) 128

-- the usable sectors lie behind the primary copy and before the backup copy, and are not none
abbrev pub bounds_fit : ℕ → ℕ → ℕ → Bool
bounds_fit sectors first last = nat_le 34 first && nat_le first last && nat_le last (sectors - 34)

abbrev pub has_bounds : ℕ → List ℕ → Bool
has_bounds sectors header = bounds_fit sectors (number_at 8 header 40) (number_at 8 header 48)

-- the CRC-32 of the entries
abbrev pub has_entries_crc : List ℕ → List ℕ → Bool
has_entries_crc header entries = nat_eq (number_at 4 header 88) (crc32_of entries)

-- the entries fit the usable sectors
abbrev pub has_good_entries : List ℕ → List ℕ → Bool
has_good_entries header entries = entries_fit (number_at 8 header 40) (number_at 8 header 48) entries

-- all tests that look at the header alone
abbrev pub is_good_header : Side → ℕ → List ℕ → Bool
is_good_header side sectors header =
    (has_signature header && has_own_crc header)
    && (has_place side sectors header && has_entries_place side sectors header)
    && (has_counts header && has_bounds sectors header)

-- the tests of the entries
abbrev pub are_good_entries : List ℕ → List ℕ → Bool
are_good_entries header entries = has_entries_crc header entries && has_good_entries header entries

-- The nine tests of a copy. The alternate LBA is not looked at, so that the copy of a smaller disk's bytes is read.
abbrev pub is_good_copy : Side → ℕ → List ℕ → List ℕ → Bool
is_good_copy side sectors header entries = has_size sectors && (is_good_header side sectors header && are_good_entries header entries)

-- what these parts say
abbrev pub table_from : List ℕ → List ℕ → PartitionTable
table_from header entries = record {
  guid = range header 56 16;
  first_usable = number_at 8 header 40;
  last_usable = number_at 8 header 48;
  entries = entries;
}

abbrev pub table_of_parts : Side → ℕ → List ℕ → List ℕ → Option PartitionTable
table_of_parts side sectors header entries = if is_good_copy side sectors header entries then Some (table_from header entries) else None

-- the table that the 16,896 bytes of a copy hold, or none where a test fails
unfoldable pub table_of_image : Side → ℕ → List ℕ → Option PartitionTable
table_of_image side sectors copy = table_of_parts side sectors (header_in side copy) (entries_in side copy)

-- ---- what is written

-- the 72 bytes of a header behind its own CRC: its place, the other one's as alternate, and what the table says
abbrev pub header_rest : Side → ℕ → PartitionTable → List ℕ
header_rest side sectors table =
    little_bytes 4 0 ++ little_bytes 8 (header_lba side sectors) ++ little_bytes 8 (header_lba (other_side side) sectors)
    ++ little_bytes 8 table.first_usable ++ little_bytes 8 table.last_usable ++ table.guid
    ++ little_bytes 8 (entries_lba side sectors) ++ little_bytes 4 128 ++ little_bytes 4 128 ++ little_bytes 4 (crc32_of table.entries)

-- its 92 bytes, with this CRC
abbrev pub header_with : ℕ → List ℕ → List ℕ
header_with crc rest = signature ++ little_bytes 4 crc ++ rest

-- the whole sector: the CRC is that of the 92 bytes with a CRC of 0, and zeros fill it up
unfoldable pub header_sector : Side → ℕ → PartitionTable → List ℕ
header_sector side sectors table =
    header_with (crc32_of (header_with 0 (header_rest side sectors table))) (header_rest side sectors table) ++ replicate 420 0

-- what a commit of this table writes
abbrev pub content_of : ℕ → PartitionTable → Content
content_of sectors table = content_with table.entries (header_sector Primary sectors table) (header_sector Backup sectors table)

-- ---- tables that can be written

-- A table that can stand on a disk of so many sectors.
pub record IsValidTable (sectors : ℕ) (table : PartitionTable) : Type 0 where
  pub size : has_size sectors ≡ true
  pub guid : length table.guid ≡ 16
  pub bounds : bounds_fit sectors table.first_usable table.last_usable ≡ true
  pub entries : length table.entries ≡ 16384
  pub fits : entries_fit table.first_usable table.last_usable table.entries ≡ true
