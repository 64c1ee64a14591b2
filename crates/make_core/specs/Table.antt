-- The partition tables of a generated machine.
-- Source: the UEFI specification, section 5.3.3, for an entry; RFC 4122, sections 4.1.1, 4.1.3 and 4.4, for the version and
-- the variant of a GUID. Which partitions there are is the project's own.
use Rattle.std.specs.Prelude.{ℕ, ◌+◌, ◌-◌, ◌*◌, ◌%◌, ◌<◌, ◌≤◌, List, [], ◌∷◌, ◌++◌, length, replicate, codes}
use Rattle.gpt_core.specs.declared.entry.Entry.{Entry}
use Rattle.gpt_core.specs.Entries.{with_entry, no_entries}
use Rattle.gpt_core.specs.Format.{PartitionTable}
use Rattle.make_core.specs.Fill.{fill_byte}
use Rattle.make_core.specs.declared.drive_layout.EntryRow.{EntryRow}

-- a GUID as it is stored, its first three numbers little-endian: 16 filled bytes, with version 4 and the variant of the RFC
abbrev pub stored_guid : (ℕ → ℕ) → List ℕ
stored_guid byte =
    byte 3 ∷ byte 2 ∷ byte 1 ∷ byte 0 ∷ byte 5 ∷ byte 4 ∷ byte 7 ∷ (byte 6 % 16 + 64)
    ∷ (byte 8 % 64 + 128) ∷ byte 9 ∷ byte 10 ∷ byte 11 ∷ byte 12 ∷ byte 13 ∷ byte 14 ∷ byte 15 ∷ []

unfoldable pub guid : ℕ → ℕ → List ℕ
guid number tag = stored_guid (fill_byte number tag)

-- ---- the types, as they are stored

-- fe3a2a5d-4f32-41a7-b725-accc3285a309
abbrev pub kernel_kind : List ℕ
kernel_kind = 93 ∷ 42 ∷ 58 ∷ 254 ∷ 50 ∷ 79 ∷ 167 ∷ 65 ∷ 183 ∷ 37 ∷ 172 ∷ 204 ∷ 50 ∷ 133 ∷ 163 ∷ 9 ∷ []

-- 3cb8e202-3b7e-47dd-8a3c-7ff2a13cfcec
abbrev pub rootfs_kind : List ℕ
rootfs_kind = 2 ∷ 226 ∷ 184 ∷ 60 ∷ 126 ∷ 59 ∷ 221 ∷ 71 ∷ 138 ∷ 60 ∷ 127 ∷ 242 ∷ 161 ∷ 60 ∷ 252 ∷ 236 ∷ []

-- c12a7328-f81f-11d2-ba4b-00a0c93ec93b
abbrev pub efi_kind : List ℕ
efi_kind = 40 ∷ 115 ∷ 42 ∷ 193 ∷ 31 ∷ 248 ∷ 210 ∷ 17 ∷ 186 ∷ 75 ∷ 0 ∷ 160 ∷ 201 ∷ 62 ∷ 201 ∷ 59 ∷ []

-- ebd0a0a2-b9e5-4433-87c0-68b6b72699c7
abbrev pub data_kind : List ℕ
data_kind = 162 ∷ 160 ∷ 208 ∷ 235 ∷ 229 ∷ 185 ∷ 51 ∷ 68 ∷ 135 ∷ 192 ∷ 104 ∷ 182 ∷ 183 ∷ 38 ∷ 153 ∷ 199 ∷ []

-- ---- the entries

-- an entry: its index, its type, its first sector, its sectors, its attributes and its name
abbrev pub row : ℕ → List ℕ → ℕ → ℕ → ℕ → List ℕ → EntryRow
row index kind begin size attributes name = record {
  index = index;
  kind = kind;
  begin = begin;
  size = size;
  attributes = attributes;
  name = name ++ replicate (10 - length name) 0;
}

-- a kernel of this priority that was successful
abbrev pub kernel_attributes : ℕ → ℕ
kernel_attributes priority = priority * 281474976710656 + 72057594037927936

abbrev pub kern_a_row : EntryRow
kern_a_row = row 2 kernel_kind 64 512 (kernel_attributes 2) (codes "KERN-A")

abbrev pub disk_rows : List EntryRow
disk_rows =
    row 1 data_kind 8192 4096 0 (codes "STATE")
    ∷ kern_a_row
    ∷ row 3 rootfs_kind 2048 1024 0 (codes "ROOT-A")
    ∷ row 4 kernel_kind 576 512 (kernel_attributes 1) (codes "KERN-B")
    ∷ row 5 rootfs_kind 3072 1024 0 (codes "ROOT-B")
    ∷ row 6 kernel_kind 1088 1 0 (codes "KERN-C")
    ∷ row 7 rootfs_kind 1089 1 0 (codes "ROOT-C")
    ∷ row 8 data_kind 1090 1 0 (codes "OEM")
    ∷ row 9 data_kind 1091 1 0 (codes "reserved")
    ∷ row 10 data_kind 1092 1 0 (codes "reserved")
    ∷ row 11 data_kind 1093 1 0 (codes "RWFW")
    ∷ row 12 efi_kind 1100 64 0 (codes "EFI-SYSTEM")
    ∷ []

abbrev pub stick_rows : List EntryRow
stick_rows = kern_a_row ∷ []

-- A row that can stand in the table whose own GUID has this tag.
pub record IsRow (tag : ℕ) (r : EntryRow) : Type 0 where
  pub least : 1 ≤ r.index
  pub most : r.index ≤ 128
  pub tags : tag + r.index < 256
  pub size : 1 ≤ r.size

-- a row as an entry of the table whose own GUID has this tag
abbrev pub entry_of : ℕ → ℕ → EntryRow → Entry
entry_of number tag r = record {
  kind = r.kind;
  unique = guid number (tag + r.index);
  first = r.begin;
  last = r.begin + r.size - 1;
  attributes = r.attributes;
  name = r.name ++ replicate 26 0;
}

-- the entries with each row in its place
abbrev pub with_rows : ℕ → ℕ → List EntryRow → List ℕ → List ℕ
with_rows number tag [] entries = entries
with_rows number tag (r ∷ rows) entries = with_rows number tag rows (with_entry entries (r.index - 1) (entry_of number tag r))

-- the table of a drive: its GUID has this tag, sectors 34 to 16350 are usable, and it has these entries alone
abbrev pub drive_table : ℕ → ℕ → List EntryRow → PartitionTable
drive_table number tag rows = record {
  guid = guid number tag;
  first_usable = 34;
  last_usable = 16350;
  entries = with_rows number tag rows no_entries;
}
