-- Whether an entry may stand in a table beside the others.
use Rattle.std.specs.Prelude.{◌≡◌, ◌<◌, ◌≤◌, ℕ, zero, suc, ◌+◌, ◌^◌, length, Bool, true, not, ◌&&◌, ◌||◌, nat_eq, nat_le, nat_lt, List, replicate}
use Rattle.std.specs.Cmp.Lexicographic.{pointwise}
use Rattle.gpt_core.specs.declared.entry.Entry.{Entry}
use Rattle.gpt_core.specs.Entries.{all_below, entry_bytes, first_in, last_in, is_used, unique_in, with_attributes}
use Rattle.gpt_core.specs.Format.{PartitionTable}

-- ---- the tests, in whole numbers

-- so many sectors from this one on are some, and lie in the usable ones
abbrev pub is_inside : (first_usable last_usable begin size : ℕ) → Bool
is_inside first_usable last_usable begin size = nat_le 1 size && nat_le first_usable begin && nat_le (begin + size) (last_usable + 1)

-- entry j is this one, or unused, or has none of these sectors
abbrev pub leaves_sectors : List ℕ → (k first last j : ℕ) → Bool
leaves_sectors entries k first last j =
    nat_eq j k || not (is_used entries j) || (nat_lt (last_in entries j) first || nat_lt last (first_in entries j))

-- entry j is this one, or unused, or has another unique GUID
abbrev pub leaves_guid : List ℕ → (k : ℕ) → (unique : List ℕ) → (j : ℕ) → Bool
leaves_guid entries k unique j = nat_eq j k || not (is_used entries j) || not (pointwise nat_eq (unique_in entries j) unique)

-- no used entry but entry k has one of these sectors
abbrev pub is_free : List ℕ → (k first last : ℕ) → Bool
is_free entries k first last = all_below 128 (leaves_sectors entries k first last)

-- no used entry but entry k has this unique GUID
abbrev pub is_unique : List ℕ → (k : ℕ) → (unique : List ℕ) → Bool
is_unique entries k unique = all_below 128 (leaves_guid entries k unique)

-- ---- an entry that may stand as entry k

-- The fields of an entry have their sizes.
pub record IsWide (entry : Entry) : Type 0 where
  pub size : length (entry_bytes entry) ≡ 128
  pub kind : length entry.kind ≡ 16
  pub unique : length entry.unique ≡ 16
  pub first : entry.first < 256 ^ 8
  pub last : entry.last < 256 ^ 8

pub record MayStand (table : PartitionTable) (k : ℕ) (entry : Entry) : Type 0 where
  pub begins : table.first_usable ≤ entry.first
  pub ordered : entry.first ≤ entry.last
  pub ends : entry.last ≤ table.last_usable
  pub free : is_free table.entries k entry.first entry.last ≡ true
  pub unique : is_unique table.entries k entry.unique ≡ true

-- an entry that is unused: all its bytes are 0
abbrev pub unused_entry : Entry
unused_entry = record {
  kind = replicate 16 0;
  unique = replicate 16 0;
  first = 0;
  last = 0;
  attributes = 0;
  name = replicate 36 0;
}

-- the entries with these attributes in each of the first so many
unfoldable pub with_each : (count : ℕ) → (ℕ → ℕ) → List ℕ → List ℕ
with_each zero attributes entries = entries
with_each (suc k) attributes entries = with_attributes (with_each k attributes entries) k (attributes k)
