-- The entries of a table: 128 of them, each of 128 bytes, one behind the other. Entry k here is the one of index k + 1.
-- Source: the UEFI specification, section 5.3.3 ("GPT Partition Entry Array").
use Rattle.std.specs.Prelude.{◌≡◌, ◌<◌, ◌≤◌, ◌⊎◌, ℕ, zero, suc, ◌+◌, ◌*◌, Bool, true, not, ◌&&◌, ◌||◌, nat_eq, nat_lt, nat_le, List, [], ◌∷◌, ◌++◌, replicate, drop}
use Rattle.std.specs.List.{flat_map}
use Rattle.std.specs.Cmp.Lexicographic.{pointwise}
use Rattle.byteorder.specs.Endian.{little_bytes, little_number}
use Rattle.wire_core.specs.Fields.{number_at, with_number}
use Rattle.board_core.specs.Flash.{range, spliced}
use Rattle.gpt_core.specs.declared.entry.Entry.{Entry}

-- ---- the fields of an entry

-- the GUID of its type, and its own
abbrev pub kind_in : List ℕ → ℕ → List ℕ
kind_in entries k = range entries (128 * k) 16

abbrev pub unique_in : List ℕ → ℕ → List ℕ
unique_in entries k = range entries (128 * k + 16) 16

-- its first sector and its last one
abbrev pub first_in : List ℕ → ℕ → ℕ
first_in entries k = number_at 8 entries (128 * k + 32)

abbrev pub last_in : List ℕ → ℕ → ℕ
last_in entries k = number_at 8 entries (128 * k + 40)

abbrev pub attributes_in : List ℕ → ℕ → ℕ
attributes_in entries k = number_at 8 entries (128 * k + 48)

-- so many numbers of two bytes each
unfoldable pub units_in : ℕ → List ℕ → List ℕ
units_in zero bytes = []
units_in (suc count) bytes = little_number 2 bytes ∷ units_in count (drop 2 bytes)

-- the whole entry
abbrev pub entry_in : List ℕ → ℕ → Entry
entry_in entries k = record {
  kind = kind_in entries k;
  unique = unique_in entries k;
  first = first_in entries k;
  last = last_in entries k;
  attributes = attributes_in entries k;
  name = units_in 36 (range entries (128 * k + 56) 72);
}

-- its 128 bytes
abbrev pub entry_bytes : Entry → List ℕ
entry_bytes entry =
    entry.kind ++ entry.unique ++ little_bytes 8 entry.first ++ little_bytes 8 entry.last
    ++ little_bytes 8 entry.attributes ++ flat_map (little_bytes 2) entry.name

-- the entries with this one in the place of entry k, or with these attributes in it
abbrev pub with_entry : List ℕ → ℕ → Entry → List ℕ
with_entry entries k entry = spliced entries (128 * k) (entry_bytes entry)

abbrev pub with_attributes : List ℕ → ℕ → ℕ → List ℕ
with_attributes entries k attributes = with_number 8 entries (128 * k + 48) attributes

-- so many zeros
unfoldable pub zeros : ℕ → List ℕ
zeros count = replicate count 0

-- no entry is used
abbrev pub no_entries : List ℕ
no_entries = zeros 16384

-- ---- entries that fit

-- an entry is used where its type is not all 0
abbrev pub is_used : List ℕ → ℕ → Bool
is_used entries k = not (pointwise nat_eq (kind_in entries k) (replicate 16 0))

-- it begins no later than it ends, and lies in the usable sectors
abbrev pub lies_within : ℕ → ℕ → List ℕ → ℕ → Bool
lies_within first last entries k =
    nat_le (first_in entries k) (last_in entries k) && nat_le first (first_in entries k) && nat_le (last_in entries k) last

-- two entries have the same unique GUID
abbrev pub have_one_guid : List ℕ → ℕ → ℕ → Bool
have_one_guid entries j k = pointwise nat_eq (unique_in entries j) (unique_in entries k)

-- two entries share no sector: one ends before the other begins
abbrev pub share_none : List ℕ → ℕ → ℕ → Bool
share_none entries j k = nat_lt (last_in entries j) (first_in entries k) || nat_lt (last_in entries k) (first_in entries j)

-- they share no sector and have not the same unique GUID
abbrev pub are_apart : List ℕ → ℕ → ℕ → Bool
are_apart entries j k = share_none entries j k && not (have_one_guid entries j k)

-- a test holds at each number below this one
unfoldable pub all_below : ℕ → (ℕ → Bool) → Bool
all_below zero test = true
all_below (suc count) test = test count && all_below count test

-- where entry k is used, it lies within
abbrev pub entry_fits : ℕ → ℕ → List ℕ → ℕ → Bool
entry_fits first last entries k = not (is_used entries k) || lies_within first last entries k

-- where both are used, they are apart
abbrev pub pair_fits : List ℕ → ℕ → ℕ → Bool
pair_fits entries k j = not (is_used entries j) || are_apart entries j k

-- where entry k is used, it is apart from each used entry before it
abbrev pub fits_earlier : List ℕ → ℕ → Bool
fits_earlier entries k = not (is_used entries k) || all_below k (pair_fits entries k)

-- Each used entry lies within these sectors, and no two used entries share a sector or a unique GUID: as a test.
unfoldable pub entries_fit : ℕ → ℕ → List ℕ → Bool
entries_fit first last entries = all_below 128 (entry_fits first last entries) && all_below 128 (fits_earlier entries)

-- ---- the same as a statement over entries and pairs of them, in whole numbers

abbrev pub IsUsed : List ℕ → ℕ → Type 0
IsUsed entries k = kind_in entries k ≡ replicate 16 0 → ⊥

-- Entry k lies within these sectors.
pub record LiesWithin (first last : ℕ) (entries : List ℕ) (k : ℕ) : Type 0 where
  pub begins : first ≤ first_in entries k
  pub ordered : first_in entries k ≤ last_in entries k
  pub ends : last_in entries k ≤ last

-- Two entries share no sector and have not the same unique GUID.
pub record AreApart (entries : List ℕ) (j k : ℕ) : Type 0 where
  pub sectors : (last_in entries j < first_in entries k) ⊎ (last_in entries k < first_in entries j)
  pub unique : unique_in entries j ≡ unique_in entries k → ⊥

pub record EntriesFit (first last : ℕ) (entries : List ℕ) : Type 0 where
  pub within : (k : ℕ) → k < 128 → IsUsed entries k → LiesWithin first last entries k
  pub apart : (j k : ℕ) → j < k → k < 128 → IsUsed entries j → IsUsed entries k → AreApart entries j k
