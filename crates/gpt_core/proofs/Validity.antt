-- Tables that can stand on a disk: those that are found, the new one, and those that a change leaves.
use Rattle.std.proofs.Common.{◌≡◌, ℕ, zero, suc, ◌+◌, ◌-◌, ◌*◌, ◌<◌, ◌≤◌, ◌⊎◌, Bool, true, false, ◌&&◌, ◌||◌, cond, List, ◌∷◌, length, take, drop, replicate, Some, None, refl, ap, sym, ◌∙◌, subst, arith, length-take-le, length-drop}
use Rattle.std.specs.Prelude.{nat_eq, nat_le, nat_lt, not}
use Rattle.std.specs.Cmp.Lexicographic.{pointwise}
use Rattle.std.proofs.lemmas.Bool.{and_parts, le-leb}
use Rattle.std.proofs.lemmas.List.{take-take, drop-drop}
use Rattle.byteorder.specs.Endian.{little_number, little_bytes}
use Rattle.wire_core.specs.Fields.{number_at}
use Rattle.wire_core.proofs.Prefixes.{number_at-take}
use Rattle.board_core.specs.Flash.{range}
use Rattle.board_core.proofs.OverlaidRanges.{range-range, range-spliced_apart, length-range}
use Rattle.gpt_core.specs.declared.side.Side.{Side}
use Rattle.gpt_core.specs.declared.side.Side.TheVariants.{Primary, Backup}
use Rattle.gpt_core.specs.declared.entry.Entry.{Entry}
use Rattle.gpt_core.specs.Entries.{zeros, kind_in, unique_in, first_in, last_in, is_used, lies_within, share_none, are_apart, have_one_guid, entry_fits, pair_fits, fits_earlier, entries_fit, all_below, with_attributes, with_entry}
use Rattle.gpt_core.specs.Format.{PartitionTable, IsValidTable, header_in, entries_in, has_size, bounds_fit, has_bounds, has_signature, has_own_crc, has_place, has_entries_place, has_counts, has_entries_crc, has_good_entries, is_good_header, are_good_entries, is_good_copy, table_from, table_of_image}
use Rattle.gpt_core.specs.Room.{new_table, table_with_entry, table_with_attributes}
use Rattle.gpt_core.proofs.AllBelow.{all_below-same, all_below-always}
use Rattle.gpt_core.proofs.Checks.{size_fits}
use Rattle.gpt_core.proofs.Padding.{drop-zeros}
use Rattle.gpt_core.proofs.Units.{length-zeros}

-- ---- a table that was found

pub chosen : (b : Bool) (one table : PartitionTable) → cond b (Some one) None ≡ Some table → (b ≡ true) × (one ≡ table)
chosen true one table e = (refl, cc)
chosen false one table e = absurd cc

length-header_in : (side : Side) (copy : List ℕ) → length copy ≡ 16896 → length (header_in side copy) ≡ 512
length-header_in Primary copy size = length-take-le 512 copy (omega (arith, size))
length-header_in Backup copy size = omega (arith, length-drop 16384 copy, size)

length-entries_in : (side : Side) (copy : List ℕ) → length copy ≡ 16896 → length (entries_in side copy) ≡ 16384
length-entries_in Primary copy size = omega (arith, length-drop 512 copy, size)
length-entries_in Backup copy size = length-take-le 16384 copy (omega (arith, size))

-- the parts of a good copy
parts_valid : (side : Side) (sectors : ℕ) (header entries : List ℕ) → length header ≡ 512 → length entries ≡ 16384 → is_good_copy side sectors header entries ≡ true → IsValidTable sectors (table_from header entries)
parts_valid side sectors header entries h e good =
    let outer = and_parts (has_size sectors) (is_good_header side sectors header && are_good_entries header entries) good in
    let inner = and_parts (is_good_header side sectors header) (are_good_entries header entries) outer.1 in
    let header_tests = and_parts ((has_signature header && has_own_crc header) && (has_place side sectors header && has_entries_place side sectors header)) (has_counts header && has_bounds sectors header) inner.0 in
    let bounds = and_parts (has_counts header) (has_bounds sectors header) header_tests.1 in
    let fits = and_parts (has_entries_crc header entries) (has_good_entries header entries) inner.1 in
    record { size = outer.0; guid = length-range header 56 16 (omega (arith, h)); bounds = bounds.1; entries = e; fits = fits.1 }

pub image_valid : (side : Side) (sectors : ℕ) (copy : List ℕ) (table : PartitionTable) → length copy ≡ 16896 → table_of_image side sectors copy ≡ Some table → IsValidTable sectors table
unfolding table_of_image
image_valid side sectors copy table size is =
    let parts = chosen (is_good_copy side sectors (header_in side copy) (entries_in side copy)) (table_from (header_in side copy) (entries_in side copy)) table is in
    subst (IsValidTable sectors) parts.1 (parts_valid side sectors (header_in side copy) (entries_in side copy) (length-header_in side copy size) (length-entries_in side copy size) parts.0)

-- ---- the new table

take-zeros : (k n : ℕ) → k ≤ n → take {A = ℕ} k (replicate n 0) ≡ replicate k 0
take-zeros zero n within = refl
take-zeros (suc k) zero within = absurd (omega arith)
take-zeros (suc k) (suc n) within = ap (λ l. 0 ∷ l) (take-zeros k n (omega arith))

range-zeros : (n at count : ℕ) → at + count ≤ n → range (zeros n) at count ≡ replicate count 0
unfolding zeros
range-zeros n at count within = ap (take count) (drop-zeros at n) ∙ take-zeros count (n - at) (omega arith)

unused : (n k : ℕ) → 128 * k + 16 ≤ n → is_used (zeros n) k ≡ false
unused n k within = ap (λ (l : List ℕ). not (pointwise nat_eq l (replicate 16 0))) (range-zeros n (128 * k) 16 within)

none_fit : (n first last : ℕ) → 16384 ≤ n → entries_fit first last (zeros n) ≡ true
unfolding entries_fit
none_fit n first last large =
    let each : all_below 128 (entry_fits first last (zeros n)) ≡ true =
    all_below-always 128 (entry_fits first last (zeros n)) (λ k below. ap (λ (b : Bool). not b || lies_within first last (zeros n) k) (unused n k (omega arith))) in
    let pairs : all_below 128 (fits_earlier (zeros n)) ≡ true =
    all_below-always 128 (fits_earlier (zeros n)) (λ k below. ap (λ (b : Bool). not b || all_below k (pair_fits (zeros n) k)) (unused n k (omega arith))) in
    ap (λ (b : Bool). b && all_below 128 (fits_earlier (zeros n))) each ∙ pairs

new_bounds : (sectors : ℕ) → 69 ≤ sectors → bounds_fit sectors 34 (sectors - 34) ≡ true
new_bounds sectors enough =
    let ordered : nat_le 34 (sectors - 34) ≡ true = le-leb 34 (sectors - 34) (omega arith) in
    let same : nat_le (sectors - 34) (sectors - 34) ≡ true = le-leb (sectors - 34) (sectors - 34) (omega arith) in
    ap (λ (b : Bool). b && nat_le (sectors - 34) (sectors - 34)) ordered ∙ same

pub new_valid : (sectors : ℕ) (guid : List ℕ) → 69 ≤ sectors → sectors ≤ 4294967296 → length guid ≡ 16 → IsValidTable sectors (new_table sectors guid)
new_valid sectors guid enough most size = record {
  size = size_fits sectors enough most;
  guid = size;
  bounds = new_bounds sectors enough;
  entries = length-zeros 16384;
  fits = none_fit 16384 34 (sectors - 34) (omega arith);
}

-- ---- a changed entry

pub entry_valid : (sectors : ℕ) (table : PartitionTable) (k : ℕ) (entry : Entry) → IsValidTable sectors table → entries_fit table.first_usable table.last_usable (with_entry table.entries k entry) ≡ true
    → length (with_entry table.entries k entry) ≡ 16384 → IsValidTable sectors (table_with_entry table k entry)
entry_valid sectors table k entry valid fits size = record { size = valid.size; guid = valid.guid; bounds = valid.bounds; entries = size; fits = fits }

-- What the tests look at in an entry is the same.
pub record SameFields (one two : List ℕ) (j : ℕ) : Type 0 where
  pub kind : kind_in one j ≡ kind_in two j
  pub unique : unique_in one j ≡ unique_in two j
  pub first : first_in one j ≡ first_in two j
  pub last : last_in one j ≡ last_in two j

pub number_at-range : (size from at n : ℕ) (bytes : List ℕ) → from + size ≤ n → number_at size (range bytes at n) from ≡ number_at size bytes (at + from)
number_at-range size from at n bytes within = number_at-take size from n (drop at bytes) within ∙ ap (little_number size) (drop-drop from at bytes)

-- the first 48 bytes of an entry are what the tests look at
pub same_fields : (one two : List ℕ) (j : ℕ) → range one (128 * j) 48 ≡ range two (128 * j) 48 → SameFields one two j
same_fields one two j same = record {
  kind = sym (take-take 16 48 (drop (128 * j) one) (omega arith)) ∙ ap (take 16) same ∙ take-take 16 48 (drop (128 * j) two) (omega arith);
  unique = sym (range-range one (128 * j) 48 16 16 (omega arith)) ∙ ap (λ (l : List ℕ). range l 16 16) same ∙ range-range two (128 * j) 48 16 16 (omega arith);
  first = sym (number_at-range 8 32 (128 * j) 48 one (omega arith)) ∙ ap (λ (l : List ℕ). number_at 8 l 32) same ∙ number_at-range 8 32 (128 * j) 48 two (omega arith);
  last = sym (number_at-range 8 40 (128 * j) 48 one (omega arith)) ∙ ap (λ (l : List ℕ). number_at 8 l 40) same ∙ number_at-range 8 40 (128 * j) 48 two (omega arith);
}

used_same : (one two : List ℕ) (j : ℕ) → SameFields one two j → is_used one j ≡ is_used two j
used_same one two j same = ap (λ (l : List ℕ). not (pointwise nat_eq l (replicate 16 0))) same.kind

within_same : (first last : ℕ) (one two : List ℕ) (j : ℕ) → SameFields one two j → lies_within first last one j ≡ lies_within first last two j
within_same first last one two j same =
    ap (λ (n : ℕ). nat_le n (last_in one j) && nat_le first n && nat_le (last_in one j) last) same.first
    ∙ ap (λ (n : ℕ). nat_le (first_in two j) n && nat_le first (first_in two j) && nat_le n last) same.last

fits_same : (first last : ℕ) (one two : List ℕ) (j : ℕ) → SameFields one two j → entry_fits first last one j ≡ entry_fits first last two j
fits_same first last one two j same =
    ap (λ (b : Bool). not b || lies_within first last one j) (used_same one two j same) ∙ ap (λ (b : Bool). not (is_used two j) || b) (within_same first last one two j same)

apart_same : (one two : List ℕ) (j k : ℕ) → SameFields one two j → SameFields one two k → are_apart one j k ≡ are_apart two j k
apart_same one two j k sj sk =
    let below : nat_lt (last_in one j) (first_in one k) ≡ nat_lt (last_in two j) (first_in two k) = ap (λ (n : ℕ). nat_lt n (first_in one k)) sj.last ∙ ap (nat_lt (last_in two j)) sk.first in
    let above : nat_lt (last_in one k) (first_in one j) ≡ nat_lt (last_in two k) (first_in two j) = ap (λ (n : ℕ). nat_lt n (first_in one j)) sk.last ∙ ap (nat_lt (last_in two k)) sj.first in
    let guid : have_one_guid one j k ≡ have_one_guid two j k = ap (λ (l : List ℕ). pointwise nat_eq l (unique_in one k)) sj.unique ∙ ap (pointwise nat_eq (unique_in two j)) sk.unique in
    ap (λ (b : Bool). (b || nat_lt (last_in one k) (first_in one j)) && not (have_one_guid one j k)) below
    ∙ ap (λ (b : Bool). (nat_lt (last_in two j) (first_in two k) || b) && not (have_one_guid one j k)) above
    ∙ ap (λ (b : Bool). share_none two j k && not b) guid

pair_same : (one two : List ℕ) (k j : ℕ) → SameFields one two j → SameFields one two k → pair_fits one k j ≡ pair_fits two k j
pair_same one two k j sj sk =
    ap (λ (b : Bool). not b || are_apart one j k) (used_same one two j sj) ∙ ap (λ (b : Bool). not (is_used two j) || b) (apart_same one two j k sj sk)

earlier_same : (one two : List ℕ) (k : ℕ) → ((j : ℕ) → j < 128 → SameFields one two j) → k < 128 → fits_earlier one k ≡ fits_earlier two k
earlier_same one two k same below =
    ap (λ (b : Bool). not b || all_below k (pair_fits one k)) (used_same one two k (same k below))
    ∙ ap (λ (b : Bool). not (is_used two k) || b) (all_below-same k (pair_fits one k) (pair_fits two k) (λ j less. pair_same one two k j (same j (omega arith)) (same k below)))

pub all_same : (first last : ℕ) (one two : List ℕ) → ((j : ℕ) → j < 128 → SameFields one two j) → entries_fit first last one ≡ entries_fit first last two
unfolding entries_fit
all_same first last one two same =
    ap (λ (b : Bool). b && all_below 128 (fits_earlier one)) (all_below-same 128 (entry_fits first last one) (entry_fits first last two) (λ j below. fits_same first last one two j (same j below)))
    ∙ ap (λ (b : Bool). all_below 128 (entry_fits first last two) && b) (all_below-same 128 (fits_earlier one) (fits_earlier two) (λ k below. earlier_same one two k same below))

-- the attributes lie behind those 48 bytes
pub attributes_same : (entries : List ℕ) (k attributes j : ℕ) → length entries ≡ 16384 → k < 128 → j < 128 → SameFields (with_attributes entries k attributes) entries j
attributes_same entries k attributes j size below below' =
    let order : (128 * k + 48 + 8 ≤ 128 * j) ⊎ (128 * j + 48 ≤ 128 * k + 48) = grind arith in
    same_fields (with_attributes entries k attributes) entries j
    (range-spliced_apart entries (128 * k + 48) (little_bytes 8 attributes) (128 * j) 48 (omega arith) (omega arith) order)

pub attributes_valid : (sectors : ℕ) (table : PartitionTable) (k attributes : ℕ) → k < 128 → IsValidTable sectors table → length (with_attributes table.entries k attributes) ≡ 16384 → IsValidTable sectors (table_with_attributes table k attributes)
attributes_valid sectors table k attributes below valid size = record {
  size = valid.size;
  guid = valid.guid;
  bounds = valid.bounds;
  entries = size;
  fits = all_same table.first_usable table.last_usable (with_attributes table.entries k attributes) table.entries (λ j below'. attributes_same table.entries k attributes j valid.entries below below') ∙ valid.fits;
}
