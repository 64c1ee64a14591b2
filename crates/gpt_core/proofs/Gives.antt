-- What is written of a valid table passes the tests of a copy, and gives the table.
use Rattle.std.proofs.Common.{◌≡◌, ℕ, ◌+◌, ◌-◌, ◌^◌, ◌<◌, ◌≤◌, Bool, true, ◌&&◌, List, ◌++◌, length, take, drop, replicate, Some, refl, ap, sym, ◌∙◌, subst, arith, length-append}
use Rattle.std.specs.Prelude.{nat_eq, nat_le}
use Rattle.std.proofs.lemmas.Bool.{and_parts, eq-eqb, leb-true}
use Rattle.std.proofs.lemmas.List.{take_at, drop_at, length-replicate, append_assoc}
use Rattle.std.proofs.lemmas.Slice.Eq.{bytes_eq-Decides}
use Rattle.byteorder.specs.Endian.{little_bytes}
use Rattle.byteorder.specs.Numbers.{length-bytes_low_first}
use Rattle.wire_core.specs.Fields.{number_at, with_number}
use Rattle.wire_core.specs.Crc32.{crc32_of}
use Rattle.wire_core.proofs.ShiftRegister.{crc32_of-lt}
use Rattle.board_core.specs.Flash.{range}
use Rattle.gpt_core.specs.declared.side.Side.{Side}
use Rattle.gpt_core.specs.declared.side.Side.TheVariants.{Primary, Backup}
use Rattle.gpt_core.specs.Copies.{other_side, header_lba, entries_lba}
use Rattle.gpt_core.specs.Entries.{entries_fit}
use Rattle.gpt_core.specs.Format.{PartitionTable, IsValidTable, signature, has_signature, has_own_crc, without_crc, has_place, has_entries_place, has_counts, bounds_fit, has_bounds, has_entries_crc, has_good_entries, has_size, is_good_header, are_good_entries, table_of_parts, table_of_image, header_in, entries_in, header_rest, header_with, header_sector, content_of}
use Rattle.gpt_core.specs.Tables.{GivesTable}
use Rattle.gpt_core.proofs.Fronts.{BeginsWith, begins_itself, begins_before, number_last, number_within, range_within}
use Rattle.gpt_core.proofs.Encoding.{RestHolds, rest_holds}
use Rattle.gpt_core.proofs.Checks.{table_there}

-- ---- a header of 92 bytes and zeros behind it

-- What is read of a sector that begins with these 92 bytes.
pub record HeaderHolds (crc : ℕ) (rest header : List ℕ) : Type 0 where
  pub size : length header ≡ 512
  pub signed : take 16 header ≡ signature
  pub crc_is : number_at 4 header 16 ≡ crc
  pub without : without_crc header ≡ header_with 0 rest
  pub number : (n from : ℕ) → from + n ≤ 72 → number_at n header (20 + from) ≡ number_at n rest from
  pub bytes : (from count : ℕ) → from + count ≤ 72 → range header (20 + from) count ≡ range rest from count

signed_length : length signature ≡ 16
signed_length = refl

-- the same of any first 16 bytes
holds_any : (first : List ℕ) (crc : ℕ) (rest header : List ℕ) → length first ≡ 16 → length rest ≡ 72 → crc < 256 ^ 4 → header ≡ first ++ little_bytes 4 crc ++ rest ++ replicate 420 0
    → (length header ≡ 512) × (take 16 header ≡ first) × (number_at 4 header 16 ≡ crc) × (with_number 4 (take 92 header) 16 0 ≡ first ++ little_bytes 4 0 ++ rest) × BeginsWith header (first ++ little_bytes 4 crc ++ rest)
holds_any first crc rest header f r small is =
    let front : List ℕ = first ++ little_bytes 4 crc in
    let c : length (little_bytes 4 crc) ≡ 4 = length-bytes_low_first 0 4 crc in
    let twenty : length front ≡ 20 = omega (arith, length-append first (little_bytes 4 crc), f, c) in
    let head : length (front ++ rest) ≡ 92 = omega (arith, length-append front rest, twenty, r) in
    let zeros : length (replicate {A = ℕ} 420 0) ≡ 420 = length-replicate {A = ℕ} 420 0 in
    let begins : BeginsWith header (front ++ rest) = begins_before header (front ++ rest) (replicate 420 0) (subst (BeginsWith header) is (begins_itself header)) in
    let begins' : BeginsWith header front = begins_before header front rest begins in
    let begins'' : BeginsWith header first = begins_before header first (little_bytes 4 crc) begins' in
    let taken : take 92 header ≡ front ++ rest = ap (λ n. take n header) (sym head) ∙ begins.is in
    let left : take 16 (front ++ rest) ≡ first =
    ap (take 16) (append_assoc first (little_bytes 4 crc) rest) ∙ take_at first (little_bytes 4 crc ++ rest) 16 f in
    let right : drop 20 (front ++ rest) ≡ rest = drop_at front rest 20 twenty in (
      ap length is ∙ omega (arith, length-append (front ++ rest) (replicate 420 0), head, zeros),
      ap (λ n. take n header) (sym f) ∙ begins''.is,
      number_last 4 crc header first 16 begins' f small,
      ap (λ (b : List ℕ). with_number 4 b 16 0) taken ∙ ap (λ (b : List ℕ). b ++ little_bytes 4 0 ++ drop 20 (front ++ rest)) left ∙ ap (λ (b : List ℕ). first ++ little_bytes 4 0 ++ b) right,
      begins,
    )

header_holds : (crc : ℕ) (rest header : List ℕ) → length rest ≡ 72 → crc < 256 ^ 4 → header ≡ header_with crc rest ++ replicate 420 0 → HeaderHolds crc rest header
header_holds crc rest header r small is =
    let all = holds_any signature crc rest header signed_length r small is in
    let c : length (little_bytes 4 crc) ≡ 4 = length-bytes_low_first 0 4 crc in
    let twenty : length (signature ++ little_bytes 4 crc) ≡ 20 = omega (arith, length-append signature (little_bytes 4 crc), signed_length, c) in
    record {
      size = all.0;
      signed = all.1;
      crc_is = all.2;
      without = all.3;
      number = λ n from within. number_within n header (signature ++ little_bytes 4 crc) rest 20 from all.4 twenty (omega (arith, within, r));
      bytes = λ from count within. range_within header (signature ++ little_bytes 4 crc) rest 20 from count all.4 twenty (omega (arith, within, r));
    }

-- ---- the tests of what is written

-- each place and each bound is a u64
lba_small : (side : Side) (sectors : ℕ) → sectors ≤ 4294967296 → (header_lba side sectors < 256 ^ 8) × (entries_lba side sectors < 256 ^ 8)
lba_small Primary sectors most = (omega arith, omega arith)
lba_small Backup sectors most = (omega arith, omega arith)

bounds_small : (sectors first last : ℕ) → sectors ≤ 4294967296 → bounds_fit sectors first last ≡ true → (first < 256 ^ 8) × (last < 256 ^ 8)
bounds_small sectors first last most fits =
    let outer = and_parts (nat_le 34 first && nat_le first last) (nat_le last (sectors - 34)) fits in
    let inner = and_parts (nat_le 34 first) (nat_le first last) outer.0 in
    let ordered : first ≤ last = leb-true first last inner.1 in
    let below : last ≤ sectors - 34 = leb-true last (sectors - 34) outer.1 in
    (omega (arith, ordered, below), omega (arith, below))

size_most : (sectors : ℕ) → has_size sectors ≡ true → sectors ≤ 4294967296
size_most sectors fits = leb-true sectors 4294967296 (and_parts (nat_le 69 sectors) (nat_le sectors 4294967296) fits).1

-- all tests one after the other
all_hold : (a b c d e f g h : Bool) → a ≡ true → b ≡ true → c ≡ true → d ≡ true → e ≡ true → f ≡ true → g ≡ true → h ≡ true → (((a && b) && (c && d) && (e && f)) && (g && h)) ≡ true
all_hold a b c d e f g h p q r s t u v w = rw (p, q, r, s, t, u, v, w) refl

same_table : (guid guid' : List ℕ) (first first' last last' : ℕ) (entries : List ℕ) → guid ≡ guid' → first ≡ first' → last ≡ last'
    → ◌≡◌ {A = PartitionTable} (record { guid = guid; first_usable = first; last_usable = last; entries = entries }) (record { guid = guid'; first_usable = first'; last_usable = last'; entries = entries })
same_table guid guid' first first' last last' entries g f l = cc

-- the parts of a copy, by what is read of its header
parts_give : (side : Side) (sectors : ℕ) (table : PartitionTable) (header : List ℕ) (crc : ℕ) (rest : List ℕ) → IsValidTable sectors table → crc ≡ crc32_of (header_with 0 rest) → HeaderHolds crc rest header
    → RestHolds (header_lba side sectors) table.first_usable table.last_usable table.guid (entries_lba side sectors) (crc32_of table.entries) rest → table_of_parts side sectors header table.entries ≡ Some table
parts_give side sectors table header crc rest valid is holds fields =
    let first : number_at 8 header 40 ≡ table.first_usable = holds.number 8 20 (omega arith) ∙ fields.first_is in
    let last : number_at 8 header 48 ≡ table.last_usable = holds.number 8 28 (omega arith) ∙ fields.last_is in
    let bounds : has_bounds sectors header ≡ true =
    ap (λ n. bounds_fit sectors n (number_at 8 header 48)) first ∙ ap (bounds_fit sectors table.first_usable) last ∙ valid.bounds in
    let fits : has_good_entries header table.entries ≡ true =
    ap (λ n. entries_fit n (number_at 8 header 48) table.entries) first ∙ ap (λ n. entries_fit table.first_usable n table.entries) last ∙ valid.fits in
    let counts : has_counts header ≡ true =
    ap (λ b. b && nat_eq (number_at 4 header 84) 128) (eq-eqb (number_at 4 header 80) 128 (holds.number 4 60 (omega arith) ∙ fields.count_is))
    ∙ eq-eqb (number_at 4 header 84) 128 (holds.number 4 64 (omega arith) ∙ fields.size_is) in
    let passes : (is_good_header side sectors header && are_good_entries header table.entries) ≡ true =
    all_hold (has_signature header) (has_own_crc header) (has_place side sectors header) (has_entries_place side sectors header) (has_counts header) (has_bounds sectors header) (has_entries_crc header table.entries) (has_good_entries header table.entries)
    ((bytes_eq-Decides signature (take 16 header)).1 (sym holds.signed))
    (eq-eqb (number_at 4 header 16) (crc32_of (without_crc header)) (holds.crc_is ∙ is ∙ ap crc32_of (sym holds.without)))
    (eq-eqb (number_at 8 header 24) (header_lba side sectors) (holds.number 8 4 (omega arith) ∙ fields.place_is))
    (eq-eqb (number_at 8 header 72) (entries_lba side sectors) (holds.number 8 52 (omega arith) ∙ fields.entries_is))
    counts bounds
    (eq-eqb (number_at 4 header 88) (crc32_of table.entries) (holds.number 4 68 (omega arith) ∙ fields.crc_is))
    fits in
    table_there side sectors header table.entries valid.size passes
    ∙ ap Some (same_table (range header 56 16) table.guid (number_at 8 header 40) table.first_usable (number_at 8 header 48) table.last_usable table.entries (holds.bytes 36 16 (omega arith) ∙ fields.guid_is) first last)

rest_fields : (side : Side) (sectors : ℕ) (table : PartitionTable) → IsValidTable sectors table
    → RestHolds (header_lba side sectors) table.first_usable table.last_usable table.guid (entries_lba side sectors) (crc32_of table.entries) (header_rest side sectors table)
rest_fields side sectors table valid =
    let most = size_most sectors valid.size in
    let places = lba_small side sectors most in
    let bounds = bounds_small sectors table.first_usable table.last_usable most valid.bounds in
    let crc : crc32_of table.entries < 256 ^ 4 = omega (arith, crc32_of-lt table.entries) in
    rest_holds (header_lba side sectors) (header_lba (other_side side) sectors) table.first_usable table.last_usable (entries_lba side sectors) (crc32_of table.entries) table.guid (header_rest side sectors table)
    places.0 bounds.0 bounds.1 places.1 crc valid.guid refl

sector_holds : (side : Side) (sectors : ℕ) (table : PartitionTable) → IsValidTable sectors table → HeaderHolds (crc32_of (header_with 0 (header_rest side sectors table))) (header_rest side sectors table) (header_sector side sectors table)
unfolding header_sector
sector_holds side sectors table valid =
    let rest : List ℕ = header_rest side sectors table in
    let crc : crc32_of (header_with 0 rest) < 256 ^ 4 = omega (arith, crc32_of-lt (header_with 0 rest)) in
    header_holds (crc32_of (header_with 0 rest)) rest (header_sector side sectors table) (rest_fields side sectors table valid).size crc refl

sector_gives : (side : Side) (sectors : ℕ) (table : PartitionTable) → IsValidTable sectors table → table_of_parts side sectors (header_sector side sectors table) table.entries ≡ Some table
sector_gives side sectors table valid =
    parts_give side sectors table (header_sector side sectors table) (crc32_of (header_with 0 (header_rest side sectors table))) (header_rest side sectors table) valid refl (sector_holds side sectors table valid) (rest_fields side sectors table valid)

pub length-header_sector : (side : Side) (sectors : ℕ) (table : PartitionTable) → IsValidTable sectors table → length (header_sector side sectors table) ≡ 512
length-header_sector side sectors table valid = (sector_holds side sectors table valid).size

-- ---- both copies

image_gives : (side : Side) (sectors : ℕ) (table : PartitionTable) (copy : List ℕ) → IsValidTable sectors table → header_in side copy ≡ header_sector side sectors table → entries_in side copy ≡ table.entries → table_of_image side sectors copy ≡ Some table
unfolding table_of_image
image_gives side sectors table copy valid h e =
    ap (λ (x : List ℕ). table_of_parts side sectors x (entries_in side copy)) h ∙ ap (table_of_parts side sectors (header_sector side sectors table)) e ∙ sector_gives side sectors table valid

pub valid_gives : (sectors : ℕ) (table : PartitionTable) → IsValidTable sectors table → GivesTable (content_of sectors table) table sectors
valid_gives sectors table valid =
    let primary : List ℕ = header_sector Primary sectors table in
    let backup : List ℕ = header_sector Backup sectors table in
    record {
      primary = image_gives Primary sectors table (primary ++ table.entries) valid (take_at primary table.entries 512 (length-header_sector Primary sectors table valid)) (drop_at primary table.entries 512 (length-header_sector Primary sectors table valid));
      backup = image_gives Backup sectors table (table.entries ++ backup) valid (drop_at table.entries backup 16384 valid.entries) (take_at table.entries backup 16384 valid.entries);
    }
