-- A table in which one entry was put: that entry has the new fields, the others stay, and the entries fit.
use Rattle.std.proofs.Common.{◌≡◌, ◌∙◌, ℕ, ◌+◌, ◌*◌, ◌<◌, ◌≤◌, ◌⊎◌, inl, inr, Bool, true, ◌||◌, List, ◌++◌, length, take, drop, replicate, ap, sym, subst, arith, length-append}
use Rattle.std.specs.Prelude.{nat_eq, nat_lt, not}
use Rattle.std.specs.List.{flat_map}
use Rattle.std.specs.Cmp.Lexicographic.{pointwise}
use Rattle.std.proofs.lemmas.Bool.{eqb-true, eq-eqb, ltb-true, false≢true}
use Rattle.std.proofs.lemmas.List.{take-take}
use Rattle.std.proofs.lemmas.Slice.Eq.{bytes_eq-Decides}
use Rattle.byteorder.specs.Endian.{little_bytes}
use Rattle.byteorder.specs.Numbers.{length-bytes_low_first}
use Rattle.wire_core.specs.Fields.{number_at}
use Rattle.board_core.specs.Flash.{range}
use Rattle.board_core.proofs.OverlaidRanges.{range-range, range-spliced_apart, range-spliced_same}
use Rattle.gpt_core.specs.declared.entry.Entry.{Entry}
use Rattle.gpt_core.specs.Entries.{all_below, entry_bytes, kind_in, unique_in, first_in, last_in, is_used, with_entry, IsUsed, LiesWithin, AreApart, EntriesFit}
use Rattle.gpt_core.specs.Format.{PartitionTable, IsValidTable}
use Rattle.gpt_core.specs.Placing.{leaves_guid, leaves_sectors, IsWide, MayStand}
use Rattle.gpt_core.specs.Room.{table_with_entry}
use Rattle.gpt_core.proofs.AllBelow.{all_below-at}
use Rattle.gpt_core.proofs.Fronts.{BeginsWith, begins_itself, begins_before, piece_at, number_last}
use Rattle.gpt_core.proofs.PairTests.{either, not-true, used-true, true_or_false, entries_fit-says, EntriesFit-test}
use Rattle.gpt_core.proofs.Validity.{SameFields, same_fields, number_at-range, entry_valid}

-- ---- the bytes of an entry

-- What is read of them.
record EntryHolds (entry : Entry) (bytes : List ℕ) : Type 0 where
  kind : take 16 bytes ≡ entry.kind
  unique : range bytes 16 16 ≡ entry.unique
  first : number_at 8 bytes 32 ≡ entry.first
  last : number_at 8 bytes 40 ≡ entry.last

wide : (value : ℕ) → length (little_bytes 8 value) ≡ 8
wide value = length-bytes_low_first 0 8 value

entry_holds : (entry : Entry) → IsWide entry → EntryHolds entry (entry_bytes entry)
entry_holds entry is =
    let bytes = entry_bytes entry in
    let a = entry.kind in
    let b = entry.unique in
    let c = little_bytes 8 entry.first in
    let d = little_bytes 8 entry.last in
    let v = little_bytes 8 entry.attributes in
    let n = flat_map (little_bytes 2) entry.name in
    let whole : BeginsWith bytes (a ++ b ++ c ++ d ++ v ++ n) = begins_itself bytes in
    let w5 = begins_before bytes (a ++ b ++ c ++ d ++ v) n whole in
    let w4 = begins_before bytes (a ++ b ++ c ++ d) v w5 in
    let w3 = begins_before bytes (a ++ b ++ c) d w4 in
    let w2 = begins_before bytes (a ++ b) c w3 in
    let w1 = begins_before bytes a b w2 in
    let l2 : length (a ++ b) ≡ 32 = omega (arith, length-append a b, is.kind, is.unique) in
    let l3 : length (a ++ b ++ c) ≡ 40 = omega (arith, length-append (a ++ b) c, l2, wide entry.first) in
    record {
      kind = subst (λ (m : ℕ). take m bytes ≡ a) is.kind w1.is;
      unique = piece_at bytes a b 16 16 w2 is.kind is.unique;
      first = number_last 8 entry.first bytes (a ++ b) 32 w3 l2 is.first;
      last = number_last 8 entry.last bytes (a ++ b ++ c) 40 w4 l3 is.last;
    }

module _ (entries : List ℕ) (k : ℕ) (entry : Entry) (size : length entries ≡ 16384) (below : k < 128) (is : IsWide entry) where
  abbrev after : List ℕ
  after = with_entry entries k entry

  block : range after (128 * k) 128 ≡ entry_bytes entry
  block =
      subst (λ (m : ℕ). range after (128 * k) m ≡ entry_bytes entry) is.size
      (range-spliced_same entries (128 * k) (entry_bytes entry) (omega (arith, is.size)))

  -- the entry that was put
  pub put_kind : kind_in after k ≡ entry.kind
  put_kind = sym (take-take 16 128 (drop (128 * k) after) (omega arith)) ∙ ap (take 16) block ∙ (entry_holds entry is).kind

  put_unique : unique_in after k ≡ entry.unique
  put_unique =
      sym (range-range after (128 * k) 128 16 16 (omega arith)) ∙ ap (λ (l : List ℕ). range l 16 16) block ∙ (entry_holds entry is).unique

  put_first : first_in after k ≡ entry.first
  put_first =
      sym (number_at-range 8 32 (128 * k) 128 after (omega arith)) ∙ ap (λ (l : List ℕ). number_at 8 l 32) block ∙ (entry_holds entry is).first

  put_last : last_in after k ≡ entry.last
  put_last =
      sym (number_at-range 8 40 (128 * k) 128 after (omega arith)) ∙ ap (λ (l : List ℕ). number_at 8 l 40) block ∙ (entry_holds entry is).last

  -- another one
  pub others_stay : (j : ℕ) → j < 128 → (j ≡ k → ⊥) → SameFields after entries j
  others_stay j less other =
      let order : (128 * k + 128 ≤ 128 * j) ⊎ (128 * j + 48 ≤ 128 * k) = grind arith in
      same_fields after entries j
      (range-spliced_apart entries (128 * k) (entry_bytes entry) (128 * j) 48 (omega (arith, is.size)) (omega arith) (apart order))
    where
      apart : (128 * k + 128 ≤ 128 * j) ⊎ (128 * j + 48 ≤ 128 * k) → (128 * k + length (entry_bytes entry) ≤ 128 * j) ⊎ (128 * j + 48 ≤ 128 * k)
      apart (inl past) = inl (omega (arith, is.size))
      apart (inr short) = inr short

-- ---- the entries fit

-- what is left of a test that entry j is this one, or unused, or apart
other_used : (entries : List ℕ) (k j : ℕ) (b : Bool) → (nat_eq j k || not (is_used entries j) || b) ≡ true → (j ≡ k → ⊥) → IsUsed entries j → b ≡ true
other_used entries k j b test other used =
    elim (either (nat_eq j k || not (is_used entries j)) b test) [
      | inl first ↦ elim (either (nat_eq j k) (not (is_used entries j)) first) [
        | inl same ↦ absurd (other (eqb-true j k same))
        | inr unused ↦ absurd (false≢true (sym (not-true (is_used entries j) unused) ∙ used-true entries j used))
      ]
      | inr holds ↦ holds
    ]

sectors_apart : (entries : List ℕ) (k first last j : ℕ) → all_below 128 (leaves_sectors entries k first last) ≡ true → j < 128 → (j ≡ k → ⊥) → IsUsed entries j
    → (last_in entries j < first) ⊎ (last < first_in entries j)
sectors_apart entries k first last j free less other used =
    let test = all_below-at 128 j (leaves_sectors entries k first last) free less in
    let holds = other_used entries k j (nat_lt (last_in entries j) first || nat_lt last (first_in entries j)) test other used in
    elim (either (nat_lt (last_in entries j) first) (nat_lt last (first_in entries j)) holds) [
      | inl below ↦ inl (ltb-true (last_in entries j) first below)
      | inr above ↦ inr (ltb-true last (first_in entries j) above)
    ]

guid_apart : (entries : List ℕ) (k : ℕ) (unique : List ℕ) (j : ℕ) → all_below 128 (leaves_guid entries k unique) ≡ true → j < 128 → (j ≡ k → ⊥) → IsUsed entries j
    → unique_in entries j ≡ unique → ⊥
guid_apart entries k unique j alone less other used same =
    let test = all_below-at 128 j (leaves_guid entries k unique) alone less in
    let holds = other_used entries k j (not (pointwise nat_eq (unique_in entries j) unique)) test other used in
    false≢true (sym (not-true (pointwise nat_eq (unique_in entries j) unique) holds) ∙ (bytes_eq-Decides (unique_in entries j) unique).1 same)

same_or_other : (j k : ℕ) → (j ≡ k) ⊎ (j ≡ k → ⊥)
same_or_other j k = elim (true_or_false (nat_eq j k)) [
  | inl same ↦ inl (eqb-true j k same)
  | inr other ↦ inr (λ same. false≢true (sym other ∙ eq-eqb j k same))
]

module _ (sectors : ℕ) (table : PartitionTable) (k : ℕ) (entry : Entry) (valid : IsValidTable sectors table) (below : k < 128) (is : IsWide entry)
    (stands : (entry.kind ≡ replicate 16 0 → ⊥) → MayStand table k entry) where
  abbrev old : List ℕ
  old = table.entries

  abbrev new : List ℕ
  new = with_entry table.entries k entry

  fits : EntriesFit table.first_usable table.last_usable old
  fits = entries_fit-says table.first_usable table.last_usable old valid.fits

  -- the entry that was put is used
  put_used : IsUsed new k → entry.kind ≡ replicate 16 0 → ⊥
  put_used used zeros = used (put_kind old k entry valid.entries below is ∙ zeros)

  stay : (j : ℕ) → j < 128 → (j ≡ k → ⊥) → SameFields new old j
  stay j less other = others_stay old k entry valid.entries below is j less other

  was_used : (j : ℕ) → j < 128 → (j ≡ k → ⊥) → IsUsed new j → IsUsed old j
  was_used j less other used zeros = used ((stay j less other).kind ∙ zeros)

  within_new : (j : ℕ) → j < 128 → IsUsed new j → LiesWithin table.first_usable table.last_usable new j
  within_new j less used = elim (same_or_other j k) [
    | inl same ↦
        let may = stands (put_used (subst (IsUsed new) same used)) in
        let first = ap (first_in new) same ∙ put_first old k entry valid.entries below is in
        let last = ap (last_in new) same ∙ put_last old k entry valid.entries below is in
        record { begins = omega (arith, may.begins, first); ordered = omega (arith, may.ordered, first, last); ends = omega (arith, may.ends, last) }
    | inr other ↦
        let lies = fits.within j less (was_used j less other used) in
        let first = (stay j less other).first in
        let last = (stay j less other).last in
        record { begins = omega (arith, lies.begins, first); ordered = omega (arith, lies.ordered, first, last); ends = omega (arith, lies.ends, last) }
  ]

  -- entry k and another one
  apart_put : (j : ℕ) → j < 128 → (j ≡ k → ⊥) → IsUsed new j → IsUsed new k
      → ((last_in new j < first_in new k) ⊎ (last_in new k < first_in new j)) × (unique_in new j ≡ unique_in new k → ⊥)
  apart_put j less other used put =
      let may = stands (put_used put) in
      let was = was_used j less other used in
      let same = stay j less other in
      let first = put_first old k entry valid.entries below is in
      let last = put_last old k entry valid.entries below is in (
        elim (sectors_apart old k entry.first entry.last j may.free less other was) [
          | inl before ↦ inl (omega (arith, before, same.last, first))
          | inr after ↦ inr (omega (arith, after, same.first, last))
        ],
        λ one. guid_apart old k entry.unique j may.unique less other was (sym same.unique ∙ one ∙ put_unique old k entry valid.entries below is),
      )

  turned : {A B : Type 0} → A ⊎ B → B ⊎ A
  turned (inl a) = inr a
  turned (inr b) = inl b

  apart_new : (i j : ℕ) → i < j → j < 128 → IsUsed new i → IsUsed new j → AreApart new i j
  apart_new i j before less one two = elim (same_or_other i k) [
    | inl same ↦
        let differs : j ≡ k → ⊥ = λ e. absurd (omega (arith, before, same, e)) in
        let both = apart_put j less differs two (subst (IsUsed new) same one) in
        subst (λ (n : ℕ). AreApart new n j) (sym same) (record { sectors = turned both.0; unique = λ e. both.1 (sym e) })
    | inr other ↦ elim (same_or_other j k) [
      | inl same' ↦
          let both = apart_put i (omega arith) other one (subst (IsUsed new) same' two) in
          subst (λ (n : ℕ). AreApart new i n) (sym same') (record { sectors = both.0; unique = both.1 })
      | inr other' ↦
          let below' : i < 128 = omega arith in
          let was = fits.apart i j before less (was_used i below' other one) (was_used j less other' two) in
          let si = stay i below' other in
          let sj = stay j less other' in
          record {
            sectors = elim was.sectors [
              | inl low ↦ inl (omega (arith, low, si.last, sj.first))
              | inr high ↦ inr (omega (arith, high, si.first, sj.last))
            ];
            unique = λ e. was.unique (sym si.unique ∙ e ∙ sj.unique);
          }
    ]
  ]

  -- where the old entries fit, and the new one may stand, the new ones fit
  pub placed_fits : EntriesFit table.first_usable table.last_usable new
  placed_fits = record { within = within_new; apart = apart_new }

  -- and the table can stand on the disk
  pub placed_valid : length new ≡ 16384 → IsValidTable sectors (table_with_entry table k entry)
  placed_valid size =
      entry_valid sectors table k entry valid (EntriesFit-test table.first_usable table.last_usable new placed_fits) size
