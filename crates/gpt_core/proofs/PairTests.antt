-- The test of the entries answers true exactly where the statement holds.
use Rattle.std.proofs.Common.{◌≡◌, ℕ, ◌<◌, ◌⊎◌, inl, inr, Bool, true, false, ◌&&◌, ◌||◌, List, replicate, refl, ap, sym, ◌∙◌}
use Rattle.std.specs.Prelude.{nat_le, nat_lt, nat_eq, not}
use Rattle.std.specs.Cmp.Lexicographic.{pointwise}
use Rattle.std.proofs.lemmas.Bool.{and_parts, le-leb, leb-true, ltb-true, lt-ltb, false≢true}
use Rattle.std.proofs.lemmas.Slice.Eq.{bytes_eq-Decides}
use Rattle.gpt_core.specs.Entries.{kind_in, unique_in, first_in, last_in, all_below, is_used, lies_within, have_one_guid, share_none, are_apart, entry_fits, pair_fits, fits_earlier, entries_fit, IsUsed, LiesWithin, AreApart, EntriesFit}
use Rattle.gpt_core.proofs.AllBelow.{all_below-at, all_below-always}

pub true_or_false : (b : Bool) → (b ≡ true) ⊎ (b ≡ false)
true_or_false true = inl refl
true_or_false false = inr refl

-- one of two tests holds
pub either : (a b : Bool) → (a || b) ≡ true → (a ≡ true) ⊎ (b ≡ true)
either true b h = inl refl
either false b h = inr h

pub not-true : (b : Bool) → not b ≡ true → b ≡ false
not-true true h = sym h
not-true false h = refl

both : (a b : Bool) → a ≡ true → b ≡ true → (a && b) ≡ true
both a b h k = ap (λ (x : Bool). x && b) h ∙ k

-- ---- from the test to the statement

pub used-true : (entries : List ℕ) (k : ℕ) → IsUsed entries k → is_used entries k ≡ true
used-true entries k used =
    elim (true_or_false (pointwise nat_eq (kind_in entries k) (replicate 16 0))) [
      | inl zeros ↦ absurd (used ((bytes_eq-Decides (kind_in entries k) (replicate 16 0)).0 zeros))
      | inr others ↦ ap not others
    ]

-- a used entry's test is what stands behind `or`
used_then : (entries : List ℕ) (k : ℕ) (b : Bool) → IsUsed entries k → (not (is_used entries k) || b) ≡ true → b ≡ true
used_then entries k b used h = sym (ap (λ (x : Bool). not x || b) (used-true entries k used)) ∙ h

within-says : (first last : ℕ) (entries : List ℕ) (k : ℕ) → lies_within first last entries k ≡ true → LiesWithin first last entries k
within-says first last entries k h =
    let outer = and_parts (nat_le (first_in entries k) (last_in entries k) && nat_le first (first_in entries k)) (nat_le (last_in entries k) last) h in
    let inner = and_parts (nat_le (first_in entries k) (last_in entries k)) (nat_le first (first_in entries k)) outer.0 in
    record { begins = leb-true first (first_in entries k) inner.1; ordered = leb-true (first_in entries k) (last_in entries k) inner.0; ends = leb-true (last_in entries k) last outer.1 }

sectors-says : (entries : List ℕ) (j k : ℕ) → share_none entries j k ≡ true → (last_in entries j < first_in entries k) ⊎ (last_in entries k < first_in entries j)
sectors-says entries j k h =
    elim (either (nat_lt (last_in entries j) (first_in entries k)) (nat_lt (last_in entries k) (first_in entries j)) h) [
      | inl below ↦ inl (ltb-true (last_in entries j) (first_in entries k) below)
      | inr above ↦ inr (ltb-true (last_in entries k) (first_in entries j) above)
    ]

apart-says : (entries : List ℕ) (j k : ℕ) → are_apart entries j k ≡ true → AreApart entries j k
apart-says entries j k h =
    let parts = and_parts (share_none entries j k) (not (have_one_guid entries j k)) h in
    record {
      sectors = sectors-says entries j k parts.0;
      unique = λ same. false≢true (sym (not-true (have_one_guid entries j k) parts.1) ∙ (bytes_eq-Decides (unique_in entries j) (unique_in entries k)).1 same);
    }

pub entries_fit-says : (first last : ℕ) (entries : List ℕ) → entries_fit first last entries ≡ true → EntriesFit first last entries
unfolding entries_fit
entries_fit-says first last entries h =
    let parts = and_parts (all_below 128 (entry_fits first last entries)) (all_below 128 (fits_earlier entries)) h in
    record {
      within = λ k below used. within-says first last entries k (used_then entries k (lies_within first last entries k) used (all_below-at 128 k (entry_fits first last entries) parts.0 below));
      apart = λ j k less below used used'.
          let earlier : all_below k (pair_fits entries k) ≡ true = used_then entries k (all_below k (pair_fits entries k)) used' (all_below-at 128 k (fits_earlier entries) parts.1 below) in
          apart-says entries j k (used_then entries j (are_apart entries j k) used (all_below-at k j (pair_fits entries k) earlier less));
    }

-- ---- and back

pub is_used-true : (entries : List ℕ) (k : ℕ) → is_used entries k ≡ true → IsUsed entries k
is_used-true entries k h same =
    false≢true (sym (not-true (pointwise nat_eq (kind_in entries k) (replicate 16 0)) h) ∙ (bytes_eq-Decides (kind_in entries k) (replicate 16 0)).1 same)

-- a test behind `or` holds, where it holds of a used entry
where_used : (entries : List ℕ) (k : ℕ) (b : Bool) → (IsUsed entries k → b ≡ true) → (not (is_used entries k) || b) ≡ true
where_used entries k b h =
    elim (true_or_false (is_used entries k)) [
      | inl used ↦ ap (λ (x : Bool). not x || b) used ∙ h (is_used-true entries k used)
      | inr unused ↦ ap (λ (x : Bool). not x || b) unused
    ]

within-test : (first last : ℕ) (entries : List ℕ) (k : ℕ) → LiesWithin first last entries k → lies_within first last entries k ≡ true
within-test first last entries k h =
    both (nat_le (first_in entries k) (last_in entries k) && nat_le first (first_in entries k)) (nat_le (last_in entries k) last)
    (both (nat_le (first_in entries k) (last_in entries k)) (nat_le first (first_in entries k)) (le-leb (first_in entries k) (last_in entries k) h.ordered) (le-leb first (first_in entries k) h.begins))
    (le-leb (last_in entries k) last h.ends)

or-true : (b : Bool) → (b || true) ≡ true
or-true true = refl
or-true false = refl

sectors-test : (entries : List ℕ) (j k : ℕ) → (last_in entries j < first_in entries k) ⊎ (last_in entries k < first_in entries j) → share_none entries j k ≡ true
sectors-test entries j k (inl below) = ap (λ (x : Bool). x || nat_lt (last_in entries k) (first_in entries j)) (lt-ltb (last_in entries j) (first_in entries k) below)
sectors-test entries j k (inr above) = ap (λ (x : Bool). nat_lt (last_in entries j) (first_in entries k) || x) (lt-ltb (last_in entries k) (first_in entries j) above) ∙ or-true (nat_lt (last_in entries j) (first_in entries k))

apart-test : (entries : List ℕ) (j k : ℕ) → AreApart entries j k → are_apart entries j k ≡ true
apart-test entries j k h =
    both (share_none entries j k) (not (have_one_guid entries j k)) (sectors-test entries j k h.sectors)
    (elim (true_or_false (have_one_guid entries j k)) [
      | inl same ↦ absurd (h.unique ((bytes_eq-Decides (unique_in entries j) (unique_in entries k)).0 same))
      | inr others ↦ ap not others
    ])

pub EntriesFit-test : (first last : ℕ) (entries : List ℕ) → EntriesFit first last entries → entries_fit first last entries ≡ true
unfolding entries_fit
EntriesFit-test first last entries h =
    both (all_below 128 (entry_fits first last entries)) (all_below 128 (fits_earlier entries))
    (all_below-always 128 (entry_fits first last entries) (λ k below. where_used entries k (lies_within first last entries k) (λ used. within-test first last entries k (h.within k below used))))
    (all_below-always 128 (fits_earlier entries) (λ k below. where_used entries k (all_below k (pair_fits entries k)) (λ used'.
    all_below-always k (pair_fits entries k) (λ j less. where_used entries j (are_apart entries j k) (λ used. apart-test entries j k (h.apart j k less below used used'))))))
