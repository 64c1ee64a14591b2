-- The attributes of each entry in turn.
use Rattle.std.proofs.Common.{◌≡◌, ℕ, zero, suc, ◌+◌, ◌-◌, ◌*◌, ◌^◌, ◌<◌, ◌≤◌, ◌⊎◌, inl, inr, Bool, true, false, ◌&&◌, ◌||◌, nat_lt, nat_eq}
use Rattle.std.proofs.Common.{Option, Some, None, IfSome, List, ◌++◌, length, take, drop, take-take, drop-drop, refl, ap, sym, subst, ◌∙◌}
use Rattle.std.proofs.Common.{arith, lt_trans}
use Rattle.std.specs.Prelude.{if◌then◌else◌}
use Rattle.wire_core.specs.Fields.{number_at}
use Rattle.wire_core.proofs.Prefixes.{number_at-take}
use Rattle.board_core.specs.Flash.{range}
use Rattle.board_core.proofs.Overlays.{length-spliced}
use Rattle.board_core.proofs.OverlaidRanges.{range-spliced_apart}
use Rattle.gpt_core.specs.Entries.{kind_in, attributes_in, entry_in, with_attributes}
use Rattle.gpt_core.specs.Room.{RoomView, table_with_attributes}
use Rattle.gpt_core.specs.declared.entry.Entry.{Entry}
use Rattle.walk_core.specs.Attributes.{tried, found_bad}
use Rattle.walk_core.specs.Candidates.{is_candidate, rank_in}
use Rattle.std.proofs.lemmas.List.{take_at, length-take-le}
use Rattle.gpt_core.proofs.Fronts.{BeginsWith, number_last}
use Rattle.walk_core.specs.Fates.{fate_by, room_having, HasFates, SameButAttributes}
use Rattle.gpt_core.specs.Placing.{with_each}
use Rattle.walk_core.specs.Steps.{entry_at, chosen_at, fate_at, mark_of}

-- ---- entries that are not reached yet

pub length-with_attributes : (entries : List ℕ) (k attributes : ℕ) → k < 128 → length entries ≡ 16384
    → length (with_attributes entries k attributes) ≡ 16384
length-with_attributes entries k attributes below size =
    length-spliced entries (128 * k + 48) _ (omega (arith, size, below)) ∙ size

pub length-with_each : (n : ℕ) (attributes : ℕ → ℕ) (entries : List ℕ) → n ≤ 128 → length entries ≡ 16384
    → length (with_each n attributes entries) ≡ 16384
unfolding with_each
length-with_each zero attributes entries few size = size
length-with_each (suc k) attributes entries few size =
    length-with_attributes (with_each k attributes entries) k (attributes k) (omega (arith, few))
    (length-with_each k attributes entries (omega (arith, few)) size)

-- the 128 bytes of an entry
abbrev pub bytes_of : List ℕ → ℕ → List ℕ
bytes_of entries k = range entries (128 * k) 128

-- attributes of another entry are not in them
pub other_entry : (entries : List ℕ) (j k attributes : ℕ) → length entries ≡ 16384 → j < 128 → k < 128 → (j < k) ⊎ (k < j)
    → bytes_of (with_attributes entries j attributes) k ≡ bytes_of entries k
other_entry entries j k attributes size below below' apart =
    let order : (128 * j + 48 + 8 ≤ 128 * k) ⊎ (128 * k + 128 ≤ 128 * j + 48) = grind (arith, apart) in
    range-spliced_apart entries (128 * j + 48) _ (128 * k) 128 (omega (arith, size, below)) (omega (arith, size, below')) order

pub not_yet : (n k : ℕ) (attributes : ℕ → ℕ) (entries : List ℕ) → n ≤ k → k < 128 → length entries ≡ 16384
    → bytes_of (with_each n attributes entries) k ≡ bytes_of entries k
unfolding with_each
not_yet zero k attributes entries before below size = refl
not_yet (suc n) k attributes entries before below size =
    other_entry (with_each n attributes entries) n k (attributes n)
    (length-with_each n attributes entries (omega (arith, before, below)) size) (omega (arith, before, below)) below
    (inl (omega (arith, before)))
    ∙ not_yet n k attributes entries (omega (arith, before)) below size

kind_is : (entries : List ℕ) (k : ℕ) → take 16 (bytes_of entries k) ≡ kind_in entries k
kind_is entries k = take-take 16 128 (drop (128 * k) entries) (omega arith)

attributes_is : (entries : List ℕ) (k : ℕ) → number_at 8 (bytes_of entries k) 48 ≡ attributes_in entries k
attributes_is entries k = number_at-take 8 48 128 (drop (128 * k) entries) (omega arith)
    ∙ ap (λ (b : List ℕ). number_at 8 b 0) (drop-drop 48 (128 * k) entries)

pub same_kind : (one two : List ℕ) (k : ℕ) → bytes_of one k ≡ bytes_of two k → kind_in one k ≡ kind_in two k
same_kind one two k same = sym (kind_is one k) ∙ ap (λ (b : List ℕ). take 16 b) same ∙ kind_is two k

pub same_attributes : (one two : List ℕ) (k : ℕ) → bytes_of one k ≡ bytes_of two k → attributes_in one k ≡ attributes_in two k
same_attributes one two k same = sym (attributes_is one k) ∙ ap (λ (b : List ℕ). number_at 8 b 48) same ∙ attributes_is two k

-- ---- the fate of an entry by what it says

same_fate : (bad : Bool) (one two : List ℕ) (k : ℕ) (chosen : Option ℕ) → bytes_of one k ≡ bytes_of two k
    → fate_at bad (entry_in one k) k chosen ≡ fate_at bad (entry_in two k) k chosen
same_fate bad one two k chosen same =
    ap (λ (kind : List ℕ). fate_at bad (record (entry_in one k) { kind = kind }) k chosen) (same_kind one two k same)
    ∙ ap (λ (attributes : ℕ). fate_at bad (record (entry_in two k) { attributes = attributes }) k chosen) (same_attributes one two k same)

and-true : (b : Bool) → (b && true) ≡ b
and-true true = refl
and-true false = refl

by_rank : (marks : List Bool) (entries : List ℕ) (chosen : Option ℕ) (k : ℕ) → IfSome chosen (λ r. r ≡ rank_in entries (entry_at r))
    → fate_at (mark_of marks k) (entry_in entries k) k chosen ≡ fate_by (mark_of marks) entries (chosen_at chosen) k
by_rank marks entries None k is =
    ap (λ (b : Bool). if b then found_bad (attributes_in entries k) else attributes_in entries k) (and-true (is_candidate entries k))
by_rank marks entries (Some r) k is =
    ap (λ (x : ℕ). if nat_eq (entry_at r) k then tried (attributes_in entries k)
    else (if is_candidate entries k && (nat_lt (rank_in entries k) x || (nat_lt x (rank_in entries k) && mark_of marks k)) then found_bad
    (attributes_in entries k) else attributes_in entries k)) is

pub fate_is : (marks : List Bool) (entries : List ℕ) (chosen : Option ℕ) (k : ℕ) (attributes : ℕ → ℕ) → k < 128 → length entries ≡ 16384
    → IfSome chosen (λ r. r ≡ rank_in entries (entry_at r))
    → fate_at (mark_of marks k) (entry_in (with_each k attributes entries) k) k chosen ≡ fate_by (mark_of marks) entries
    (chosen_at chosen) k
fate_is marks entries chosen k attributes below size is =
    same_fate (mark_of marks k) (with_each k attributes entries) entries k chosen (not_yet k k attributes entries (omega arith) below size)
    ∙ by_rank marks entries chosen k is

-- ---- one more entry

pub with_each-none : (attributes : ℕ → ℕ) (entries : List ℕ) → with_each 0 attributes entries ≡ entries
unfolding with_each
with_each-none attributes entries = refl

pub with_each-more : (k : ℕ) (attributes : ℕ → ℕ) (entries : List ℕ)
    → with_each (k + 1) attributes entries ≡ with_attributes (with_each k attributes entries) k (attributes k)
unfolding with_each
with_each-more k attributes entries =
    let next : k + 1 ≡ suc k = omega arith in
    ap (λ (n : ℕ). with_each n attributes entries) next

-- two ways to give the same attributes
pub with_each-same : (n : ℕ) (one two : ℕ → ℕ) (entries : List ℕ) → ((k : ℕ) → k < n → one k ≡ two k)
    → with_each n one entries ≡ with_each n two entries
unfolding with_each
with_each-same zero one two entries same = refl
with_each-same (suc n) one two entries same =
    ap (λ (a : ℕ). with_attributes (with_each n one entries) n a) (same n (omega arith))
    ∙ ap (λ (e : List ℕ). with_attributes e n (two n)) (with_each-same n one two entries (λ k below. same k (omega (arith, below))))

-- the attributes that an entry gets in its turn are its fate
pub fate_of : (old now : RoomView) (marks : List Bool) (chosen : Option ℕ) (k attributes : ℕ) (entry : Entry) → k < 128
    → length old.table.entries ≡ 16384
    → IfSome chosen (λ r. r ≡ rank_in old.table.entries (entry_at r))
    → now ≡ room_having old (with_each k (fate_by (mark_of marks) old.table.entries (chosen_at chosen)) old.table.entries)
    → entry ≡ entry_in now.table.entries (k + 1 - 1)
    → attributes ≡ fate_at (mark_of marks k) entry k chosen
    → attributes ≡ fate_by (mark_of marks) old.table.entries (chosen_at chosen) k
fate_of old now marks chosen k attributes entry below size is before read made =
    let entries = old.table.entries in
    let fates : ℕ → ℕ = fate_by (mark_of marks) entries (chosen_at chosen) in
    let here : k + 1 - 1 ≡ k = omega arith in
    let read' : entry ≡ entry_in (with_each k fates entries) k = read ∙ ap (λ (j : ℕ). entry_in now.table.entries j) here
    ∙ ap (λ (r : RoomView). entry_in r.table.entries k) before in
    made ∙ ap (λ (e : Entry). fate_at (mark_of marks k) e k chosen) read' ∙ fate_is marks entries chosen k fates below size is

-- one more entry is marked
pub marked_more : (old now new : RoomView) (marks : List Bool) (chosen : Option ℕ) (k attributes : ℕ) → k < 128
    → attributes ≡ fate_by (mark_of marks) old.table.entries (chosen_at chosen) k
    → now ≡ room_having old (with_each k (fate_by (mark_of marks) old.table.entries (chosen_at chosen)) old.table.entries)
    → new ≡ record now { table = table_with_attributes now.table (k + 1 - 1) attributes }
    → new ≡ room_having old (with_each (k + 1) (fate_by (mark_of marks) old.table.entries (chosen_at chosen)) old.table.entries)
marked_more old now new marks chosen k attributes below fated before given =
    let entries = old.table.entries in
    let fates : ℕ → ℕ = fate_by (mark_of marks) entries (chosen_at chosen) in
    let here : k + 1 - 1 ≡ k = omega arith in
    given
    ∙ ap (λ (j : ℕ). record now { table = table_with_attributes now.table j attributes }) here
    ∙ ap (λ (r : RoomView). record r { table = table_with_attributes r.table k attributes }) before
    ∙ ap (λ (a : ℕ). room_having old (with_attributes (with_each k fates entries) k a)) fated
    ∙ ap (λ (e : List ℕ). room_having old e) (sym (with_each-more k fates entries))

-- ---- each entry has its fate

-- Each of the first so many has these attributes, and all else is as it was.
pub record FatesBelow (n : ℕ) (entries entries' : List ℕ) (fates : ℕ → ℕ) : Type 0 where
  pub attributes : (k : ℕ) → k < n → attributes_in entries' k ≡ fates k
  pub front : (k : ℕ) → k < 128 → range entries' (128 * k) 48 ≡ range entries (128 * k) 48
  pub name : (k : ℕ) → k < 128 → range entries' (128 * k + 56) 72 ≡ range entries (128 * k + 56) 72
  pub size : length entries' ≡ length entries

pub fates-none : (entries : List ℕ) (fates : ℕ → ℕ) → FatesBelow 0 entries entries fates
fates-none entries fates = record {
  attributes = λ k before. absurd (omega (arith, before));
  front = λ k below. refl;
  name = λ k below. refl;
  size = refl;
}

begins_front : (front piece rest : List ℕ) → BeginsWith (front ++ piece ++ rest) (front ++ piece)
begins_front front piece rest = record { is = take_at (front ++ piece) rest (length (front ++ piece)) refl }

this_entry : (entries : List ℕ) (k attributes : ℕ) → length entries ≡ 16384 → k < 128 → attributes < 256 ^ 8
    → attributes_in (with_attributes entries k attributes) k ≡ attributes
this_entry entries k attributes size below small =
    let before : length (take (128 * k + 48) entries) ≡ 128 * k + 48 = length-take-le (128 * k + 48) entries (omega (arith, size, below)) in
    number_last 8 attributes (with_attributes entries k attributes) (take (128 * k + 48) entries) (128 * k + 48)
    (begins_front (take (128 * k + 48) entries) _ (drop (128 * k + 48 + 8) entries)) before small

ways : (j k : ℕ) → (128 * k + 48 + 8 ≤ 128 * j) ⊎ (128 * j + 48 ≤ 128 * k + 48)
ways j k = grind arith

name_ways : (j k : ℕ) → (128 * k + 48 + 8 ≤ 128 * j + 56) ⊎ (128 * j + 56 + 72 ≤ 128 * k + 48)
name_ways j k = grind arith

last_or_before : (p n : ℕ) → p < n + 1 → (n ≡ p) ⊎ (p < n)
last_or_before p n before = grind (arith, before)

pub apart_front : (entries : List ℕ) (n k attributes : ℕ) → length entries ≡ 16384 → n < 128 → k < 128 → range (with_attributes entries n attributes) (128 * k) 48 ≡ range entries (128 * k) 48
apart_front entries n k attributes size below inside =
    range-spliced_apart entries (128 * n + 48) _ (128 * k) 48 (omega (arith, size, below)) (omega (arith, size, inside)) (ways k n)

apart_name : (entries : List ℕ) (n k attributes : ℕ) → length entries ≡ 16384 → n < 128 → k < 128
    → range (with_attributes entries n attributes) (128 * k + 56) 72 ≡ range entries (128 * k + 56) 72
apart_name entries n k attributes size below inside =
    range-spliced_apart entries (128 * n + 48) _ (128 * k + 56) 72 (omega (arith, size, below)) (omega (arith, size, inside))
    (name_ways k n)

pub fates-more : (n : ℕ) (entries entries' : List ℕ) (fates : ℕ → ℕ) (attributes : ℕ) → length entries ≡ 16384 → n < 128
    → attributes ≡ fates n → attributes < 256 ^ 8
    → FatesBelow n entries entries' fates → FatesBelow (n + 1) entries (with_attributes entries' n attributes) fates
fates-more n entries entries' fates attributes size below is small before =
    let long : length entries' ≡ 16384 = before.size ∙ size in
    record {
      attributes = λ k early. elim (last_or_before k n early) [
        | inl here ↦ subst (λ (j : ℕ). attributes_in (with_attributes entries' n attributes) j ≡ fates j) here (this_entry entries' n attributes long below small ∙ is)
        | inr earlier ↦ same_attributes (with_attributes entries' n attributes) entries' k (other_entry entries' n k attributes long below (lt_trans earlier below) (inr earlier)) ∙ before.attributes k earlier
      ];
      front = λ k inside. apart_front entries' n k attributes long below inside ∙ before.front k inside;
      name = λ k inside. apart_name entries' n k attributes long below inside ∙ before.name k inside;
      size = length-with_attributes entries' n attributes below long ∙ sym size;
    }

-- one more entry of a room
pub each_more : (old now new : RoomView) (fates : ℕ → ℕ) (k attributes : ℕ) → length old.table.entries ≡ 16384 → k < 128
    → attributes ≡ fates k → attributes < 256 ^ 8
    → new ≡ record now { table = table_with_attributes now.table (k + 1 - 1) attributes }
    → FatesBelow k old.table.entries now.table.entries fates → FatesBelow (k + 1) old.table.entries new.table.entries fates
each_more old now new fates k attributes size below is small given before =
    let here : k + 1 - 1 ≡ k = omega arith in
    let entries : new.table.entries ≡ with_attributes now.table.entries k attributes =
    ap (λ (r : RoomView). r.table.entries) given ∙ ap (λ (j : ℕ). with_attributes now.table.entries j attributes) here in
    subst (λ (e : List ℕ). FatesBelow (k + 1) old.table.entries e fates) (sym entries)
    (fates-more k old.table.entries now.table.entries fates attributes size below is small before)

-- all of them
pub each_all : (n : ℕ) (entries entries' : List ℕ) (fates : ℕ → ℕ) → n ≡ 128 → FatesBelow n entries entries' fates → HasFates entries' fates
each_all n entries entries' fates end below = λ k inside. below.attributes k (omega (arith, end, inside))

pub kept_all : (n : ℕ) (old new : RoomView) (entries : List ℕ) (fates : ℕ → ℕ) → new ≡ room_having old entries
    → FatesBelow n old.table.entries new.table.entries fates → SameButAttributes old new
kept_all n old new entries fates is below = record {
  room = is ∙ ap (λ (e : List ℕ). room_having old e) (sym (ap (λ (r : RoomView). r.table.entries) is));
  size = below.size;
  front = below.front;
  name = below.name;
}

-- a room that stays
pub kept_none : (room : RoomView) → SameButAttributes room room
kept_none room = record { room = refl; size = refl; front = λ k below. refl; name = λ k below. refl }

-- fates that are alike
pub each_same : (entries : List ℕ) (one two : ℕ → ℕ) → ((k : ℕ) → k < 128 → one k ≡ two k) → HasFates entries one → HasFates entries two
each_same entries one two same has = λ k inside. has k inside ∙ same k inside
