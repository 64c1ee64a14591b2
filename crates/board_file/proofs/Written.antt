-- The text of a hook file is read back.
use Rattle.std.proofs.Common.{◌≡◌, ℕ, ◌*◌, ◌<◌, ◌≤◌, get_or, sym, nat_le, true, codes, List, [], ◌∷◌, ◌++◌, length, take, map, Some, refl, ap, ◌∙◌, arith, Global, String, string_bytes, Bool, Ordering, Less, Equal, Greater}
use Rattle.std.specs.Prelude.{Ok, IsTrue, pos}
use Rattle.std.specs.List.{Any}
use Rattle.std.specs.Ordering.{match_ordering}
use Rattle.std.specs.BTreeMap.{insert_entry}
use Rattle.std.proofs.lemmas.Bool.Decides.{nat_tests}
use Rattle.std.proofs.lemmas.List.{length-map, map-append, length-append, get_or_append_left, length-take-le}
use Rattle.hex.specs.Hex.{decode_of, encode_lower, IsBytes, lower_digits}
use Rattle.hex.proofs.HexLemmas.{decode_of-encode_lower, length-encode_with}
use Rattle.toml.specs.Data.{Data, string, integer, array, table, Members, no_members, member, depth, items_depth, members_depth}
use Rattle.toml.specs.View.{view, items_view, members_view, items_of}
use Rattle.toml.specs.Parse.{parse_document}
use Rattle.toml.specs.declared.value.Value.{Value}
use Rattle.std.specs.String.{string_cmp}
use Rattle.toml.proofs.Views.{Entry}
use Rattle.board_core.specs.declared.hook_row.HookRow.{HookRow}
use Rattle.board_core.specs.HookRow.{is_digest_size}
use Rattle.board_file.specs.HookFile.{ToldRow, told, bytes_of, is_short, is_short_or_long, integer_at, string_at, row_of, row_of_members, elements_of, hook_of, hook_file}
use Rattle.board_file.specs.HookText.{set_member, TellsBytes, IsElementOf, AreElementsOf}
use Rattle.board_file.proofs.Tables.{elements_of-few}
use Rattle.board_file.proofs.HookRows.{read_all}

-- ---- a table

set_at : (o : Ordering) (k : String Global) (v : Value) (e : Entry) (es : List Entry) → members_view (insert_entry string_cmp es k v) ≡ set_member (members_view es) (string_bytes k) (view v)
    → members_view (match_ordering o ((k, v) ∷ e ∷ es) ((e.0, v) ∷ es) (e ∷ insert_entry string_cmp es k v))
    ≡ match_ordering o (member (string_bytes k) (view v) (member (string_bytes e.0) (view e.1) (members_view es))) (member (string_bytes e.0) (view v) (members_view es))
    (member (string_bytes e.0) (view e.1) (set_member (members_view es) (string_bytes k) (view v)))
set_at Less k v e es rest = refl
set_at Equal k v e es rest = refl
set_at Greater k v e es rest = ap (member (string_bytes e.0) (view e.1)) rest

pub set_entries : (k : String Global) (v : Value) (es : List Entry) → members_view (insert_entry string_cmp es k v) ≡ set_member (members_view es) (string_bytes k) (view v)
set_entries k v [] = refl
set_entries k v (e ∷ es) = set_at (string_cmp k e.0) k v e es (set_entries k v es)

-- ---- a row

pub tells_digits : (bytes : List ℕ) (value : Data) (digits : List ℕ) → IsBytes bytes → value ≡ string digits → digits ≡ encode_lower bytes → TellsBytes bytes value
tells_digits bytes value digits small is_string is = record {
  digits = digits;
  is_string = is_string;
  tells = ap decode_of is ∙ decode_of-encode_lower bytes small;
  count = ap length is ∙ length-encode_with lower_digits bytes;
}

bytes_told : (is_count : ℕ → Bool) (bytes : List ℕ) (value : Data) (t : TellsBytes bytes value) → is_count (2 * length bytes) ≡ true → bytes_of is_count t.digits ≡ Some bytes
unfolding bytes_of
bytes_told is_count bytes value t allowed = rw (t.tells, t.count, allowed) refl

-- the members as they are set one after another
abbrev four : Data → Data → Data → Data → Members
four a d k s = set_member (set_member (set_member (set_member no_members (codes "algorithm") a) (codes "digest") d) (codes "key") k) (codes "signature") s

element_read : (n : ℕ) (dk dd ds bk bd bs : List ℕ) → nat_le n 17 ≡ true → bytes_of is_short dk ≡ Some bk → bytes_of is_short_or_long dd ≡ Some bd → bytes_of is_short ds ≡ Some bs
    → row_of (table (four (integer (pos n)) (string dd) (string dk) (string ds))) ≡ Some (record { algorithm = n; key = bk; digest = bd; signature = bs })
unfolding row_of row_of_members integer_at string_at
element_read n dk dd ds bk bd bs small key digest signature = rw (small, key, digest, signature) refl

long_or_short : (n : ℕ) → IsTrue (is_digest_size n) → is_short_or_long (2 * n) ≡ true
long_or_short n h = grind (arith, nat_tests)

size_within : (n : ℕ) → IsTrue (is_digest_size n) → n ≤ 64
size_within n h = grind (arith, nat_tests)

pub row_members_are : (row : HookRow) (a d k s : Data) (ms : Members) → row.algorithm ≤ 17 → a ≡ integer (pos row.algorithm) → TellsBytes (take row.digest_len row.digest) d → TellsBytes row.key k → TellsBytes row.signature s
    → IsTrue (is_digest_size row.digest_len) → length row.digest ≡ 64 → length row.key ≡ 32 → length row.signature ≡ 32 → ms ≡ four a d k s → IsElementOf (told row) (table ms)
row_members_are row a d k s ms known is_a is_d is_k is_s size long_d long_k long_s is =
    let small : nat_le row.algorithm 17 ≡ true = grind (arith, nat_tests) in
    let cut : length (take row.digest_len row.digest) ≡ row.digest_len = length-take-le row.digest_len row.digest (omega (arith, size_within row.digest_len size)) in
    let key = bytes_told is_short row.key k is_k (rw long_k refl) in
    let digest = bytes_told is_short_or_long (take row.digest_len row.digest) d is_d (rw cut (long_or_short row.digest_len size)) in
    let signature = bytes_told is_short row.signature s is_s (rw long_s refl) in
    let same : ms ≡ four (integer (pos row.algorithm)) (string is_d.digits) (string is_k.digits) (string is_s.digits) = rw (← is_a, ← is_d.is_string, ← is_k.is_string, ← is_s.is_string) is in
    record {
      read = rw same (element_read row.algorithm is_k.digits is_d.digits is_s.digits row.key (take row.digest_len row.digest) row.signature small key digest signature);
      flat = rw same (omega arith);
    }

-- ---- the rows

items_depth-last : (ds : List Data) (d : Data) → items_depth (items_of ds) ≤ 1 → depth d ≤ 1 → items_depth (items_of (ds ++ d ∷ [])) ≤ 1
items_depth-last [] d flat last = omega arith
items_depth-last (e ∷ ds) d flat last = let rest = items_depth-last ds d (omega arith) last in omega arith

pub elements_none : AreElementsOf [] (map view [])
elements_none = record { read = refl; flat = omega arith }

pub elements_more : (rows : List HookRow) (row : HookRow) (es : List Value) (e : Value) → AreElementsOf rows (map view es) → IsElementOf (told row) (view e) → AreElementsOf (rows ++ row ∷ []) (map view (es ++ e ∷ []))
elements_more rows row es e before last = record {
  read = rw (map-append view es (e ∷ []), map-append row_of (map view es) (view e ∷ []), map-append told rows (row ∷ []), map-append {A = ToldRow} Some (map told rows) (told row ∷ []), before.read, last.read) refl;
  flat = rw (map-append view es (e ∷ [])) (items_depth-last (map view es) (view e) before.flat last.flat);
}

pub reads_back : (text : List ℕ) (ms : Members) (vs : List Value) (rows : List HookRow) → (members_depth ms ≤ 80 → parse_document text ≡ Some ms) → ms ≡ member (codes "row") (array (items_view vs)) no_members
    → AreElementsOf rows (map view vs) → length rows ≤ 4096 → hook_file text ≡ Ok (map told rows)
unfolding hook_file hook_of
reads_back text ms vs rows parsed is elements few =
    let shallow : members_depth ms ≤ 80 = rw is (omega (arith, elements.flat)) in
    let counted : length (map (λ (r : ToldRow). Some r) (map told rows)) ≡ length (map told rows) = length-map (map told rows) (λ (r : ToldRow). Some r) in
    let count : length vs ≤ 4096 = omega (arith, ap length elements.read, length-map (map view vs) row_of, length-map vs view, counted, length-map rows told) in
    let found : elements_of ms ≡ Some (map view vs) = rw is (elements_of-few (member (codes "row") (array (items_view vs)) no_members) (array (items_view vs)) vs refl refl refl count) in
    rw (parsed shallow, found) (read_all (map view vs) (map told rows) elements.read)

-- ---- a row that a file cannot hold

pub any_front : (P : HookRow → Type 0) (rows : List HookRow) (last row : HookRow) (k : ℕ) → k < length rows → row ≡ get_or rows k row → P row → Any P (rows ++ last ∷ [])
any_front P rows last row k below here holds =
    (k, row, omega (arith, length-append rows (last ∷ [])), get_or_append_left rows (last ∷ []) row k below ∙ sym here, holds)
