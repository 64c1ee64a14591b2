-- A table and an array of toml beside the data that they stand for.
use Rattle.std.proofs.Common.{◌≡◌, ℕ, ◌<◌, ◌≤◌, nat_le, true, false, codes, List, [], ◌∷◌, length, map, Some, None, refl, ap, arith}
use Rattle.std.specs.Prelude.{Ok}
use Rattle.std.proofs.lemmas.Bool.Decides.{nat_tests}
use Rattle.std.proofs.lemmas.List.{length-map}
use Rattle.toml.proofs.Views.{Entry}
use Rattle.toml.specs.Errors.{IsBlank}
use Rattle.toml.specs.Parse.{lines, parse_document}
use Rattle.toml.specs.Data.{no_members, Data, Members, as_array, get_member}
use Rattle.toml.specs.View.{view, items_view, members_view}
use Rattle.toml.specs.declared.value.Value.{Value}
use Rattle.board_file.specs.HookFile.{members_count, items_list, elements_of, rows_of, hook_of}

-- a table has as many members as its map has entries
pub members_count_view : (es : List Entry) → members_count (members_view es) ≡ length es
members_count_view [] = refl
members_count_view (e ∷ es) = omega (arith, members_count_view es)

-- an array's elements are those of its vector
items_list-view : (vs : List Value) → items_list (items_view vs) ≡ map view vs
items_list-view [] = refl
items_list-view (v ∷ vs) = ap (λ (rest : List Data). view v ∷ rest) (items_list-view vs)

-- the elements of the one member
pub elements_of-few : (ms : Members) (d : Data) (vs : List Value) → members_count ms ≡ 1 → get_member (codes "row") ms ≡ Some d → as_array d ≡ Some (items_view vs) → length vs ≤ 4096 → elements_of ms ≡ Some (map view vs)
unfolding elements_of
elements_of-few ms d vs count found seen few =
    let test : nat_le (length (map view vs)) 4096 ≡ true = grind (arith, nat_tests, length-map vs view) in
    rw (count, found, seen, items_list-view vs, test) refl

pub elements_of-many : (ms : Members) (d : Data) (vs : List Value) → members_count ms ≡ 1 → get_member (codes "row") ms ≡ Some d → as_array d ≡ Some (items_view vs) → 4096 < length vs → elements_of ms ≡ None
unfolding elements_of
elements_of-many ms d vs count found seen many =
    let test : nat_le (length (map view vs)) 4096 ≡ false = grind (arith, nat_tests, length-map vs view) in
    rw (count, found, seen, items_list-view vs, test) refl

-- a document with no member has no rows
pub hook_of-empty : (ms : Members) → members_count ms ≡ 0 → hook_of ms ≡ Ok []
unfolding hook_of elements_of rows_of
hook_of-empty ms count = rw count refl

-- a blank text is a document with no member
pub parse_document-blank : (text : List ℕ) → IsBlank text → parse_document text ≡ Some no_members
unfolding parse_document lines
parse_document-blank text blank = rw blank refl

pub no_members_blank : (text : List ℕ) (ms : Members) → IsBlank text → parse_document text ≡ Some ms → members_count ms ≡ 0
no_members_blank text ms blank read =
    let same : no_members ≡ ms = cc (parse_document-blank text blank) in
    rw (← same) refl
