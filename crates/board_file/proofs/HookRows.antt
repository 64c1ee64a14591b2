-- The rows of a list of elements.
use Rattle.std.proofs.Common.{◌≡◌, ℕ, ◌+◌, ◌<◌, nat_lt, true, List, [], ◌∷◌, ◌++◌, length, take, drop, get_or, map, Some, None, refl, sym, ◌∙◌, ap, arith, drop-cons, suc, false}
use Rattle.std.specs.Prelude.{Ok, Err}
use Rattle.std.specs.List.{position_or_len, filter_map}
use Rattle.std.proofs.lemmas.Bool.Decides.{nat_tests}
use Rattle.std.proofs.Math.Seq.{take-length}
use Rattle.std.proofs.lemmas.List.{take_more, take-append-drop, map-append, length-append, length-map, length-take-le}
use Rattle.board_core.specs.declared.hook_row.HookRow.{HookRow}
use Rattle.toml.specs.Data.{Data}
use Rattle.toml.specs.View.{view}
use Rattle.toml.specs.declared.value.Value.{Value}
use Rattle.board_file.specs.HookFile.{ToldRow, told, row_of, rows_of, is_refused}

-- where each element is a row, none is refused, and the rows are all of them
none_refused : (elements : List Data) (rows : List ToldRow) → map row_of elements ≡ map Some rows → position_or_len is_refused elements ≡ length elements
none_refused [] rows h = refl
none_refused (e ∷ elements) [] h = cc h
none_refused (e ∷ elements) (r ∷ rows) h =
    let here : row_of e ≡ Some r = cc in
    let rest : map row_of elements ≡ map Some rows = cc in
    rw here (omega (arith, none_refused elements rows rest))

all_rows : (elements : List Data) (rows : List ToldRow) → map row_of elements ≡ map Some rows → filter_map row_of elements ≡ rows
all_rows [] [] h = refl
all_rows [] (r ∷ rows) h = cc h
all_rows (e ∷ elements) [] h = cc h
all_rows (e ∷ elements) (r ∷ rows) h =
    let here : row_of e ≡ Some r = cc in
    let rest : map row_of elements ≡ map Some rows = cc in
    rw here (ap (λ (more : List ToldRow). r ∷ more) (all_rows elements rows rest))

-- the place of the first element that is no row
first_refused : (before : List Data) (e : Data) (after : List Data) (rows : List ToldRow) → map row_of before ≡ map Some rows → row_of e ≡ None → position_or_len is_refused (before ++ e ∷ after) ≡ length before
first_refused [] e after rows h none = rw none refl
first_refused (b ∷ before) e after [] h none = cc h
first_refused (b ∷ before) e after (r ∷ rows) h none =
    let here : row_of b ≡ Some r = cc in
    let rest : map row_of before ≡ map Some rows = cc in
    rw here (omega (arith, first_refused before e after rows rest none))

-- what a position below the length and one at the length mean
rows_of-at : (elements : List Data) (place : ℕ) → position_or_len is_refused elements ≡ place → place < length elements → rows_of elements ≡ Err (place + 1)
unfolding rows_of
rows_of-at elements place h below =
    let test : nat_lt place (length elements) ≡ true = grind (arith, nat_tests) in
    rw (h, test) refl

rows_of-end : (elements : List Data) (rows : List ToldRow) → position_or_len is_refused elements ≡ length elements → filter_map row_of elements ≡ rows → rows_of elements ≡ Ok rows
unfolding rows_of
rows_of-end elements rows h all =
    let test : nat_lt (length elements) (length elements) ≡ false = grind (arith, nat_tests) in
    rw (h, all, test) refl

-- The first elements of an array were read, and these are their rows.
pub record IsRead (elements : List Value) (count : ℕ) (rows : List HookRow) : Type 0 where
  pub read : map row_of (map view (take count elements)) ≡ map Some (map told rows)
  pub number : length rows ≡ count

-- one more was read
pub IsRead-more : (elements : List Value) (i : ℕ) (rows : List HookRow) (element : Value) (row : HookRow) → i < length elements → element ≡ get_or elements i element → IsRead elements i rows → row_of (view element) ≡ Some (told row) → IsRead elements (i + 1) (rows ++ row ∷ [])
IsRead-more elements i rows element row below here read h = record {
  read = rw (take_more elements i element below, ← here, map-append view, map-append row_of, map-append told, map-append {A = ToldRow} Some, read.read, h) refl;
  number = omega (arith, read.number, length-append rows (row ∷ []));
}

-- all were read
pub IsRead-all : (elements : List Value) (rows : List HookRow) → IsRead elements (length elements) rows → rows_of (map view elements) ≡ Ok (map told rows)
IsRead-all elements rows read =
    let same : map row_of (map view elements) ≡ map Some (map told rows) = rw take-length at read.read in
    rows_of-end (map view elements) (map told rows) (none_refused (map view elements) (map told rows) same) (all_rows (map view elements) (map told rows) same)

-- the next one is refused
pub IsRead-refused : (elements : List Value) (i : ℕ) (rows : List HookRow) (element : Value) → i < length elements → element ≡ get_or elements i element → IsRead elements i rows → row_of (view element) ≡ None → rows_of (map view elements) ≡ Err (i + 1)
IsRead-refused elements i rows element below here read none =
    let parts : elements ≡ take i elements ++ element ∷ drop (suc i) elements =
    sym (take-append-drop i elements) ∙ ap (λ (rest : List Value). take i elements ++ rest) (drop-cons elements i element below ∙ ap (λ (e : Value). e ∷ drop (suc i) elements) (sym here)) in
    let seen : map view elements ≡ map view (take i elements) ++ view element ∷ map view (drop (suc i) elements) =
    ap (map view) parts ∙ map-append view (take i elements) (element ∷ drop (suc i) elements) in
    let place = first_refused (map view (take i elements)) (view element) (map view (drop (suc i) elements)) (map told rows) read.read none in
    let counted : length (map view (take i elements)) ≡ i = length-map (take i elements) view ∙ length-take-le i elements (omega arith) in
    rows_of-at (map view elements) i (ap (position_or_len is_refused) seen ∙ place ∙ counted) (omega (arith, length-map elements view))

-- elements that tell rows are read as these
pub read_all : (elements : List Data) (rows : List ToldRow) → map row_of elements ≡ map Some rows → rows_of elements ≡ Ok rows
read_all elements rows same = rows_of-end elements rows (none_refused elements rows same) (all_rows elements rows same)
