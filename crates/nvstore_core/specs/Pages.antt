-- nvdata in two pages of 4,096 bytes: a head, and cells of the form that the head tells. Each cell takes one record. A page counts
-- where its head is whole, one page that counts is current, and the good cell of highest index in it is the record that stands.
-- Source: this store is this project's own; the record in a cell of form V1 is vboot's.
use Rattle.std.specs.Prelude.{◌≡◌, ℕ, zero, suc, ◌+◌, ◌-◌, ◌*◌, ◌%◌, ◌≤◌, nat_lt, Bool, true, false, List, [], ◌∷◌, ◌++◌, take, replicate, reverse, codes, ◌==◌, ◌&&◌, if◌then◌else◌, Option, Some, None, is_some, IsSome, IfSome, unwrap_or}
use Rattle.std.specs.List.{find, list_all, suffix_len}
use Rattle.std.specs.Str.{bytes_eq}
use Rattle.byteorder.specs.Endian.{little_bytes}
use Rattle.wire_core.specs.Crc8.{crc8_of}
use Rattle.record_core.specs.declared.nv.NvForm.{NvForm}
use Rattle.record_core.specs.declared.nv.NvForm.TheVariants.{V1, V2}
use Rattle.record_core.specs.Nv.{is_good_record, blank_record, form_of, record_size}
use Rattle.board_core.specs.Flash.{range, spliced}
use Rattle.nvstore_core.specs.declared.page.PageHead.{PageHead}
use Rattle.nvstore_core.specs.declared.state.NvState.{NvState}

-- ---- the forms of a page

-- a cell takes a record, and cell 0 stands behind so many bytes as a cell has
abbrev pub cells_in : NvForm → ℕ
cells_in V1 = 255
cells_in V2 = 63

abbrev pub form_byte : NvForm → ℕ
form_byte V1 = 0
form_byte V2 = 2

abbrev pub same_form : NvForm → NvForm → Bool
same_form V1 V1 = true
same_form V2 V2 = true
same_form a b = false

-- ---- the head of a page

-- the magic, the generation as a little-endian u32, the form, and zeros
abbrev pub head_front : NvForm → ℕ → List ℕ
head_front form generation = codes "NVPG" ++ little_bytes 4 generation ++ form_byte form ∷ replicate 6 0

-- and the checksum of these
unfoldable pub head_of : NvForm → ℕ → List ℕ
head_of form generation = head_front form generation ++ crc8_of (head_front form generation) ∷ []

abbrev pub is_head : List ℕ → NvForm → ℕ → Bool
is_head head form generation = bytes_eq head (head_of form generation)

abbrev pub head_in_form : List ℕ → NvForm → Option PageHead
head_in_form head form =
    if is_head head form 0 then Some (record { form = form; generation = 0 })
    else if is_head head form 1 then Some (record { form = form; generation = 1 })
    else if is_head head form 2 then Some (record { form = form; generation = 2 })
    else None

abbrev pub first_head : Option PageHead → Option PageHead → Option PageHead
first_head (Some head) other = Some head
first_head None other = other

unfoldable pub head_in : List ℕ → Option PageHead
head_in head = first_head (head_in_form head V1) (head_in_form head V2)

-- the head of a page, where it is whole: then the page counts
abbrev pub page_head : List ℕ → Option PageHead
page_head page = head_in (take 16 page)

-- ---- the cells of a page

abbrev pub cell_place : NvForm → ℕ → ℕ
cell_place form index = record_size form + record_size form * index

abbrev pub cell_of : NvForm → List ℕ → ℕ → List ℕ
cell_of form page index = range page (cell_place form index) (record_size form)

-- the first so many cells
unfoldable pub cells_below : NvForm → List ℕ → ℕ → List (List ℕ)
cells_below form page zero = []
cells_below form page (suc count) = cells_below form page count ++ cell_of form page count ∷ []

abbrev pub is_erased : List ℕ → Bool
is_erased cell = list_all (λ byte. byte == 255) cell

-- the good record of highest index among the first so many cells
abbrev pub last_good : NvForm → List ℕ → ℕ → Option (List ℕ)
last_good form page count = find is_good_record (reverse (cells_below form page count))

-- where the erased cells at the end of the first so many begin
abbrev pub tail_start : NvForm → List ℕ → ℕ → ℕ
tail_start form page count = count - suffix_len is_erased (cells_below form page count)

-- the good record of highest index
unfoldable pub page_record : NvForm → List ℕ → Option (List ℕ)
page_record form page = last_good form page (cells_in form)

-- the first cell of the erased tail, the number of cells where none is erased
unfoldable pub next_cell : NvForm → List ℕ → ℕ
next_cell form page = tail_start form page (cells_in form)

-- ---- the two pages

abbrev pub generation_by : Option PageHead → Option ℕ
generation_by None = None
generation_by (Some head) = Some head.generation

-- form V1 where no head is whole: then nothing of the page is looked at
abbrev pub form_by : Option PageHead → NvForm
form_by None = V1
form_by (Some head) = head.form

abbrev pub page_generation : List ℕ → Option ℕ
page_generation page = generation_by (page_head page)

abbrev pub page_form : List ℕ → NvForm
page_form page = form_by (page_head page)

-- The number of the current page, from the generations of page 0 and page 1, whatever their forms: where both count, the one whose
-- generation is the other's plus 1 modulo 3, and page 0 where both generations are equal.
abbrev pub current_page : Option ℕ → Option ℕ → Option ℕ
current_page None None = None
current_page (Some first) None = Some 0
current_page None (Some second) = Some 1
current_page (Some first) (Some second) = if second == (first + 1) % 3 then Some 1 else Some 0

-- what is so of the current page, of what is so of page 0 and of page 1
abbrev pub of_current : {A : Type 0} → Option ℕ → A → A → A → A
of_current None none first second = none
of_current (Some zero) none first second = first
of_current (Some (suc number)) none first second = second

-- a page of the area that begins at a place of the flash
unfoldable pub page_in : ℕ → ℕ → List ℕ → List ℕ
page_in area number bytes = range bytes (area + 4096 * number) 4096

abbrev pub generation_in : ℕ → ℕ → List ℕ → Option ℕ
generation_in area number bytes = page_generation (page_in area number bytes)

-- the number of the current page of an area
abbrev pub current_in : ℕ → List ℕ → Option ℕ
current_in area bytes = current_page (generation_in area 0 bytes) (generation_in area 1 bytes)

-- the record of a page in its own form
abbrev pub own_record : List ℕ → Option (List ℕ)
own_record page = page_record (page_form page) page

abbrev pub own_next : List ℕ → ℕ
own_next page = next_cell (page_form page) page

-- the record that stands: the good cell of highest index in the current page
unfoldable pub record_in : ℕ → List ℕ → Option (List ℕ)
record_in area bytes = of_current (current_in area bytes) None (own_record (page_in area 0 bytes)) (own_record (page_in area 1 bytes))

abbrev pub HasStoredRecord : ℕ → List ℕ → Type 0
HasStoredRecord area bytes = IsSome (record_in area bytes)

-- the record that the pages stand for: the blank one where none stands
abbrev pub stored_record : ℕ → List ℕ → List ℕ
stored_record area bytes = unwrap_or (record_in area bytes) blank_record

-- ---- what the store knows of its pages

-- no page counts
abbrev pub empty_state : NvState
empty_state = record { page = None; form = V1; generation = 0; next = 255; nv = blank_record; stands = false }

-- the page of this number is current
unfoldable pub page_state : ℕ → List ℕ → NvState
page_state number page = record {
  page = Some number;
  form = page_form page;
  generation = unwrap_or (page_generation page) 0;
  next = own_next page;
  nv = unwrap_or (own_record page) blank_record;
  stands = is_some (own_record page);
}

-- the state of two pages, one of which is current
abbrev pub state_of_pages : List ℕ → List ℕ → NvState
state_of_pages first second =
    of_current (current_page (page_generation first) (page_generation second)) empty_state (page_state 0 first) (page_state 1 second)

-- the state of the two pages of an area
unfoldable pub state_in : ℕ → List ℕ → NvState
state_in area bytes = record {
  page = current_in area bytes;
  form = of_current (current_in area bytes) V1 (page_form (page_in area 0 bytes)) (page_form (page_in area 1 bytes));
  generation = of_current (current_in area bytes) 0 (unwrap_or (generation_in area 0 bytes) 0) (unwrap_or (generation_in area 1 bytes) 0);
  next = of_current (current_in area bytes) 255 (own_next (page_in area 0 bytes)) (own_next (page_in area 1 bytes));
  nv = stored_record area bytes;
  stands = is_some (record_in area bytes);
}

abbrev pub IsStateOf : ℕ → List ℕ → NvState → Type 0
IsStateOf area bytes state = state ≡ state_in area bytes

-- the numbers of a state are in their ranges, as those of every state of two pages are
pub record InRange (state : NvState) : Type 0 where
  pub page : IfSome state.page (λ page. page ≤ 1)
  pub generation : state.generation ≤ 2
  pub next : state.next ≤ cells_in state.form

-- ---- whether a record is stored

-- a good record stands, and it is this one
abbrev pub is_standing : NvState → List ℕ → Bool
is_standing state r = state.stands && bytes_eq state.nv r

-- the record, unless it stands already
abbrev pub record_change : NvState → List ℕ → Option (List ℕ)
record_change state r = if is_standing state r then None else Some r

-- ---- how a record is stored

-- whether a record of this form goes into the current page: it counts, has the form, and has an erased cell
abbrev pub has_room : NvState → NvForm → Bool
has_room state form = is_some state.page && same_form state.form form && nat_lt state.next (cells_in form)

-- the page that is written where there is no room: the other one, or page 0 where no page counts
abbrev pub other_page : Option ℕ → ℕ
other_page None = 0
other_page (Some page) = 1 - page

-- and its generation
abbrev pub next_generation : NvState → ℕ
next_generation state = if is_some state.page then (state.generation + 1) % 3 else 0

-- the changing calls that a record takes: one in the current page, else an erase and two programs
abbrev pub calls_to_save : NvState → List ℕ → ℕ
calls_to_save state r = if has_room state (form_of r) then 1 else 3

-- the page in which a record is stored: the current one where it has room, and else the other one
abbrev pub page_to_write : NvState → List ℕ → ℕ
page_to_write state r = if has_room state (form_of r) then unwrap_or state.page 0 else other_page state.page

-- the state after a record was stored
unfoldable pub state_with_record : NvState → List ℕ → NvState
state_with_record state r =
    if has_room state (form_of r)
    then record state { next = state.next + 1; nv = r; stands = true }
    else record {
      page = Some (other_page state.page);
      form = form_of r;
      generation = next_generation state;
      next = 1;
      nv = r;
      stands = true;
    }

-- a page of this generation with one record, in the record's form: the bytes between head and cell 0 stay erased
unfoldable pub fresh_page : ℕ → List ℕ → List ℕ
fresh_page generation r =
    let size = record_size (form_of r) in
    head_of (form_of r) generation ++ replicate (size - 16) 255 ++ r ++ replicate (4096 - 2 * size) 255

-- The bytes of the flash after a record was stored: in the next cell of the current page, or else in a fresh page.
unfoldable pub bytes_with_record : ℕ → NvState → List ℕ → List ℕ → List ℕ
bytes_with_record area state r bytes =
    if has_room state (form_of r)
    then spliced bytes (area + 4096 * unwrap_or state.page 0 + cell_place state.form state.next) r
    else spliced bytes (area + 4096 * other_page state.page) (fresh_page (next_generation state) r)
