-- A record that goes into the next cell of the current page.
use Rattle.std.proofs.Common.{◌≡◌, ◌⊎◌, ℕ, ◌+◌, ◌-◌, ◌*◌, ◌<◌, ◌≤◌, true, false, List, length, take, Option, Some, Result, Ok, Err, sym, ap, subst, ◌∙◌, arith, inl, inr}
use Rattle.std.specs.Prelude.{IsTrue, IfSome, is_some, unwrap_or, OnErr, is_err}
use Rattle.std.proofs.lemmas.Bool.{cases_lt, cond-true}
use Rattle.std.proofs.lemmas.List.{take_all}
use Rattle.record_core.specs.declared.nv.NvForm.{NvForm}
use Rattle.record_core.specs.declared.nv.NvForm.TheVariants.{V1, V2}
use Rattle.record_core.specs.Nv.{is_good_record, blank_record, form_of, record_size}
use Rattle.board_core.specs.Counters.{MadeChanges}
use Rattle.board_core.specs.declared.torn.Torn.{Torn}
use Rattle.board_core.specs.Torn.{added}
use Rattle.board_core.specs.Flash.{FlashMedium, FlashState, Programs, Programmed, LeftTorn, IsErased, range, spliced}
use Rattle.board_core.proofs.Stops.{rose_once}
use Rattle.nvstore_core.specs.declared.state.NvState.{NvState}
use Rattle.nvstore_core.specs.Pages.{cells_in, cell_place, cell_of, is_erased, head_in, page_head, form_by, generation_by, page_form, page_generation, page_record, next_cell, own_record, own_next, page_in, generation_in, current_in, record_in, page_state, IsStateOf, InRange, has_room, state_with_record, bytes_with_record, calls_to_save, page_to_write}
use Rattle.nvstore_core.specs.Saving.{SameBut, Saves}
use Rattle.nvstore_core.specs.Fair.{IsFairlyLeft, IsFairFlash, FailsToStore}
use Rattle.nvstore_core.proofs.Frames.{same_but_spliced, same_but_wider, range_before, range_behind, range-spliced_same}
use Rattle.nvstore_core.proofs.Records.{size_of_good, erased_is_no_record, behind_next, page_record-like, page_record-last, next_cell-last}
use Rattle.nvstore_core.proofs.Current.{state_page, record_current, state_current, current_stays, head_range, cell_inside, cell_in, page_stays}
use Rattle.nvstore_core.proofs.Fresh.{size_few, programmed_exact}
use Rattle.nvstore_core.proofs.Pieces.{left_frame, left_stands, piece_left}
use Rattle.nvstore_core.proofs.Answering.{on_ok_map, on_err_of, same_state, room_parts, erased_of_test}

-- ---- the places of cells

place_before : (form : NvForm) (start k cell : ℕ) → k < cell → (start + cell_place form k) + record_size form ≤ start + cell_place form cell
place_before V1 start k cell before = omega arith
place_before V2 start k cell before = omega arith

head_before : (form : NvForm) (start cell : ℕ) → start + 16 ≤ start + cell_place form cell
head_before V1 start cell = omega arith
head_before V2 start cell = omega arith

size_some : (form : NvForm) → 0 < record_size form
size_some V1 = omega arith
size_some V2 = omega arith

-- ---- the pages after the next cell changed

-- The next cell of the current page, which has this form, and the bytes before and after it changed.
record Cell (form : NvForm) (area page cell : ℕ) (old new : List ℕ) : Type 0 where
  within : page ≤ 1
  below : cell < cells_in form
  current : current_in area old ≡ Some page
  form_is : page_form (page_in area page old) ≡ form
  next : cell ≡ next_cell form (page_in area page old)
  same : SameBut (area + 4096 * page + cell_place form cell) (record_size form) old new

-- all bytes outside the page stay
page_alone : (form : NvForm) (area page cell : ℕ) (old new : List ℕ) → Cell form area page cell old new → SameBut (area + 4096 * page) 4096 old new
page_alone form area page cell old new c =
    let inside = cell_inside form cell c.below in
    same_but_wider (area + 4096 * page + cell_place form cell) (record_size form) (area + 4096 * page) 4096 old new (omega arith) (omega (arith, inside)) c.same

-- its head stays
head_stays : (form : NvForm) (area page cell : ℕ) (old new : List ℕ) → Cell form area page cell old new → page_head (page_in area page new) ≡ page_head (page_in area page old)
head_stays form area page cell old new c =
    ap head_in
    (head_range area page new
    ∙ range_before (area + 4096 * page + cell_place form cell) (record_size form) (area + 4096 * page) 16 old new (head_before form (area + 4096 * page) cell) c.same
    ∙ sym (head_range area page old))

form_stays : (form : NvForm) (area page cell : ℕ) (old new : List ℕ) → Cell form area page cell old new → page_form (page_in area page new) ≡ form
form_stays form area page cell old new c = ap form_by (head_stays form area page cell old new c) ∙ c.form_is

generation_stays : (form : NvForm) (area page cell : ℕ) (old new : List ℕ) → Cell form area page cell old new → generation_in area page new ≡ generation_in area page old
generation_stays form area page cell old new c = ap generation_by (head_stays form area page cell old new c)

-- the page stays current
still_current : (form : NvForm) (area page cell : ℕ) (old new : List ℕ) → Cell form area page cell old new → current_in area new ≡ Some page
still_current form area page cell old new c =
    let other : page_in area (1 - page) new ≡ page_in area (1 - page) old =
    page_stays area (1 - page) page old new (omega (arith, c.within)) (page_alone form area page cell old new c) in
    current_stays area page (1 - page) old new (omega (arith, c.within)) c.current (generation_stays form area page cell old new c) (inl (ap page_generation other))

-- and its record is that of its cells in this form
own_before : (form : NvForm) (area page cell : ℕ) (old new : List ℕ) → Cell form area page cell old new → record_in area old ≡ page_record form (page_in area page old)
own_before form area page cell old new c = record_current area page old c.within c.current ∙ ap (λ (f : NvForm). page_record f (page_in area page old)) c.form_is

own_after : (form : NvForm) (area page cell : ℕ) (old new : List ℕ) → Cell form area page cell old new → record_in area new ≡ page_record form (page_in area page new)
own_after form area page cell old new c =
    record_current area page new c.within (still_current form area page cell old new c)
    ∙ ap (λ (f : NvForm). page_record f (page_in area page new)) (form_stays form area page cell old new c)

-- all other cells of it stay
other_cell : (form : NvForm) (area page cell k : ℕ) (old new : List ℕ) → k < cells_in form → (k < cell) ⊎ (cell < k) → Cell form area page cell old new
    → cell_of form (page_in area page new) k ≡ cell_of form (page_in area page old) k
other_cell form area page cell k old new below (inl before) c =
    cell_in form area page new k below
    ∙ range_before (area + 4096 * page + cell_place form cell) (record_size form) (area + 4096 * page + cell_place form k) (record_size form) old new
    (place_before form (area + 4096 * page) k cell before) c.same
    ∙ sym (cell_in form area page old k below)
other_cell form area page cell k old new below (inr after) c =
    cell_in form area page new k below
    ∙ range_behind (area + 4096 * page + cell_place form cell) (record_size form) (area + 4096 * page + cell_place form k) (record_size form) old new
    (place_before form (area + 4096 * page) cell k after) c.same
    ∙ sym (cell_in form area page old k below)

-- the cell itself
here : (form : NvForm) (area page cell : ℕ) (old new : List ℕ) → Cell form area page cell old new
    → cell_of form (page_in area page new) cell ≡ range new (area + 4096 * page + cell_place form cell) (record_size form)
here form area page cell old new c = cell_in form area page new cell c.below

was_erased : (form : NvForm) (area page cell : ℕ) (old new : List ℕ) → Cell form area page cell old new
    → is_erased (range old (area + 4096 * page + cell_place form cell) (record_size form)) ≡ true
was_erased form area page cell old new c =
    ap is_erased (sym (cell_in form area page old cell c.below)) ∙ behind_next form (page_in area page old) cell cell c.next (omega arith) c.below

-- the record stays where the cell holds none
append_lost : (form : NvForm) (area page cell : ℕ) (old new : List ℕ) → Cell form area page cell old new
    → is_good_record (range new (area + 4096 * page + cell_place form cell) (record_size form)) ≡ false → record_in area new ≡ record_in area old
append_lost form area page cell old new c bad =
    let p = page_in area page old in
    let q = page_in area page new in
    let was_bad : is_good_record (cell_of form p cell) ≡ false =
    erased_is_no_record (cell_of form p cell) (behind_next form p cell cell c.next (omega arith) c.below) in
    let now_bad : is_good_record (cell_of form q cell) ≡ false = ap is_good_record (here form area page cell old new c) ∙ bad in
    own_after form area page cell old new c
    ∙ page_record-like form p q (λ k low.
    elim (cases_lt k cell) [
      | inl before ↦ inl (other_cell form area page cell k old new low (inl before) c)
      | inr from ↦ elim (cases_lt cell k) [
        | inl after ↦ inl (other_cell form area page cell k old new low (inr after) c)
        | inr upto ↦
            let one : cell ≡ k = omega arith in
            inr (subst (λ (j : ℕ). (is_good_record (cell_of form p j) ≡ false) × (is_good_record (cell_of form q j) ≡ false)) one (was_bad, now_bad))
      ]
    ])
    ∙ sym (own_before form area page cell old new c)

-- the record stands where the cell holds it
append_stands : (form : NvForm) (area page cell : ℕ) (r old new : List ℕ) → is_good_record r ≡ true → Cell form area page cell old new
    → range new (area + 4096 * page + cell_place form cell) (record_size form) ≡ r
    → (page_record form (page_in area page new) ≡ Some r) × (next_cell form (page_in area page new) ≡ cell + 1)
append_stands form area page cell r old new good c holds =
    let q = page_in area page new in
    let this : cell_of form q cell ≡ r = here form area page cell old new c ∙ holds in
    let behind = λ (k : ℕ) (after : cell < k) (low : k < cells_in form).
    ap is_erased (other_cell form area page cell k old new low (inr after) c) ∙ behind_next form (page_in area page old) cell k c.next (omega arith) low in
    (page_record-last form q r cell c.below good this behind, next_cell-last form q r cell c.below good this behind)

append_record : (form : NvForm) (area page cell : ℕ) (r old new : List ℕ) → is_good_record r ≡ true → Cell form area page cell old new
    → range new (area + 4096 * page + cell_place form cell) (record_size form) ≡ r → record_in area new ≡ Some r
append_record form area page cell r old new good c holds =
    own_after form area page cell old new c ∙ (append_stands form area page cell r old new good c holds).0

-- ---- the state

-- what the state tells of the current page
pub record CurrentPage (area page : ℕ) (was : NvState) (bytes : List ℕ) : Type 0 where
  pub current : current_in area bytes ≡ Some page
  pub form : was.form ≡ page_form (page_in area page bytes)
  pub next : was.next ≡ own_next (page_in area page bytes)
  pub generation : was.generation ≡ unwrap_or (generation_in area page bytes) 0

pub current_of_state : (area page : ℕ) (was : NvState) (bytes : List ℕ) → page ≤ 1 → was.page ≡ Some page → IsStateOf area bytes was → CurrentPage area page was bytes
unfolding page_state
current_of_state area page was bytes within counts is =
    let current : current_in area bytes ≡ Some page = sym (state_page area bytes) ∙ sym (ap (λ (s : NvState). s.page) is) ∙ counts in
    let same : was ≡ page_state page (page_in area page bytes) = is ∙ state_current area page bytes within current in
    record {
      current = current;
      form = ap (λ (s : NvState). s.form) same;
      next = ap (λ (s : NvState). s.next) same;
      generation = ap (λ (s : NvState). s.generation) same;
    }

-- the next cell of a state that has room for a record of this form
cell_of_state : (form : NvForm) (area page : ℕ) (was : NvState) (old new : List ℕ) → page ≤ 1 → was.form ≡ form → was.next < cells_in form → CurrentPage area page was old
    → SameBut (area + 4096 * page + cell_place form was.next) (record_size form) old new → Cell form area page was.next old new
cell_of_state form area page was old new within form_is below at same =
    let own : page_form (page_in area page old) ≡ form = sym at.form ∙ form_is in
    record {
      within = within;
      below = below;
      current = at.current;
      form_is = own;
      next = at.next ∙ ap (λ (f : NvForm). next_cell f (page_in area page old)) own;
      same = same;
    }

append_state : (area page : ℕ) (was : NvState) (r old new : List ℕ) → is_good_record r ≡ true → has_room was (form_of r) ≡ true → was.page ≡ Some page
    → was.form ≡ form_of r → CurrentPage area page was old → Cell (form_of r) area page was.next old new
    → range new (area + 4096 * page + cell_place (form_of r) was.next) (record_size (form_of r)) ≡ r → IsStateOf area new (state_with_record was r)
unfolding page_state state_with_record
append_state area page was r old new good room counts form_is at c holds =
    let form = form_of r in
    let q = page_in area page new in
    let own = form_stays form area page was.next old new c in
    let stands = append_stands form area page was.next r old new good c holds in
    let found : own_record q ≡ Some r = ap (λ (f : NvForm). page_record f q) own ∙ stands.0 in
    cond-true (has_room was form) _ _ room
    ∙ same_state _ (page_state page q) counts
    (form_is ∙ sym own)
    (at.generation ∙ ap (λ (g : Option ℕ). unwrap_or g 0) (sym (generation_stays form area page was.next old new c)))
    (sym (ap (λ (f : NvForm). next_cell f q) own ∙ stands.1))
    (ap (λ (o : Option (List ℕ)). unwrap_or o blank_record) (sym found))
    (ap is_some (sym found))
    ∙ sym (state_current area page new c.within (still_current form area page was.next old new c))

-- ---- the call

-- how a program changes the bytes
program_frame : {E : Type 0} (at : ℕ) (r : List ℕ) (old new : FlashState) (result : Result Unit E) → IsTrue old.medium.told → at ≤ length old.medium.bytes → Programs at r old new result
    → SameBut at (length r) old.medium.bytes new.medium.bytes
program_frame at r old new (Ok done) told inside call =
    let p = call.ok told in
    subst (λ (bytes : List ℕ). SameBut at (length r) old.medium.bytes bytes) (sym p.bytes) (same_but_spliced old.medium.bytes at p.left (length r) inside (omega (arith, p.fits)))
program_frame at r old new (Err e) told inside call = left_frame at r old.medium new.medium inside (call.err told)

-- what fairness says of the next cell
fair_cell : (form : NvForm) (area page cell : ℕ) (old new : List ℕ) (records : List Torn) → Cell form area page cell old new → IsFairFlash area old records
    → IsFairlyLeft old records (area + 4096 * page + cell_place form cell) (record_size form)
fair_cell form area page cell old new records c fair =
    let P = λ (f : NvForm). (k : ℕ) → k < cells_in f → IsFairlyLeft old records (area + 4096 * page + cell_place f k) (record_size f) in
    let Q = λ (p : Option ℕ). IfSome p (λ number. (k : ℕ) → k < cells_in (page_form (page_in area number old))
    → IsFairlyLeft old records (area + 4096 * number + cell_place (page_form (page_in area number old)) k) (record_size (page_form (page_in area number old)))) in
    let all : P (page_form (page_in area page old)) = subst Q c.current fair.cells in
    subst P c.form_is all cell c.below

append_fails : (form : NvForm) (area page cell : ℕ) (r : List ℕ) (old new : FlashMedium) → is_good_record r ≡ true → length r ≡ record_size form → area + 8192 ≤ length old.bytes
    → Cell form area page cell old.bytes new.bytes → LeftTorn (area + 4096 * page + cell_place form cell) r old new → IsFairFlash area old.bytes (added old.torn new.torn)
    → (record_in area new.bytes ≡ record_in area old.bytes) ⊎ (record_in area new.bytes ≡ Some r)
append_fails form area page cell r old new good size inside c left fair =
    let place = area + 4096 * page + cell_place form cell in
    let upto = cell_inside form cell c.below in
    let was_bad : is_good_record (range old.bytes place (record_size form)) ≡ false =
    erased_is_no_record (range old.bytes place (record_size form)) (was_erased form area page cell old.bytes new.bytes c) in
    elim (piece_left place (record_size form) r old new (size_some form) (omega (arith, size_few form)) (omega (arith, upto, size, c.within)) left
    (fair_cell form area page cell old.bytes new.bytes (added old.torn new.torn) c fair)) [
      | inl kept ↦ inl (append_lost form area page cell old.bytes new.bytes c (ap is_good_record kept ∙ was_bad))
      | inr more ↦ elim more [
        | inl meant ↦
            let whole : take (record_size form) r ≡ r = take_all (record_size form) r (omega (arith, size)) in
            inr (append_record form area page cell r old.bytes new.bytes good c (meant ∙ whole))
        | inr nothing ↦ inl (append_lost form area page cell old.bytes new.bytes c nothing.no_record)
      ]
    ]

append_failed : {E : Type 0} (form : NvForm) (area page cell : ℕ) (r : List ℕ) (old new : FlashState) (result : Result Unit E) → is_good_record r ≡ true → length r ≡ record_size form
    → (IsTrue old.medium.told → area + 8192 ≤ length old.medium.bytes) → page ≤ 1 → cell < cells_in form
    → (IsTrue old.medium.told → Cell form area page cell old.medium.bytes new.medium.bytes)
    → Programs (area + 4096 * page + cell_place form cell) r old new result → OnErr result (FailsToStore area r old.medium new.medium)
append_failed form area page cell r old new (Ok done) good size long within below c call = tt
append_failed form area page cell r old new (Err e) good size long within below c call = record {
  grown = λ told. (call.err told).kept;
  left = λ told.
      let upto = cell_inside form cell below in
      let enough = long told in
      left_stands (area + 4096 * page + cell_place form cell) r old.medium new.medium (omega (arith, upto, size, within, enough)) (call.err told);
  nv = λ told fair. append_fails form area page cell r old.medium new.medium good size (long told) (c told) (call.err told) fair;
}

-- A program of the next cell saves the record.
pub saves_by_program : {E : Type 0} (area at : ℕ) (was : NvState) (r : List ℕ) (old new : FlashState) (result : Result Unit E) → has_room was (form_of r) ≡ true → InRange was
    → is_good_record r ≡ true → at ≡ area + 4096 * unwrap_or was.page 0 + cell_place (form_of r) was.next
    → (IsTrue old.medium.told → IsStateOf area old.medium.bytes was) → (IsTrue old.medium.told → length old.medium.bytes ≡ old.medium.size)
    → area + 8192 ≤ old.medium.size → Programs at r old new result → Saves area was r old new result
unfolding bytes_with_record
saves_by_program area at was r old new result room ranges good is state sized inside call =
    let form = form_of r in
    let size = record_size form in
    let parts = room_parts was form room ranges in
    let page = parts.page in
    let counts : was.page ≡ Some page = parts.counts in
    let off = cell_place form was.next in
    let upto = cell_inside form was.next parts.below in
    let first : unwrap_or was.page 0 ≡ page = ap (λ (p : Option ℕ). unwrap_or p 0) counts in
    let place : at ≡ area + 4096 * page + off = is ∙ ap (λ (p : ℕ). area + 4096 * p + off) first in
    let in_form : area + 4096 * unwrap_or was.page 0 + cell_place form was.next ≡ area + 4096 * unwrap_or was.page 0 + cell_place was.form was.next =
    ap (λ (f : NvForm). area + 4096 * unwrap_or was.page 0 + cell_place f was.next) (sym parts.form_is) in
    let fits : length r ≡ size = size_of_good r good in
    let call' : Programs (area + 4096 * page + off) r old new result = subst (λ (k : ℕ). Programs k r old new result) place call in
    let long = λ (told : IsTrue old.medium.told). let whole = sized told in let enough : area + 8192 ≤ length old.medium.bytes = omega (arith, whole) in enough in
    let at_page = λ (told : IsTrue old.medium.told). current_of_state area page was old.medium.bytes parts.within counts (state told) in
    let same = λ (told : IsTrue old.medium.told).
    let enough = long told in
    subst (λ (n : ℕ). SameBut (area + 4096 * page + off) n old.medium.bytes new.medium.bytes) fits
    (program_frame (area + 4096 * page + off) r old new result told (omega (arith, upto, parts.within, enough)) call') in
    let cell = λ (told : IsTrue old.medium.told).
    cell_of_state form area page was old.medium.bytes new.medium.bytes parts.within parts.form_is parts.below (at_page told) (same told) in
    let erased = λ (told : IsTrue old.medium.told).
    subst (λ (n : ℕ). IsErased (range old.medium.bytes (area + 4096 * page + off) n)) (sym fits)
    (erased_of_test (range old.medium.bytes (area + 4096 * page + off) size) (was_erased form area page was.next old.medium.bytes new.medium.bytes (cell told))) in
    let written = λ (told : IsTrue old.medium.told) (p : Programmed (area + 4096 * page + off) r old.medium new.medium).
    programmed_exact (area + 4096 * page + off) r old.medium new.medium (erased told) p in
    let holds = λ (told : IsTrue old.medium.told) (p : Programmed (area + 4096 * page + off) r old.medium new.medium).
    let enough = long told in
    let put : range new.medium.bytes (area + 4096 * page + off) size ≡ r =
    ap (λ (b : List ℕ). range b (area + 4096 * page + off) size) (written told p)
    ∙ range-spliced_same old.medium.bytes (area + 4096 * page + off) r size (omega (arith, upto, parts.within, enough)) fits in
    put in
    let calls : 1 ≡ calls_to_save was r = sym (cond-true (has_room was form) 1 3 room) in
    record {
      counters = subst (λ (n : ℕ). MadeChanges old.counters new.counters n (is_err result)) calls call.counters.made;
      broke = on_err_of result (λ failed. rose_once _ _ (call.counters.broke failed));
      size = call.size;
      told = call.told;
      outside = λ told. same_but_wider (area + 4096 * page + off) size area 8192 old.medium.bytes new.medium.bytes (omega arith) (omega (arith, upto, parts.within)) (same told);
      page = λ told.
          let one : unwrap_or was.page 0 ≡ page_to_write was r = sym (cond-true (has_room was form) _ _ room) in
          subst (λ (p : ℕ). SameBut (area + 4096 * p) 4096 old.medium.bytes new.medium.bytes) (sym first ∙ one)
          (same_but_wider (area + 4096 * page + off) size (area + 4096 * page) 4096 old.medium.bytes new.medium.bytes (omega arith) (omega (arith, upto)) (same told));
      kept = λ told.
          subst (λ (f : NvForm). IfSome was.page (λ page. range new.medium.bytes (area + 4096 * page) (cell_place f was.next) ≡ range old.medium.bytes (area + 4096 * page) (cell_place f was.next))) (sym parts.form_is)
          (subst (λ (p : Option ℕ). IfSome p (λ page. range new.medium.bytes (area + 4096 * page) off ≡ range old.medium.bytes (area + 4096 * page) off)) (sym counts)
          (range_before (area + 4096 * page + off) size (area + 4096 * page) off old.medium.bytes new.medium.bytes (omega arith) (same told)));
      bytes = λ told. on_ok_map result (λ (p : Programmed (area + 4096 * page + off) r old.medium new.medium).
          written told p ∙ ap (λ (k : ℕ). spliced old.medium.bytes k r) (sym place ∙ is ∙ in_form) ∙ sym (cond-true (has_room was form) _ _ room)) (call'.ok told);
      torn = λ told. on_ok_map result (λ (p : Programmed (area + 4096 * page + off) r old.medium new.medium). p.torn) (call'.ok told);
      stored = λ told. on_ok_map result (λ (p : Programmed (area + 4096 * page + off) r old.medium new.medium).
          append_record form area page was.next r old.medium.bytes new.medium.bytes good (cell told) (holds told p)) (call'.ok told);
      state = λ told. on_ok_map result (λ (p : Programmed (area + 4096 * page + off) r old.medium new.medium).
          append_state area page was r old.medium.bytes new.medium.bytes good room counts parts.form_is (at_page told) (cell told) (holds told p)) (call'.ok told);
      failed = append_failed form area page was.next r old new result good fits long parts.within parts.below cell call';
    }
