-- A record that goes into a fresh page: the other one, or page 0 where no page counts.
use Rattle.std.proofs.Common.{◌≡◌, ◌⊎◌, ℕ, ◌+◌, ◌-◌, ◌*◌, ◌<◌, ◌≤◌, Bool, true, false, List, length, get_or, take, drop, Option, Some, None, Result, Ok, Err, refl, sym, ap, subst, ◌∙◌, arith, inl, inr}
use Rattle.std.specs.Prelude.{◌%◌, All, IsTrue, IfSome, is_some, unwrap_or, if◌then◌else◌, replicate, OnErr, is_err}
use Rattle.std.proofs.lemmas.Bool.{cases_lt, cond-false}
use Rattle.std.proofs.lemmas.List.{take_all, get_or-take, get_or-drop}
use Rattle.record_core.specs.declared.nv.NvForm.{NvForm}
use Rattle.record_core.specs.declared.nv.NvForm.TheVariants.{V1, V2}
use Rattle.record_core.specs.Nv.{is_good_record, blank_record, form_of, record_size}
use Rattle.board_core.specs.Counters.{MadeChanges}
use Rattle.board_core.specs.Torn.{Logs, Grown, added}
use Rattle.board_core.specs.Flash.{FlashMedium, FlashState, LeftTorn, range, spliced, erased_page}
use Rattle.board_core.proofs.TornRange.{length-erased_page}
use Rattle.board_core.proofs.Overlays.{length-spliced, spliced_after}
use Rattle.nvstore_core.specs.declared.page.PageHead.{PageHead}
use Rattle.nvstore_core.specs.declared.state.NvState.{NvState}
use Rattle.nvstore_core.specs.Pages.{head_of, head_in, cells_in, cell_place, cell_of, page_head, form_by, generation_by, page_generation, page_record, next_cell, own_record, own_next, page_in, generation_in, current_in, record_in, page_state, IsStateOf, InRange, has_room, other_page, next_generation, state_with_record, fresh_page, bytes_with_record, calls_to_save}
use Rattle.nvstore_core.specs.Saving.{SameBut, Saves}
use Rattle.nvstore_core.specs.Fair.{IsFairlyLeft, IsFairFlash, FailsToStore}
use Rattle.nvstore_core.specs.Steps.{headless_page, LeftAfter, LeavesPage, WritesPage}
use Rattle.nvstore_core.proofs.Frames.{same_but_spliced, same_but_wider, same_but_then, range_before, range_behind, range-spliced_same, range-spliced_front}
use Rattle.nvstore_core.proofs.Records.{size_of_good}
use Rattle.nvstore_core.proofs.Current.{state_page, record_current, record_none, state_current, current_counts, current_stays, current_next, none_stays, none_next, head_range, cell_in, page_stays}
use Rattle.nvstore_core.proofs.Fresh.{size_low, size_few, length-head_of, head_of_head, erased_end_is_no_head, erased_is_no_head, fresh_head, fresh_stands, headless_stands, front_of_headless, front_of_erased, length-headless, length-fresh}
use Rattle.nvstore_core.proofs.Pieces.{left_frame, left_stands, front_fair, piece_left}
use Rattle.nvstore_core.proofs.Answering.{on_ok_map, same_state}

-- ---- the pages after the other one changed

-- the place of the page that is written
abbrev place_of : ℕ → Option ℕ → ℕ
place_of area page = area + 4096 * other_page page

abbrev other_generation : ℕ → Option ℕ → List ℕ → Option ℕ
other_generation area page bytes = generation_in area (other_page page) bytes

pub other_small : (page : Option ℕ) → IfSome page (λ page. page ≤ 1) → other_page page ≤ 1
other_small None within = omega arith
other_small (Some page) within = omega arith

-- the record stays where the other page keeps its generation, or counts no more
lost_at : (area : ℕ) (page : Option ℕ) (old new : List ℕ) → IfSome page (λ page. page ≤ 1) → current_in area old ≡ page → SameBut (place_of area page) 4096 old new
    → (other_generation area page new ≡ other_generation area page old) ⊎ (other_generation area page new ≡ None) → record_in area new ≡ record_in area old
lost_at area None old new within is same lost =
    let stays : page_in area 1 new ≡ page_in area 1 old = page_stays area 1 0 old new (omega arith) same in
    record_none area new (none_stays area old new is (ap page_generation stays) lost) ∙ sym (record_none area old is)
lost_at area (Some page) old new within is same lost =
    let stays : page_in area page new ≡ page_in area page old = page_stays area page (1 - page) old new (omega arith) same in
    record_current area page new within (current_stays area page (1 - page) old new (omega arith) is (ap page_generation stays) lost)
    ∙ ap own_record stays
    ∙ sym (record_current area page old within is)

-- the other page is current with the next generation
next_at : (area : ℕ) (page : Option ℕ) (generation : ℕ) (old new : List ℕ) → IfSome page (λ page. page ≤ 1) → current_in area old ≡ page → generation ≤ 2
    → IfSome page (λ page. generation ≡ unwrap_or (generation_in area page old) 0) → SameBut (place_of area page) 4096 old new
    → other_generation area page new ≡ Some (if is_some page then (generation + 1) % 3 else 0) → current_in area new ≡ Some (other_page page)
next_at area None generation old new within is few of_page same next =
    let stays : page_in area 1 new ≡ page_in area 1 old = page_stays area 1 0 old new (omega arith) same in
    none_next area 0 old new is (ap page_generation stays) next
next_at area (Some page) generation old new within is few of_page same next =
    let stays : page_in area page new ≡ page_in area page old = page_stays area page (1 - page) old new (omega arith) same in
    current_next area page (1 - page) generation new (omega arith) few
    (ap page_generation stays ∙ current_counts area page old within is ∙ ap (λ (g : ℕ). Some g) (sym of_page))
    next

-- so many bytes of the current page stay
pub kept_at : (area size : ℕ) (page : Option ℕ) (old new : List ℕ) → IfSome page (λ page. page ≤ 1) → size ≤ 4096 → SameBut (place_of area page) 4096 old new
    → IfSome page (λ page. range new (area + 4096 * page) size ≡ range old (area + 4096 * page) size)
kept_at area size None old new within few same = tt
kept_at area size (Some page) old new within few same =
    elim (cases_lt page (1 - page)) [
      | inl lower ↦ range_before (area + 4096 * (1 - page)) 4096 (area + 4096 * page) size old new (omega arith) same
      | inr higher ↦ range_behind (area + 4096 * (1 - page)) 4096 (area + 4096 * page) size old new (omega arith) same
    ]

-- what was written ends within its page
pub written_inside : (form : NvForm) (next : ℕ) → next ≤ cells_in form → cell_place form next ≤ 4096
written_inside V1 next few = omega arith
written_inside V2 next few = omega arith

small_next : (counts : Bool) (generation : ℕ) → (if counts then (generation + 1) % 3 else 0) ≤ 2
small_next true generation = omega arith
small_next false generation = omega arith

-- ---- what the state tells

pub record Known (area : ℕ) (was : NvState) (bytes : List ℕ) : Type 0 where
  pub current : current_in area bytes ≡ was.page
  pub generation : IfSome was.page (λ page. was.generation ≡ unwrap_or (generation_in area page bytes) 0)

generation_at : (area : ℕ) (page : Option ℕ) (was : NvState) (bytes : List ℕ) → IfSome page (λ page. page ≤ 1) → current_in area bytes ≡ page → IsStateOf area bytes was
    → IfSome page (λ page. was.generation ≡ unwrap_or (generation_in area page bytes) 0)
unfolding page_state
generation_at area None was bytes within is state = tt
generation_at area (Some page) was bytes within is state = ap (λ (s : NvState). s.generation) (state ∙ state_current area page bytes within is)

known_of_state : (area : ℕ) (was : NvState) (bytes : List ℕ) → InRange was → IsStateOf area bytes was → Known area was bytes
known_of_state area was bytes ranges state =
    let current : current_in area bytes ≡ was.page = sym (state_page area bytes) ∙ sym (ap (λ (s : NvState). s.page) state) in
    record { current = current; generation = generation_at area was.page was bytes ranges.page current state }

-- ---- a page that was written whole

pub record IsWritten (area : ℕ) (was : NvState) (r new : List ℕ) : Type 0 where
  pub head : page_head (page_in area (other_page was.page) new) ≡ Some (record { form = form_of r; generation = next_generation was })
  pub record_there : page_record (form_of r) (page_in area (other_page was.page) new) ≡ Some r

own_written : (area : ℕ) (was : NvState) (r new : List ℕ) → IsWritten area was r new → own_record (page_in area (other_page was.page) new) ≡ Some r
own_written area was r new written =
    ap (λ (h : Option PageHead). page_record (form_by h) (page_in area (other_page was.page) new)) written.head ∙ written.record_there

written_current : (area : ℕ) (was : NvState) (r old new : List ℕ) → InRange was → Known area was old → SameBut (place_of area was.page) 4096 old new → IsWritten area was r new
    → current_in area new ≡ Some (other_page was.page)
written_current area was r old new ranges known same written =
    next_at area was.page was.generation old new ranges.page known.current ranges.generation known.generation same (ap generation_by written.head)

written_record : (area : ℕ) (was : NvState) (r old new : List ℕ) → InRange was → Known area was old → SameBut (place_of area was.page) 4096 old new → IsWritten area was r new → record_in area new ≡ Some r
written_record area was r old new ranges known same written =
    record_current area (other_page was.page) new (other_small was.page ranges.page) (written_current area was r old new ranges known same written)
    ∙ own_written area was r new written

-- the bytes of a fresh page
fresh_in : (area : ℕ) (was : NvState) (r old new : List ℕ) → length r ≡ record_size (form_of r) → place_of area was.page ≤ length old
    → new ≡ spliced old (place_of area was.page) (fresh_page (next_generation was) r) → page_in area (other_page was.page) new ≡ fresh_page (next_generation was) r
unfolding page_in
fresh_in area was r old new fits inside is =
    ap (λ (b : List ℕ). range b (place_of area was.page) 4096) is
    ∙ range-spliced_same old (place_of area was.page) (fresh_page (next_generation was) r) 4096 inside (length-fresh (next_generation was) r fits)

fresh_written : (area : ℕ) (was : NvState) (r new : List ℕ) → length r ≡ record_size (form_of r) → is_good_record r ≡ true → page_in area (other_page was.page) new ≡ fresh_page (next_generation was) r → IsWritten area was r new
fresh_written area was r new fits good is = record {
  head = ap page_head is ∙ fresh_head (next_generation was) r (small_next (is_some was.page) was.generation);
  record_there = ap (page_record (form_of r)) is ∙ (fresh_stands (next_generation was) r fits good).0;
}

fresh_state : (area : ℕ) (was : NvState) (r old new : List ℕ) → length r ≡ record_size (form_of r) → is_good_record r ≡ true → has_room was (form_of r) ≡ false → InRange was → Known area was old
    → SameBut (place_of area was.page) 4096 old new → page_in area (other_page was.page) new ≡ fresh_page (next_generation was) r → IsStateOf area new (state_with_record was r)
unfolding page_state state_with_record
fresh_state area was r old new fits good room ranges known same is =
    let q = page_in area (other_page was.page) new in
    let written = fresh_written area was r new fits good is in
    let found = own_written area was r new written in
    let next : own_next q ≡ 1 =
    ap (λ (h : Option PageHead). next_cell (form_by h) q) written.head ∙ ap (next_cell (form_of r)) is ∙ (fresh_stands (next_generation was) r fits good).1 in
    cond-false (has_room was (form_of r)) _ _ room
    ∙ same_state _ (page_state (other_page was.page) q) refl
    (ap form_by (sym written.head))
    (ap (λ (h : Option PageHead). unwrap_or (generation_by h) 0) (sym written.head))
    (sym next)
    (ap (λ (o : Option (List ℕ)). unwrap_or o blank_record) (sym found))
    (ap is_some (sym found))
    ∙ sym (state_current area (other_page was.page) new (other_small was.page ranges.page) (written_current area was r old new ranges known same written))

-- ---- a page that was written in part

-- how the bytes changed, whichever call failed
after_frame : (place at : ℕ) (page meant : List ℕ) (old new : FlashMedium) → place + 4096 ≤ length old.bytes → length page ≡ 4096 → place ≤ at → at + length meant ≤ place + 4096
    → LeftAfter place page at meant old new → SameBut place 4096 old.bytes new.bytes
after_frame place at page meant old new inside long from upto left =
    let size : length left.mid.bytes ≡ length old.bytes = ap length left.bytes ∙ length-spliced old.bytes place page (omega arith) in
    let first : SameBut place 4096 old.bytes left.mid.bytes =
    subst (λ (b : List ℕ). SameBut place 4096 old.bytes b) (sym left.bytes) (same_but_spliced old.bytes place page 4096 (omega arith) (omega arith)) in
    let second : SameBut at (length meant) left.mid.bytes new.bytes = left_frame at meant left.mid new (omega arith) left.left in
    same_but_then place 4096 old.bytes left.mid.bytes new.bytes first (same_but_wider at (length meant) place 4096 left.mid.bytes new.bytes from (omega arith) second)

-- the changed ranges lie in the page
record_inside : (r : List ℕ) (place : ℕ) → length r ≡ record_size (form_of r) → (place + record_size (form_of r)) + length r ≤ place + 4096
record_inside r place fits = omega (arith, fits, size_few (form_of r))

head_inside : (r : List ℕ) (place generation : ℕ) → place + length (head_of (form_of r) generation) ≤ place + 4096
head_inside r place generation = omega (arith, length-head_of (form_of r) generation)

leaves_frame : (place generation : ℕ) (r : List ℕ) (old new : FlashMedium) → place + 4096 ≤ length old.bytes → length r ≡ record_size (form_of r) → LeavesPage place generation r old new
    → SameBut place 4096 old.bytes new.bytes
leaves_frame place generation r old new inside fits (inl erase) =
    subst (λ (n : ℕ). SameBut place n old.bytes new.bytes) length-erased_page (left_frame place erased_page old new (omega arith) erase)
leaves_frame place generation r old new inside fits (inr (inl cell)) =
    after_frame place (place + record_size (form_of r)) erased_page r old new inside length-erased_page (omega arith) (record_inside r place fits) cell
leaves_frame place generation r old new inside fits (inr (inr head)) =
    after_frame place place (headless_page r) (head_of (form_of r) generation) old new inside (length-headless r fits) (omega arith) (head_inside r place generation) head

-- what the records of the failed call left stands
after_stands : (place at : ℕ) (page meant : List ℕ) (old new : FlashMedium) → place + 4096 ≤ length old.bytes → length page ≡ 4096 → at + length meant ≤ place + 4096
    → LeftAfter place page at meant old new → All (λ torn. range new.bytes torn.at torn.len ≡ take torn.len torn.left) (added old.torn new.torn)
after_stands place at page meant old new inside long upto left =
    let size : length left.mid.bytes ≡ length old.bytes = ap length left.bytes ∙ length-spliced old.bytes place page (omega arith) in
    subst (λ (logs : Logs). All (λ torn. range new.bytes torn.at torn.len ≡ take torn.len torn.left) (added logs new.torn)) left.torn
    (left_stands at meant left.mid new (omega (arith, size)) left.left)

leaves_stands : (place generation : ℕ) (r : List ℕ) (old new : FlashMedium) → place + 4096 ≤ length old.bytes → length r ≡ record_size (form_of r) → LeavesPage place generation r old new
    → All (λ torn. range new.bytes torn.at torn.len ≡ take torn.len torn.left) (added old.torn new.torn)
leaves_stands place generation r old new inside fits (inl erase) = left_stands place erased_page old new (omega (arith, length-erased_page)) erase
leaves_stands place generation r old new inside fits (inr (inl cell)) =
    after_stands place (place + record_size (form_of r)) erased_page r old new inside length-erased_page (record_inside r place fits) cell
leaves_stands place generation r old new inside fits (inr (inr head)) =
    after_stands place place (headless_page r) (head_of (form_of r) generation) old new inside (length-headless r fits) (head_inside r place generation) head

-- the generation, from the head
generation_from : (area number : ℕ) (bytes head : List ℕ) → range bytes (area + 4096 * number) 16 ≡ head → generation_in area number bytes ≡ generation_by (head_in head)
generation_from area number bytes head is = ap (λ (h : List ℕ). generation_by (head_in h)) (head_range area number bytes ∙ is)

-- none, where the head does not count
lost_from : (area number : ℕ) (bytes : List ℕ) → head_in (range bytes (area + 4096 * number) 16) ≡ None → generation_in area number bytes ≡ None
lost_from area number bytes none = generation_from area number bytes _ refl ∙ ap generation_by none

-- the head before a change that failed, in a page that was put whole
head_before : (place : ℕ) (page bytes old : List ℕ) → place ≤ length old → length page ≡ 4096 → bytes ≡ spliced old place page → range bytes place 16 ≡ take 16 page
head_before place page bytes old inside long is = ap (λ (b : List ℕ). range b place 16) is ∙ range-spliced_front old place page 16 inside (omega arith)

-- the erase failed
erase_fails : (area : ℕ) (was : NvState) (old new : FlashMedium) → InRange was → Known area was old.bytes → area + 8192 ≤ length old.bytes
    → LeftTorn (place_of area was.page) erased_page old new → IsFairFlash area old.bytes (added old.torn new.torn) → record_in area new.bytes ≡ record_in area old.bytes
erase_fails area was old new ranges known inside left fair =
    let number = other_page was.page in
    let place = place_of area was.page in
    let small : number ≤ 1 = other_small was.page ranges.page in
    let long : length erased_page ≡ 4096 = length-erased_page in
    let same : SameBut place 4096 old.bytes new.bytes = subst (λ (n : ℕ). SameBut place n old.bytes new.bytes) long (left_frame place erased_page old new (omega arith) left) in
    lost_at area was.page old.bytes new.bytes ranges.page known.current same
    (elim (piece_left place 16 erased_page old new (omega arith) (omega arith) (omega (arith, long)) left (fair.heads number small)) [
      | inl kept ↦ inl (generation_from area number new.bytes _ kept ∙ sym (generation_from area number old.bytes _ refl))
      | inr more ↦ elim more [
        | inl meant ↦ inr (lost_from area number new.bytes (ap head_in (meant ∙ front_of_erased) ∙ erased_is_no_head))
        | inr nothing ↦ inr (lost_from area number new.bytes nothing.no_head)
      ]
    ])

-- the program of cell 0 failed
cell_fails : (area : ℕ) (was : NvState) (r : List ℕ) (old new : FlashMedium) → length r ≡ record_size (form_of r) → InRange was → Known area was old.bytes → area + 8192 ≤ length old.bytes
    → LeftAfter (place_of area was.page) erased_page (place_of area was.page + record_size (form_of r)) r old new → record_in area new.bytes ≡ record_in area old.bytes
cell_fails area was r old new fits ranges known inside left =
    let number = other_page was.page in
    let place = place_of area was.page in
    let at = place + record_size (form_of r) in
    let small : number ≤ 1 = other_small was.page ranges.page in
    let long : length erased_page ≡ 4096 = length-erased_page in
    let low = size_low (form_of r) in
    let few = size_few (form_of r) in
    let size : length left.mid.bytes ≡ length old.bytes = ap length left.bytes ∙ length-spliced old.bytes place erased_page (omega arith) in
    let same : SameBut place 4096 old.bytes new.bytes = after_frame place at erased_page r old new (omega arith) long (omega arith) (record_inside r place fits) left in
    let head : range new.bytes place 16 ≡ replicate 16 255 =
    range_before at (length r) place 16 left.mid.bytes new.bytes (omega (arith, low)) (left_frame at r left.mid new (omega (arith, few, size)) left.left)
    ∙ head_before place erased_page left.mid.bytes old.bytes (omega arith) long left.bytes ∙ front_of_erased in
    lost_at area was.page old.bytes new.bytes ranges.page known.current same (inr (lost_from area number new.bytes (ap head_in head ∙ erased_is_no_head)))

-- a head that was programmed in part ends in an erased byte
part_of_head : (place : ℕ) (meant : List ℕ) (mid new : FlashMedium) (left : LeftTorn place meant mid new) → place + 16 ≤ length mid.bytes → left.count < 16
    → range mid.bytes place 16 ≡ replicate 16 255 → head_in (range new.bytes place 16) ≡ None
part_of_head place meant mid new left inside part before =
    let last = place + 15 in
    let old_end : get_or mid.bytes last 0 ≡ 255 =
    sym (get_or-take 16 (drop place mid.bytes) 15 0 (omega arith) ∙ get_or-drop place mid.bytes 15 0) ∙ ap (λ (h : List ℕ). get_or h 15 0) before in
    let new_end : get_or (range new.bytes place 16) 15 0 ≡ 255 =
    get_or-take 16 (drop place new.bytes) 15 0 (omega arith) ∙ get_or-drop place new.bytes 15 0
    ∙ ap (λ (b : List ℕ). get_or b last 0) left.bytes
    ∙ spliced_after mid.bytes place left.left last (omega (arith, left.fits)) (omega (arith, left.fits))
    ∙ old_end in
    erased_end_is_no_head (range new.bytes place 16) new_end

-- the program of the head failed
head_fails : (area : ℕ) (was : NvState) (r : List ℕ) (old new : FlashMedium) → length r ≡ record_size (form_of r) → is_good_record r ≡ true → InRange was → Known area was old.bytes
    → area + 8192 ≤ length old.bytes → LeftAfter (place_of area was.page) (headless_page r) (place_of area was.page) (head_of (form_of r) (next_generation was)) old new
    → IsFairFlash area old.bytes (added old.torn new.torn) → (record_in area new.bytes ≡ record_in area old.bytes) ⊎ (record_in area new.bytes ≡ Some r)
unfolding page_in
head_fails area was r old new fits good ranges known inside left fair =
    let form = form_of r in
    let number = other_page was.page in
    let place = place_of area was.page in
    let head = head_of form (next_generation was) in
    let torn = left.left in
    let small : number ≤ 1 = other_small was.page ranges.page in
    let long : length (headless_page r) ≡ 4096 = length-headless r fits in
    let head_size : length head ≡ 16 = length-head_of form (next_generation was) in
    let size : length left.mid.bytes ≡ length old.bytes = ap length left.bytes ∙ length-spliced old.bytes place (headless_page r) (omega arith) in
    let same : SameBut place 4096 old.bytes new.bytes = after_frame place place (headless_page r) head old new (omega arith) long (omega arith) (head_inside r place (next_generation was)) left in
    let before : range left.mid.bytes place 16 ≡ replicate 16 255 = head_before place (headless_page r) left.mid.bytes old.bytes (omega arith) long left.bytes ∙ front_of_headless r in
    let lost = λ (gone : head_in (range new.bytes place 16) ≡ None).
    lost_at area was.page old.bytes new.bytes ranges.page known.current same (inr (lost_from area number new.bytes gone)) in
    let page : page_in area number left.mid.bytes ≡ headless_page r =
    ap (λ (b : List ℕ). range b place 4096) left.bytes ∙ range-spliced_same old.bytes place (headless_page r) 4096 (omega arith) long in
    let cells = λ (k : ℕ) (below : k < cells_in form).
    let cell : cell_of form (page_in area number new.bytes) k ≡ cell_of form (headless_page r) k =
    cell_in form area number new.bytes k below
    ∙ range_behind place (length head) (place + cell_place form k) (record_size form) left.mid.bytes new.bytes (omega (arith, head_size, size_low form)) (left_frame place head left.mid new (omega arith) torn)
    ∙ sym (cell_in form area number left.mid.bytes k below) ∙ ap (λ (p : List ℕ). cell_of form p k) page in cell in
    elim (cases_lt torn.count 16) [
      | inl part ↦ inl (lost (part_of_head place head left.mid new torn (omega arith) part before))
      | inr whole ↦
          let fair' = subst (λ (logs : Logs). IsFairlyLeft old.bytes (added logs new.torn) place 16) (sym left.torn) (fair.heads number small) in
          let stands : range new.bytes place 16 ≡ range (spliced old.bytes place torn.left) place 16 =
          ap (λ (b : List ℕ). range b place 16) torn.bytes
          ∙ range-spliced_front left.mid.bytes place torn.left 16 (omega arith) (omega (arith, torn.fits))
          ∙ sym (range-spliced_front old.bytes place torn.left 16 (omega arith) (omega (arith, torn.fits))) in
          elim (front_fair place 16 head old.bytes left.mid new torn (omega arith) (omega arith) (omega arith) (omega (arith, head_size)) fair') [
            | inl kept ↦
                inl (lost_at area was.page old.bytes new.bytes ranges.page known.current same
                (inl (generation_from area number new.bytes _ (stands ∙ kept) ∙ sym (generation_from area number old.bytes _ refl))))
            | inr more ↦ elim more [
              | inl meant ↦
                  let all : take 16 head ≡ head = take_all 16 head (omega arith) in
                  inr (written_record area was r old.bytes new.bytes ranges known same (record {
                    head = ap head_in (head_range area number new.bytes ∙ stands ∙ meant.1 ∙ all) ∙ head_of_head form (next_generation was) (small_next (is_some was.page) was.generation);
                    record_there = headless_stands (page_in area number new.bytes) r fits good cells;
                  }))
              | inr nothing ↦ inl (lost (ap head_in stands ∙ nothing.no_head))
            ]
          ]
    ]

page_fails : (area : ℕ) (was : NvState) (r : List ℕ) (old new : FlashMedium) → length r ≡ record_size (form_of r) → is_good_record r ≡ true → InRange was → Known area was old.bytes
    → area + 8192 ≤ length old.bytes → LeavesPage (place_of area was.page) (next_generation was) r old new → IsFairFlash area old.bytes (added old.torn new.torn)
    → (record_in area new.bytes ≡ record_in area old.bytes) ⊎ (record_in area new.bytes ≡ Some r)
page_fails area was r old new fits good ranges known inside (inl erase) fair = inl (erase_fails area was old new ranges known inside erase fair)
page_fails area was r old new fits good ranges known inside (inr (inl cell)) fair = inl (cell_fails area was r old new fits ranges known inside cell)
page_fails area was r old new fits good ranges known inside (inr (inr head)) fair = head_fails area was r old new fits good ranges known inside head fair

-- no record is lost
leaves_grown : (place generation : ℕ) (r : List ℕ) (old new : FlashMedium) → LeavesPage place generation r old new → Grown old.torn new.torn
leaves_grown place generation r old new (inl erase) = erase.kept
leaves_grown place generation r old new (inr (inl cell)) = subst (λ (logs : Logs). Grown logs new.torn) cell.torn cell.left.kept
leaves_grown place generation r old new (inr (inr head)) = subst (λ (logs : Logs). Grown logs new.torn) head.torn head.left.kept

-- ---- the calls

page_frame : {E : Type 0} (place generation : ℕ) (r : List ℕ) (old new : FlashState) (result : Result Unit E) → IsTrue old.medium.told → place + 4096 ≤ length old.medium.bytes
    → length r ≡ record_size (form_of r) → WritesPage place generation r old new result → SameBut place 4096 old.medium.bytes new.medium.bytes
page_frame place generation r old new (Ok done) told inside fits call =
    subst (λ (b : List ℕ). SameBut place 4096 old.medium.bytes b) (sym (call.bytes told))
    (same_but_spliced old.medium.bytes place (fresh_page generation r) 4096 (omega arith) (omega (arith, length-fresh generation r fits)))
page_frame place generation r old new (Err e) told inside fits call = leaves_frame place generation r old.medium new.medium inside fits (call.left told)

page_failed : {E : Type 0} (area : ℕ) (was : NvState) (r : List ℕ) (old new : FlashState) (result : Result Unit E) → length r ≡ record_size (form_of r) → is_good_record r ≡ true → InRange was
    → (IsTrue old.medium.told → Known area was old.medium.bytes) → (IsTrue old.medium.told → area + 8192 ≤ length old.medium.bytes)
    → WritesPage (place_of area was.page) (next_generation was) r old new result → OnErr result (FailsToStore area r old.medium new.medium)
page_failed area was r old new (Ok done) fits good ranges known inside call = tt
page_failed area was r old new (Err e) fits good ranges known inside call = record {
  grown = λ told. leaves_grown (place_of area was.page) (next_generation was) r old.medium new.medium (call.left told);
  left = λ told.
      let enough = inside told in
      let small = other_small was.page ranges.page in
      leaves_stands (place_of area was.page) (next_generation was) r old.medium new.medium (omega (arith, enough, small)) fits (call.left told);
  nv = λ told fair. page_fails area was r old.medium new.medium fits good ranges (known told) (inside told) (call.left told) fair;
}

-- The three calls of a fresh page save the record.
pub saves_by_page : {E : Type 0} (area : ℕ) (was : NvState) (r : List ℕ) (old new : FlashState) (result : Result Unit E) → has_room was (form_of r) ≡ false → InRange was → is_good_record r ≡ true
    → (IsTrue old.medium.told → IsStateOf area old.medium.bytes was) → (IsTrue old.medium.told → length old.medium.bytes ≡ old.medium.size) → area + 8192 ≤ old.medium.size
    → WritesPage (area + 4096 * other_page was.page) (next_generation was) r old new result → Saves area was r old new result
unfolding bytes_with_record
saves_by_page area was r old new result room ranges good state sized inside call =
    let form = form_of r in
    let number = other_page was.page in
    let place = place_of area was.page in
    let small : number ≤ 1 = other_small was.page ranges.page in
    let fits : length r ≡ record_size form = size_of_good r good in
    let known = λ (told : IsTrue old.medium.told). known_of_state area was old.medium.bytes ranges (state told) in
    let long = λ (told : IsTrue old.medium.told). let size = sized told in let enough : area + 8192 ≤ length old.medium.bytes = omega arith in enough in
    let same = λ (told : IsTrue old.medium.told).
    let enough : area + 8192 ≤ length old.medium.bytes = long told in
    page_frame place (next_generation was) r old new result told (omega arith) fits call in
    let fresh = λ (told : IsTrue old.medium.told) (bytes : new.medium.bytes ≡ spliced old.medium.bytes place (fresh_page (next_generation was) r)).
    let enough : area + 8192 ≤ length old.medium.bytes = long told in
    fresh_in area was r old.medium.bytes new.medium.bytes fits (omega arith) bytes in
    let calls : 3 ≡ calls_to_save was r = sym (cond-false (has_room was form) 1 3 room) in
    record {
      counters = subst (λ (n : ℕ). MadeChanges old.counters new.counters n (is_err result)) calls call.counters;
      broke = call.broke;
      size = call.size;
      told = call.told;
      outside = λ told. same_but_wider place 4096 area 8192 old.medium.bytes new.medium.bytes (omega arith) (omega arith) (same told);
      page = λ told. subst (λ (p : ℕ). SameBut (area + 4096 * p) 4096 old.medium.bytes new.medium.bytes) (sym (cond-false (has_room was form) _ _ room)) (same told);
      kept = λ told. kept_at area (cell_place was.form was.next) was.page old.medium.bytes new.medium.bytes ranges.page (written_inside was.form was.next ranges.next) (same told);
      bytes = λ told. on_ok_map result (λ (bytes : new.medium.bytes ≡ spliced old.medium.bytes place (fresh_page (next_generation was) r)).
          bytes ∙ sym (cond-false (has_room was form) _ _ room)) (call.bytes told);
      torn = call.torn;
      stored = λ told. on_ok_map result (λ (bytes : new.medium.bytes ≡ spliced old.medium.bytes place (fresh_page (next_generation was) r)).
          written_record area was r old.medium.bytes new.medium.bytes ranges (known told) (same told) (fresh_written area was r new.medium.bytes fits good (fresh told bytes))) (call.bytes told);
      state = λ told. on_ok_map result (λ (bytes : new.medium.bytes ≡ spliced old.medium.bytes place (fresh_page (next_generation was) r)).
          fresh_state area was r old.medium.bytes new.medium.bytes fits good room ranges (known told) (same told) (fresh told bytes)) (call.bytes told);
      failed = page_failed area was r old new result fits good ranges known long call;
    }
