-- A fresh page: what an erase and two programs make of a page, and what stands in it.
use Rattle.std.proofs.Common.{◌≡◌, ℕ, zero, suc, ◌+◌, ◌-◌, ◌*◌, ◌<◌, ◌≤◌, true, false, List, ◌++◌, length, get_or, take, drop, Option, Some, None, refl, sym, ap, subst, ◌∙◌, arith, append_assoc, length-append}
use Rattle.std.specs.Prelude.{replicate}
use Rattle.std.proofs.lemmas.Bool.{cond-true, cond-false, false_from_ne_true}
use Rattle.std.proofs.lemmas.Slice.Eq.{bytes_eq-Decides}
use Rattle.std.proofs.lemmas.List.{length-replicate, take-replicate, drop-replicate, drop_at, take_at, drop-drop, take-append-le, drop-append-le}
use Rattle.std.proofs.lemmas.List.Elements.{All-replicate}
use Rattle.wire_core.specs.Crc8.{crc8_of, remainder}
use Rattle.board_core.specs.Flash.{FlashMedium, Programmed, range, spliced, IsErased, erased_page}
use Rattle.board_core.proofs.TornRange.{length-erased_page}
use Rattle.record_core.specs.declared.nv.NvForm.{NvForm}
use Rattle.record_core.specs.declared.nv.NvForm.TheVariants.{V1, V2}
use Rattle.record_core.specs.Nv.{is_good_record, form_of, record_size}
use Rattle.nvstore_core.specs.declared.page.PageHead.{PageHead}
use Rattle.nvstore_core.specs.Pages.{cells_in, cell_place, head_of, is_head, head_in, head_in_form, first_head, page_head, cell_of, is_erased, page_record, next_cell, fresh_page}
use Rattle.nvstore_core.specs.Steps.{headless_page}
use Rattle.nvstore_core.proofs.Frames.{spliced_within, range-spliced_within}
use Rattle.nvstore_core.proofs.Records.{page_record-last, next_cell-last}
use Rattle.nvstore_core.proofs.Current.{cell_inside}

-- ---- heads

pub length-head_of : (form : NvForm) (generation : ℕ) → length (head_of form generation) ≡ 16
unfolding head_of
length-head_of form generation = refl

same_head : (form : NvForm) (generation : ℕ) → is_head (head_of form generation) form generation ≡ true
same_head form generation = (bytes_eq-Decides (head_of form generation) (head_of form generation)).1 refl

first_found : (found other : Option PageHead) (head : PageHead) → found ≡ Some head → first_head found other ≡ Some head
first_found found other head is = ap (λ (f : Option PageHead). first_head f other) is

-- a head tells its form and its generation
pub head_of_head : (form : NvForm) (generation : ℕ) → generation ≤ 2 → head_in (head_of form generation) ≡ Some (record { form = form; generation = generation })
unfolding head_in head_of
head_of_head V1 zero few =
    first_found (head_in_form (head_of V1 0) V1) (head_in_form (head_of V1 0) V2) (record { form = V1; generation = 0 }) (cond-true _ _ _ (same_head V1 0))
head_of_head V1 (suc zero) few =
    first_found (head_in_form (head_of V1 1) V1) (head_in_form (head_of V1 1) V2) (record { form = V1; generation = 1 }) (cond-true _ _ _ (same_head V1 1))
head_of_head V1 (suc (suc zero)) few =
    first_found (head_in_form (head_of V1 2) V1) (head_in_form (head_of V1 2) V2) (record { form = V1; generation = 2 }) (cond-true _ _ _ (same_head V1 2))
head_of_head V2 zero few = cond-true _ _ _ (same_head V2 0)
head_of_head V2 (suc zero) few = cond-true _ _ _ (same_head V2 1)
head_of_head V2 (suc (suc zero)) few = cond-true _ _ _ (same_head V2 2)
head_of_head form (suc (suc (suc generation))) few = absurd (omega arith)

-- the last bytes of the six heads
ends_v1 : (get_or (head_of V1 0) 15 0 ≡ 0x77) × (get_or (head_of V1 1) 15 0 ≡ 0x68) × (get_or (head_of V1 2) 15 0 ≡ 0x49)
unfolding head_of crc8_of remainder
ends_v1 = (refl, refl, refl)

ends_v2 : (get_or (head_of V2 0) 15 0 ≡ 0xce) × (get_or (head_of V2 1) 15 0 ≡ 0xd1) × (get_or (head_of V2 2) 15 0 ≡ 0xf0)
unfolding head_of crc8_of remainder
ends_v2 = (refl, refl, refl)

no_head_with : (head : List ℕ) (form : NvForm) (generation last : ℕ) → get_or head 15 0 ≡ 255 → get_or (head_of form generation) 15 0 ≡ last → last < 255 → is_head head form generation ≡ false
no_head_with head form generation last erased ends less =
    false_from_ne_true _ (λ same.
    let is : head ≡ head_of form generation = (bytes_eq-Decides head (head_of form generation)).0 same in
    let ends' = ap (λ (h : List ℕ). get_or h 15 0) is in
    absurd (omega (arith, erased, ends, ends')))

-- a head whose last byte is erased does not count
pub erased_end_is_no_head : (head : List ℕ) → get_or head 15 0 ≡ 255 → head_in head ≡ None
unfolding head_in
erased_end_is_no_head head erased =
    let none = λ (form : NvForm) (a : is_head head form 0 ≡ false) (b : is_head head form 1 ≡ false) (c : is_head head form 2 ≡ false).
    let no : head_in_form head form ≡ None = cond-false _ _ _ a ∙ cond-false _ _ _ b ∙ cond-false _ _ _ c in no in
    let first = none V1 (no_head_with head V1 0 _ erased ends_v1.0 (omega arith)) (no_head_with head V1 1 _ erased ends_v1.1 (omega arith)) (no_head_with head V1 2 _ erased ends_v1.2 (omega arith)) in
    let second = none V2 (no_head_with head V2 0 _ erased ends_v2.0 (omega arith)) (no_head_with head V2 1 _ erased ends_v2.1 (omega arith)) (no_head_with head V2 2 _ erased ends_v2.2 (omega arith)) in
    ap (λ (f : Option PageHead). first_head f (head_in_form head V2)) first ∙ second

pub erased_is_no_head : head_in (replicate 16 255) ≡ None
erased_is_no_head = erased_end_is_no_head (replicate 16 255) refl

-- ---- the bytes of a page with one record

pub size_low : (form : NvForm) → 16 ≤ record_size form
size_low V1 = omega arith
size_low V2 = omega arith

pub size_few : (form : NvForm) → record_size form ≤ 64
size_few V1 = omega arith
size_few V2 = omega arith

cells_some : (form : NvForm) → 0 < cells_in form
cells_some V1 = omega arith
cells_some V2 = omega arith

erased_cell : (form : NvForm) → is_erased (replicate (record_size form) 255) ≡ true
erased_cell V1 = refl
erased_cell V2 = refl

place_first : (form : NvForm) → cell_place form 0 ≡ record_size form
place_first V1 = refl
place_first V2 = refl

place_behind : (form : NvForm) (cell : ℕ) → 0 < cell → 2 * record_size form + (cell_place form cell - 2 * record_size form) ≡ cell_place form cell
place_behind V1 cell some = omega arith
place_behind V2 cell some = omega arith

-- so many bytes in front of it, a record, and erased cells
written : ℕ → List ℕ → List ℕ → List ℕ
written size front r = front ++ r ++ replicate (4096 - 2 * size) 255

length-written : (size : ℕ) (front r : List ℕ) → size ≤ 64 → length front ≡ size → length r ≡ size → length (written size front r) ≡ 4096
unfolding written
length-written size front r few begins fits =
    omega (arith, length-append (front ++ r) (replicate (4096 - 2 * size) 255), length-append front r, length-replicate {A = ℕ} (4096 - 2 * size) 255)

cell_of_record : (form : NvForm) (front r : List ℕ) → length front ≡ record_size form → length r ≡ record_size form → cell_of form (written (record_size form) front r) 0 ≡ r
unfolding written
cell_of_record form front r begins fits =
    let size = record_size form in
    let tail : List ℕ = replicate (4096 - 2 * size) 255 in
    ap (λ (k : ℕ). take size (drop k ((front ++ r) ++ tail))) (place_first form)
    ∙ ap (λ (xs : List ℕ). take size (drop size xs)) (append_assoc front r tail)
    ∙ ap (take size) (drop_at front (r ++ tail) size begins)
    ∙ take_at r tail size fits

cell_behind : (form : NvForm) (front r : List ℕ) (cell : ℕ) → length front ≡ record_size form → length r ≡ record_size form → 0 < cell → cell < cells_in form
    → cell_of form (written (record_size form) front r) cell ≡ replicate (record_size form) 255
unfolding written
cell_behind form front r cell begins fits some below =
    let size = record_size form in
    let n = 4096 - 2 * size in
    let off = cell_place form cell - 2 * size in
    let tail : List ℕ = replicate n 255 in
    let long : length (front ++ r) ≡ 2 * size = omega (arith, length-append front r) in
    let upto = cell_inside form cell below in
    let beyond = place_behind form cell some in
    ap (λ (k : ℕ). take size (drop k ((front ++ r) ++ tail))) (sym beyond)
    ∙ ap (take size) (sym (drop-drop off (2 * size) ((front ++ r) ++ tail)))
    ∙ ap (λ (xs : List ℕ). take size (drop off xs)) (drop_at (front ++ r) tail (2 * size) long)
    ∙ ap (take size) (drop-replicate {X = ℕ} off n 255)
    ∙ take-replicate {X = ℕ} size (n - off) 255 (omega (arith, upto, beyond))

-- what stands in a page with these cells
written_stands : (form : NvForm) (page front r : List ℕ) → length front ≡ record_size form → length r ≡ record_size form → is_good_record r ≡ true
    → ((k : ℕ) → k < cells_in form → cell_of form page k ≡ cell_of form (written (record_size form) front r) k) → (page_record form page ≡ Some r) × (next_cell form page ≡ 1)
written_stands form page front r begins fits good same =
    let here : cell_of form page 0 ≡ r = same 0 (cells_some form) ∙ cell_of_record form front r begins fits in
    let behind = λ (k : ℕ) (after : 0 < k) (below : k < cells_in form).
    ap is_erased (same k below ∙ cell_behind form front r k begins fits after below) ∙ erased_cell form in
    (page_record-last form page r 0 (cells_some form) good here behind, next_cell-last form page r 0 (cells_some form) good here behind)

-- ---- a page without head, and a fresh one

-- the bytes in front of cell 0 of a fresh page
fresh_front : NvForm → ℕ → List ℕ
fresh_front form generation = head_of form generation ++ replicate (record_size form - 16) 255

length-fresh_front : (form : NvForm) (generation : ℕ) → length (fresh_front form generation) ≡ record_size form
unfolding fresh_front
length-fresh_front form generation =
    omega (arith, length-append (head_of form generation) (replicate (record_size form - 16) 255), length-head_of form generation, length-replicate {A = ℕ} (record_size form - 16) 255, size_low form)

pub front_of_fresh : (generation : ℕ) (r : List ℕ) → take 16 (fresh_page generation r) ≡ head_of (form_of r) generation
unfolding fresh_page
front_of_fresh generation r =
    let form = form_of r in
    let head = head_of form generation in
    let gap : List ℕ = replicate (record_size form - 16) 255 in
    let tail : List ℕ = replicate (4096 - 2 * record_size form) 255 in
    ap (take 16) (append_assoc (head ++ gap) r tail ∙ append_assoc head gap (r ++ tail))
    ∙ take_at head (gap ++ (r ++ tail)) 16 (length-head_of form generation)

pub fresh_head : (generation : ℕ) (r : List ℕ) → generation ≤ 2 → page_head (fresh_page generation r) ≡ Some (record { form = form_of r; generation = generation })
fresh_head generation r few = ap head_in (front_of_fresh generation r) ∙ head_of_head (form_of r) generation few

pub fresh_stands : (generation : ℕ) (r : List ℕ) → length r ≡ record_size (form_of r) → is_good_record r ≡ true
    → (page_record (form_of r) (fresh_page generation r) ≡ Some r) × (next_cell (form_of r) (fresh_page generation r) ≡ 1)
unfolding fresh_page written fresh_front
fresh_stands generation r fits good =
    written_stands (form_of r) (fresh_page generation r) (fresh_front (form_of r) generation) r (length-fresh_front (form_of r) generation) fits good (λ k below. refl)

-- a page whose head alone is not that of the page without head
pub headless_stands : (page r : List ℕ) → length r ≡ record_size (form_of r) → is_good_record r ≡ true
    → ((k : ℕ) → k < cells_in (form_of r) → cell_of (form_of r) page k ≡ cell_of (form_of r) (headless_page r) k) → page_record (form_of r) page ≡ Some r
unfolding headless_page written
headless_stands page r fits good same =
    (written_stands (form_of r) page (replicate (record_size (form_of r)) 255) r (length-replicate {A = ℕ} (record_size (form_of r)) 255) fits good same).0

pub front_of_headless : (r : List ℕ) → take 16 (headless_page r) ≡ replicate 16 255
unfolding headless_page
front_of_headless r =
    let size = record_size (form_of r) in
    let front : List ℕ = replicate size 255 in
    let tail : List ℕ = replicate (4096 - 2 * size) 255 in
    ap (take 16) (append_assoc front r tail)
    ∙ take-append-le 16 front (r ++ tail) (omega (arith, size_low (form_of r), length-replicate {A = ℕ} size 255))
    ∙ take-replicate {X = ℕ} 16 size 255 (size_low (form_of r))

pub front_of_erased : take 16 erased_page ≡ replicate 16 255
unfolding erased_page
front_of_erased = take-replicate {X = ℕ} 16 4096 255 (omega arith)

pub length-headless : (r : List ℕ) → length r ≡ record_size (form_of r) → length (headless_page r) ≡ 4096
unfolding headless_page written
length-headless r fits =
    let size = record_size (form_of r) in
    length-written size (replicate size 255) r (size_few (form_of r)) (length-replicate {A = ℕ} size 255) fits

pub length-fresh : (generation : ℕ) (r : List ℕ) → length r ≡ record_size (form_of r) → length (fresh_page generation r) ≡ 4096
unfolding fresh_page written fresh_front
length-fresh generation r fits =
    length-written (record_size (form_of r)) (fresh_front (form_of r) generation) r (size_few (form_of r)) (length-fresh_front (form_of r) generation) fits

-- ---- the three changes

-- a program of an erased range leaves what was meant
pub programmed_exact : (at : ℕ) (meant : List ℕ) (old new : FlashMedium) → IsErased (range old.bytes at (length meant)) → Programmed at meant old new → new.bytes ≡ spliced old.bytes at meant
programmed_exact at meant old new erased done = done.bytes ∙ ap (spliced old.bytes at) (done.exact erased)

erased-ones : (n : ℕ) → IsErased (replicate n 255)
erased-ones n = All-replicate {X = ℕ} (λ b. b ≡ 255) n 255 refl

with_cell : (r : List ℕ) → length r ≡ record_size (form_of r) → spliced erased_page (record_size (form_of r)) r ≡ headless_page r
unfolding erased_page headless_page
with_cell r fits =
    let size = record_size (form_of r) in
    let few = size_few (form_of r) in
    let front : take size (replicate 4096 255) ≡ replicate size 255 = take-replicate {X = ℕ} size 4096 255 (omega (arith, few)) in
    let twice : size + length r ≡ 2 * size = omega (arith, fits) in
    let rest : drop (size + length r) (replicate 4096 255) ≡ replicate (4096 - 2 * size) 255 =
    ap (λ (n : ℕ). drop n (replicate 4096 255)) twice ∙ drop-replicate {X = ℕ} (2 * size) 4096 255 in
    ap (λ (xs : List ℕ). xs ++ r ++ drop (size + length r) (replicate 4096 255)) front
    ∙ ap (λ (xs : List ℕ). replicate size 255 ++ r ++ xs) rest

with_head : (generation : ℕ) (r : List ℕ) → spliced (headless_page r) 0 (head_of (form_of r) generation) ≡ fresh_page generation r
unfolding headless_page fresh_page
with_head generation r =
    let form = form_of r in
    let size = record_size form in
    let head = head_of form generation in
    let gap : List ℕ = replicate (size - 16) 255 in
    let tail : List ℕ = replicate (4096 - 2 * size) 255 in
    let rest : drop (0 + length head) ((replicate size 255 ++ r) ++ tail) ≡ gap ++ (r ++ tail) =
    ap (λ (n : ℕ). drop (0 + n) ((replicate size 255 ++ r) ++ tail)) (length-head_of form generation)
    ∙ ap (drop 16) (append_assoc (replicate size 255) r tail)
    ∙ drop-append-le 16 (replicate size 255) (r ++ tail) (omega (arith, size_low form, length-replicate {A = ℕ} size 255))
    ∙ ap (λ (xs : List ℕ). xs ++ (r ++ tail)) (drop-replicate {X = ℕ} 16 size 255) in
    ap (λ (xs : List ℕ). head ++ xs) rest ∙ sym (append_assoc head gap (r ++ tail)) ∙ sym (append_assoc (head ++ gap) r tail)

-- cell 0 of the erased page was programmed
pub cell_programmed : (bytes : List ℕ) (place : ℕ) (r : List ℕ) (m1 m2 : FlashMedium) → place ≤ length bytes → length r ≡ record_size (form_of r)
    → m1.bytes ≡ spliced bytes place erased_page → Programmed (place + record_size (form_of r)) r m1 m2 → m2.bytes ≡ spliced bytes place (headless_page r)
unfolding erased_page
cell_programmed bytes place r m1 m2 inside fits before done =
    let size = record_size (form_of r) in
    let few = size_few (form_of r) in
    let long : length erased_page ≡ 4096 = length-erased_page in
    let blank : range m1.bytes (place + size) (length r) ≡ replicate size 255 =
    ap (λ (xs : List ℕ). range xs (place + size) (length r)) before
    ∙ ap (range (spliced bytes place erased_page) (place + size)) fits
    ∙ range-spliced_within bytes place erased_page size size inside (omega (arith, few, long))
    ∙ ap (take size) (drop-replicate {X = ℕ} size 4096 255)
    ∙ take-replicate {X = ℕ} size (4096 - size) 255 (omega (arith, few)) in
    programmed_exact (place + size) r m1 m2 (subst IsErased (sym blank) (erased-ones size)) done
    ∙ ap (λ (xs : List ℕ). spliced xs (place + size) r) before
    ∙ spliced_within bytes place erased_page size r inside (omega (arith, few, fits, long))
    ∙ ap (spliced bytes place) (with_cell r fits)

-- and then its head
pub head_programmed : (bytes : List ℕ) (place generation : ℕ) (r : List ℕ) (m2 m3 : FlashMedium) → place ≤ length bytes → length r ≡ record_size (form_of r)
    → m2.bytes ≡ spliced bytes place (headless_page r) → Programmed place (head_of (form_of r) generation) m2 m3 → m3.bytes ≡ spliced bytes place (fresh_page generation r)
head_programmed bytes place generation r m2 m3 inside fits before done =
    let head = head_of (form_of r) generation in
    let size : length (headless_page r) ≡ 4096 = length-headless r fits in
    let head_size : length head ≡ 16 = length-head_of (form_of r) generation in
    let here : place + 0 ≡ place = omega arith in
    let blank : range m2.bytes place (length head) ≡ replicate 16 255 =
    ap (λ (xs : List ℕ). range xs place (length head)) before
    ∙ ap (range (spliced bytes place (headless_page r)) place) head_size
    ∙ ap (λ (k : ℕ). range (spliced bytes place (headless_page r)) k 16) (sym here)
    ∙ range-spliced_within bytes place (headless_page r) 0 16 inside (omega (arith, size))
    ∙ front_of_headless r in
    programmed_exact place head m2 m3 (subst IsErased (sym blank) (erased-ones 16)) done
    ∙ ap (λ (xs : List ℕ). spliced xs place head) before
    ∙ ap (λ (k : ℕ). spliced (spliced bytes place (headless_page r)) k head) (sym here)
    ∙ spliced_within bytes place (headless_page r) 0 head inside (omega (arith, size, head_size))
    ∙ ap (spliced bytes place) (with_head generation r)
