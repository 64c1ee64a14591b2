-- Which page is current, after one of them changed.
use Rattle.std.proofs.Common.{◌≡◌, ◌⊎◌, ℕ, zero, suc, ◌+◌, ◌*◌, ◌<◌, ◌≤◌, Bool, true, false, List, take, Option, Some, None, sym, ap, ◌∙◌, refl, arith, inl, inr}
use Rattle.std.specs.Prelude.{◌%◌, ◌==◌, if◌then◌else◌, unwrap_or, is_some}
use Rattle.record_core.specs.Nv.{blank_record}
use Rattle.std.proofs.lemmas.Bool.{cond-true, cases_lt, eq-eqb}
use Rattle.nvstore_core.specs.declared.state.NvState.{NvState}
use Rattle.board_core.specs.Flash.{range}
use Rattle.record_core.specs.declared.nv.NvForm.{NvForm}
use Rattle.record_core.specs.declared.nv.NvForm.TheVariants.{V1, V2}
use Rattle.record_core.specs.Nv.{record_size}
use Rattle.nvstore_core.specs.Pages.{cells_in, cell_place, cell_of, current_page, of_current, page_in, generation_in, current_in, own_record, page_state, empty_state, record_in, state_in}
use Rattle.nvstore_core.specs.Saving.{SameBut}
use Rattle.nvstore_core.proofs.Frames.{range-range, range_before, range_behind}
use Rattle.nvstore_core.proofs.Answering.{same_state}

-- ---- from the two generations alone

first_stays : (first second : Option ℕ) → current_page first second ≡ Some 0 → current_page first None ≡ Some 0
first_stays None None is = is
first_stays None (Some h) is = absurd (cc)
first_stays (Some g) second is = refl

second_stays : (first second : Option ℕ) → current_page first second ≡ Some 1 → current_page None second ≡ Some 1
second_stays None second is = is
second_stays (Some g) None is = absurd (cc)
second_stays (Some g) (Some h) is = refl

first_counts : (first second : Option ℕ) → current_page first second ≡ Some 0 → first ≡ Some (unwrap_or first 0)
first_counts None None is = absurd (cc)
first_counts None (Some h) is = absurd (cc)
first_counts (Some g) second is = refl

second_counts : (first second : Option ℕ) → current_page first second ≡ Some 1 → second ≡ Some (unwrap_or second 0)
second_counts None None is = absurd (cc)
second_counts (Some g) None is = absurd (cc)
second_counts first (Some h) is = refl

chosen_some : (later : Bool) → if◌then◌else◌ {A = Option ℕ} later (Some 1) (Some 0) ≡ None → ⊥
chosen_some true is = cc
chosen_some false is = cc

both_none : (first second : Option ℕ) → current_page first second ≡ None → (first ≡ None) × (second ≡ None)
both_none None None is = (refl, refl)
both_none None (Some h) is = absurd (cc)
both_none (Some g) None is = absurd (cc)
both_none (Some g) (Some h) is = absurd (chosen_some (h == (g + 1) % 3) is)

second_next : (g : ℕ) → current_page (Some g) (Some ((g + 1) % 3)) ≡ Some 1
second_next g = cond-true _ _ _ (eq-eqb ((g + 1) % 3) ((g + 1) % 3) refl)

first_next : (g : ℕ) → g ≤ 2 → current_page (Some ((g + 1) % 3)) (Some g) ≡ Some 0
first_next zero few = refl
first_next (suc zero) few = refl
first_next (suc (suc zero)) few = refl
first_next (suc (suc (suc g))) few = absurd (omega arith)

chosen_page : (later : Bool) (p q : List ℕ) → (of_current (if later then Some 1 else Some 0) empty_state (page_state 0 p) (page_state 1 q)).page ≡ (if later then Some 1 else Some 0)
unfolding page_state
chosen_page true p q = refl
chosen_page false p q = refl

page_of_current : (first second : Option ℕ) (p q : List ℕ) → (of_current (current_page first second) empty_state (page_state 0 p) (page_state 1 q)).page ≡ current_page first second
unfolding page_state
page_of_current None None p q = refl
page_of_current (Some g) None p q = refl
page_of_current None (Some h) p q = refl
page_of_current (Some g) (Some h) p q = chosen_page (h == (g + 1) % 3) p q

-- a part of the state of the current page
part_of_current : {A : Type 0} (part : NvState → A) (page : Option ℕ) (first second : NvState) → part (of_current page empty_state first second) ≡ of_current page (part empty_state) (part first) (part second)
part_of_current part None first second = refl
part_of_current part (Some zero) first second = refl
part_of_current part (Some (suc page)) first second = refl

nv_of_current : (page : Option ℕ) (first second : Option (List ℕ)) → unwrap_or (of_current page None first second) blank_record ≡ of_current page blank_record (unwrap_or first blank_record) (unwrap_or second blank_record)
nv_of_current None first second = refl
nv_of_current (Some zero) first second = refl
nv_of_current (Some (suc page)) first second = refl

stands_of_current : (page : Option ℕ) (first second : Option (List ℕ)) → is_some (of_current page None first second) ≡ of_current page false (is_some first) (is_some second)
stands_of_current None first second = refl
stands_of_current (Some zero) first second = refl
stands_of_current (Some (suc page)) first second = refl

-- ---- the pages of an area

pub state_page : (area : ℕ) (bytes : List ℕ) → (state_in area bytes).page ≡ current_in area bytes
unfolding state_in
state_page area bytes = refl

-- the state is that of the page that is current
pub state_pages : (area : ℕ) (bytes : List ℕ) → of_current (current_in area bytes) empty_state (page_state 0 (page_in area 0 bytes)) (page_state 1 (page_in area 1 bytes)) ≡ state_in area bytes
unfolding state_in page_state record_in
state_pages area bytes =
    let page = current_in area bytes in
    let p = page_in area 0 bytes in
    let q = page_in area 1 bytes in
    same_state (of_current page empty_state (page_state 0 p) (page_state 1 q)) (state_in area bytes)
    (page_of_current (generation_in area 0 bytes) (generation_in area 1 bytes) p q)
    (part_of_current (λ (s : NvState). s.form) page (page_state 0 p) (page_state 1 q))
    (part_of_current (λ (s : NvState). s.generation) page (page_state 0 p) (page_state 1 q))
    (part_of_current (λ (s : NvState). s.next) page (page_state 0 p) (page_state 1 q))
    (part_of_current (λ (s : NvState). s.nv) page (page_state 0 p) (page_state 1 q) ∙ sym (nv_of_current page (own_record p) (own_record q)))
    (part_of_current (λ (s : NvState). s.stands) page (page_state 0 p) (page_state 1 q) ∙ sym (stands_of_current page (own_record p) (own_record q)))

pub record_current : (area page : ℕ) (bytes : List ℕ) → page ≤ 1 → current_in area bytes ≡ Some page → record_in area bytes ≡ own_record (page_in area page bytes)
unfolding record_in
record_current area zero bytes within is = ap (λ (c : Option ℕ). of_current c None (own_record (page_in area 0 bytes)) (own_record (page_in area 1 bytes))) is
record_current area (suc zero) bytes within is = ap (λ (c : Option ℕ). of_current c None (own_record (page_in area 0 bytes)) (own_record (page_in area 1 bytes))) is
record_current area (suc (suc page)) bytes within is = absurd (omega arith)

pub record_none : (area : ℕ) (bytes : List ℕ) → current_in area bytes ≡ None → record_in area bytes ≡ None
unfolding record_in
record_none area bytes is = ap (λ (c : Option ℕ). of_current c None (own_record (page_in area 0 bytes)) (own_record (page_in area 1 bytes))) is

pub state_current : (area page : ℕ) (bytes : List ℕ) → page ≤ 1 → current_in area bytes ≡ Some page → state_in area bytes ≡ page_state page (page_in area page bytes)
state_current area zero bytes within is =
    sym (state_pages area bytes) ∙ ap (λ (c : Option ℕ). of_current c empty_state (page_state 0 (page_in area 0 bytes)) (page_state 1 (page_in area 1 bytes))) is
state_current area (suc zero) bytes within is =
    sym (state_pages area bytes) ∙ ap (λ (c : Option ℕ). of_current c empty_state (page_state 0 (page_in area 0 bytes)) (page_state 1 (page_in area 1 bytes))) is
state_current area (suc (suc page)) bytes within is = absurd (omega arith)

-- the current page counts
pub current_counts : (area page : ℕ) (bytes : List ℕ) → page ≤ 1 → current_in area bytes ≡ Some page → generation_in area page bytes ≡ Some (unwrap_or (generation_in area page bytes) 0)
current_counts area zero bytes within is = first_counts (generation_in area 0 bytes) (generation_in area 1 bytes) is
current_counts area (suc zero) bytes within is = second_counts (generation_in area 0 bytes) (generation_in area 1 bytes) is
current_counts area (suc (suc page)) bytes within is = absurd (omega arith)

-- a page stays current where the other one keeps its generation, or counts no more
pub current_stays : (area page other : ℕ) (old new : List ℕ) → page + other ≡ 1 → current_in area old ≡ Some page → generation_in area page new ≡ generation_in area page old
    → (generation_in area other new ≡ generation_in area other old) ⊎ (generation_in area other new ≡ None) → current_in area new ≡ Some page
current_stays area zero zero old new two is same lost = absurd (omega arith)
current_stays area zero (suc zero) old new two is same (inl kept) =
    ap (λ (c : Option ℕ). current_page c (generation_in area 1 new)) same ∙ ap (current_page (generation_in area 0 old)) kept ∙ is
current_stays area zero (suc zero) old new two is same (inr none) =
    ap (λ (c : Option ℕ). current_page c (generation_in area 1 new)) same ∙ ap (current_page (generation_in area 0 old)) none ∙ first_stays (generation_in area 0 old) (generation_in area 1 old) is
current_stays area zero (suc (suc other)) old new two is same lost = absurd (omega arith)
current_stays area (suc zero) zero old new two is same (inl kept) =
    ap (λ (c : Option ℕ). current_page c (generation_in area 1 new)) kept ∙ ap (current_page (generation_in area 0 old)) same ∙ is
current_stays area (suc zero) zero old new two is same (inr none) =
    ap (λ (c : Option ℕ). current_page c (generation_in area 1 new)) none ∙ ap (current_page None) same ∙ second_stays (generation_in area 0 old) (generation_in area 1 old) is
current_stays area (suc zero) (suc other) old new two is same lost = absurd (omega arith)
current_stays area (suc (suc page)) other old new two is same lost = absurd (omega arith)

-- the other page is current once it has the next generation
pub current_next : (area page other g : ℕ) (new : List ℕ) → page + other ≡ 1 → g ≤ 2 → generation_in area page new ≡ Some g → generation_in area other new ≡ Some ((g + 1) % 3)
    → current_in area new ≡ Some other
current_next area zero zero g new two few is next = absurd (omega arith)
current_next area zero (suc zero) g new two few is next = ap (λ (c : Option ℕ). current_page c (generation_in area 1 new)) is ∙ ap (current_page (Some g)) next ∙ second_next g
current_next area zero (suc (suc other)) g new two few is next = absurd (omega arith)
current_next area (suc zero) zero g new two few is next = ap (λ (c : Option ℕ). current_page c (generation_in area 1 new)) next ∙ ap (current_page (Some ((g + 1) % 3))) is ∙ first_next g few
current_next area (suc zero) (suc other) g new two few is next = absurd (omega arith)
current_next area (suc (suc page)) other g new two few is next = absurd (omega arith)

-- where no page counts
pub none_stays : (area : ℕ) (old new : List ℕ) → current_in area old ≡ None → generation_in area 1 new ≡ generation_in area 1 old
    → (generation_in area 0 new ≡ generation_in area 0 old) ⊎ (generation_in area 0 new ≡ None) → current_in area new ≡ None
none_stays area old new is same lost =
    let none = both_none (generation_in area 0 old) (generation_in area 1 old) is in
    let first : generation_in area 0 new ≡ None = elim lost [ inl kept ↦ kept ∙ none.0 | inr gone ↦ gone ] in
    ap (λ (c : Option ℕ). current_page c (generation_in area 1 new)) first ∙ ap (current_page None) (same ∙ none.1)

pub none_next : (area g : ℕ) (old new : List ℕ) → current_in area old ≡ None → generation_in area 1 new ≡ generation_in area 1 old → generation_in area 0 new ≡ Some g → current_in area new ≡ Some 0
none_next area g old new is same next =
    let none = both_none (generation_in area 0 old) (generation_in area 1 old) is in
    ap (λ (c : Option ℕ). current_page c (generation_in area 1 new)) next ∙ ap (current_page (Some g)) (same ∙ none.1)

-- ---- pages, heads and cells as ranges of the flash

pub head_range : (area page : ℕ) (bytes : List ℕ) → take 16 (page_in area page bytes) ≡ range bytes (area + 4096 * page) 16
unfolding page_in
head_range area page bytes = range-range bytes (area + 4096 * page) 4096 0 16 (omega arith) ∙ (let at : (area + 4096 * page) + 0 ≡ area + 4096 * page = omega arith in ap (λ (k : ℕ). range bytes k 16) at)

-- a cell lies in its page
pub cell_inside : (form : NvForm) (cell : ℕ) → cell < cells_in form → cell_place form cell + record_size form ≤ 4096
cell_inside V1 cell below = omega arith
cell_inside V2 cell below = omega arith

pub cell_in : (form : NvForm) (area page : ℕ) (bytes : List ℕ) (cell : ℕ) → cell < cells_in form
    → cell_of form (page_in area page bytes) cell ≡ range bytes (area + 4096 * page + cell_place form cell) (record_size form)
unfolding page_in
cell_in form area page bytes cell below = range-range bytes (area + 4096 * page) 4096 (cell_place form cell) (record_size form) (cell_inside form cell below)

-- a page stays where the other one changed
pub page_stays : (area page other : ℕ) (old new : List ℕ) → page + other ≡ 1 → SameBut (area + 4096 * other) 4096 old new → page_in area page new ≡ page_in area page old
unfolding page_in
page_stays area page other old new two same =
    elim (cases_lt page other) [
      | inl lower ↦ range_before (area + 4096 * other) 4096 (area + 4096 * page) 4096 old new (omega arith) same
      | inr higher ↦ range_behind (area + 4096 * other) 4096 (area + 4096 * page) 4096 old new (omega arith) same
    ]
