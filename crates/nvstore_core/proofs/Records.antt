-- What stands in a page, from its cells.
use Rattle.std.proofs.Common.{◌≡◌, ◌⊎◌, ℕ, zero, suc, ◌+◌, ◌<◌, ◌≤◌, Bool, true, false, List, [], ◌∷◌, length, get_or, Some, refl, sym, ap, subst, ◌∙◌, arith, inl, inr}
use Rattle.std.specs.Prelude.{bit_and, ◌==◌, if◌then◌else◌}
use Rattle.std.proofs.lemmas.Bool.{cases_Bool, cases_lt, eqb-true, and_parts, false_from_ne_true, false≢true}
use Rattle.record_core.specs.declared.nv.NvForm.{NvForm}
use Rattle.record_core.specs.declared.nv.NvForm.TheVariants.{V1, V2}
use Rattle.record_core.specs.Nv.{is_good_record, crc_at, signature_of, form_of, record_size}
use Rattle.nvstore_core.specs.Pages.{cells_in, cell_of, is_erased, last_good, tail_start, page_record, next_cell}
use Rattle.nvstore_core.proofs.Cells.{last_good-none, last_good-yes, last_good-no, tail_start-yes, tail_start-no}

-- ---- erased cells and good ones

first_of_erased : (cell : List ℕ) (n : ℕ) → length cell ≡ suc n → is_erased cell ≡ true → get_or cell 0 0 ≡ 255
first_of_erased [] n long erased = absurd (omega arith)
first_of_erased (x ∷ xs) n long erased = eqb-true _ _ (and_parts _ _ erased).0

pub length-good : (r : List ℕ) → is_good_record r ≡ true → length r ≡ crc_at r + 1
length-good r good = eqb-true _ _ (and_parts _ _ (and_parts _ _ good).0).0

-- a good record has the size of its form
size_by : (r : List ℕ) (long : Bool) → (length r == 64) ≡ long → length r ≡ (if long then 63 else 15) + 1 → length r ≡ record_size (if long then V2 else V1)
size_by r true is size = size
size_by r false is size = size

pub size_of_good : (r : List ℕ) → is_good_record r ≡ true → length r ≡ record_size (form_of r)
size_of_good r good = size_by r (length r == 64) refl (length-good r good)

-- no signature has both bits
both_bits : (bits : ℕ) (long : Bool) → bits ≡ 0xc0 → bits ≡ (if long then 0x80 else 0x40) → ⊥
both_bits bits true is other = omega arith
both_bits bits false is other = omega arith

-- an erased cell holds no good record: its signature is wrong
pub erased_is_no_record : (cell : List ℕ) → is_erased cell ≡ true → is_good_record cell ≡ false
erased_is_no_record cell erased =
    false_from_ne_true _ (λ good.
    let signature : bit_and (get_or cell 0 0) 0xc0 ≡ signature_of cell = eqb-true _ _ (and_parts _ _ (and_parts _ _ good).0).1 in
    let size = length-good cell good in
    let first : get_or cell 0 0 ≡ 255 = first_of_erased cell (crc_at cell) (omega arith) erased in
    absurd (both_bits (bit_and (get_or cell 0 0) 0xc0) (length cell == 64) (ap (λ (b : ℕ). bit_and b 0xc0) first) signature))

pub record_is_not_erased : (cell : List ℕ) → is_good_record cell ≡ true → is_erased cell ≡ false
record_is_not_erased cell good = false_from_ne_true _ (λ erased. false≢true (sym (erased_is_no_record cell erased) ∙ good))

-- each cell of the tail is erased
tail_is_erased : (form : NvForm) (page : List ℕ) (count cell : ℕ) → tail_start form page count ≤ cell → cell < count → is_erased (cell_of form page cell) ≡ true
tail_is_erased form page zero cell from below = absurd (omega arith)
tail_is_erased form page (suc count) cell from below =
    elim (cases_Bool (is_erased (cell_of form page count))) [
      | inl erased ↦
          let start = tail_start-yes form page count erased in
          elim (cases_lt cell count) [
            | inl lower ↦ tail_is_erased form page count cell (omega arith) lower
            | inr last ↦ let same : count ≡ cell = omega arith in subst (λ (k : ℕ). is_erased (cell_of form page k) ≡ true) same erased
          ]
      | inr used ↦ let start = tail_start-no form page count used in absurd (omega arith)
    ]

pub behind_next : (form : NvForm) (page : List ℕ) (next cell : ℕ) → next ≡ next_cell form page → next ≤ cell → cell < cells_in form → is_erased (cell_of form page cell) ≡ true
unfolding next_cell
behind_next form page next cell is from below = tail_is_erased form page (cells_in form) cell (omega (arith, is)) below

-- ---- which record stands

-- that of a cell behind which no cell is good
last_good-at : (form : NvForm) (page : List ℕ) (count cell : ℕ) → cell < count → is_good_record (cell_of form page cell) ≡ true
    → ((k : ℕ) → cell < k → k < count → is_good_record (cell_of form page k) ≡ false) → last_good form page count ≡ Some (cell_of form page cell)
last_good-at form page zero cell below good behind = absurd (omega arith)
last_good-at form page (suc count) cell below good behind =
    elim (cases_lt cell count) [
      | inl lower ↦ last_good-no form page count (behind count lower (omega arith)) ∙ last_good-at form page count cell lower good (λ k after low. behind k after (omega arith))
      | inr last ↦
          let same : count ≡ cell = omega arith in
          subst (λ (k : ℕ). last_good form page (suc k) ≡ Some (cell_of form page cell)) (sym same) (last_good-yes form page cell good)
    ]

-- the same one, where each cell is the same or holds no record in both
last_good-like : (form : NvForm) (old new : List ℕ) (count : ℕ)
    → ((k : ℕ) → k < count → (cell_of form new k ≡ cell_of form old k) ⊎ ((is_good_record (cell_of form old k) ≡ false) × (is_good_record (cell_of form new k) ≡ false))) → last_good form new count ≡ last_good form old count
last_good-like form old new zero same = last_good-none form new ∙ sym (last_good-none form old)
last_good-like form old new (suc count) same =
    let rest : last_good form new count ≡ last_good form old count = last_good-like form old new count (λ k below. same k (omega arith)) in
    elim (same count (omega arith)) [
      | inl equal ↦
          elim (cases_Bool (is_good_record (cell_of form old count))) [
            | inl good ↦ last_good-yes form new count (ap is_good_record equal ∙ good) ∙ ap (λ (c : List ℕ). Some c) equal ∙ sym (last_good-yes form old count good)
            | inr bad ↦ last_good-no form new count (ap is_good_record equal ∙ bad) ∙ rest ∙ sym (last_good-no form old count bad)
          ]
      | inr both ↦ last_good-no form new count both.1 ∙ rest ∙ sym (last_good-no form old count both.0)
    ]

pub page_record-like : (form : NvForm) (old new : List ℕ)
    → ((k : ℕ) → k < cells_in form → (cell_of form new k ≡ cell_of form old k) ⊎ ((is_good_record (cell_of form old k) ≡ false) × (is_good_record (cell_of form new k) ≡ false))) → page_record form new ≡ page_record form old
unfolding page_record
page_record-like form old new same = last_good-like form old new (cells_in form) same

-- a good record behind which all cells are erased
pub page_record-last : (form : NvForm) (page r : List ℕ) (cell : ℕ) → cell < cells_in form → is_good_record r ≡ true → cell_of form page cell ≡ r → ((k : ℕ) → cell < k → k < cells_in form → is_erased (cell_of form page k) ≡ true)
    → page_record form page ≡ Some r
unfolding page_record
page_record-last form page r cell below good here behind =
    last_good-at form page (cells_in form) cell below (ap is_good_record here ∙ good) (λ k after low. erased_is_no_record (cell_of form page k) (behind k after low)) ∙ ap (λ (c : List ℕ). Some c) here

-- ---- where the erased tail begins

tail_start-at : (form : NvForm) (page : List ℕ) (count cell : ℕ) → cell < count → is_erased (cell_of form page cell) ≡ false → ((k : ℕ) → cell < k → k < count → is_erased (cell_of form page k) ≡ true)
    → tail_start form page count ≡ cell + 1
tail_start-at form page zero cell below used behind = absurd (omega arith)
tail_start-at form page (suc count) cell below used behind =
    elim (cases_lt cell count) [
      | inl lower ↦ tail_start-yes form page count (behind count lower (omega arith)) ∙ tail_start-at form page count cell lower used (λ k after low. behind k after (omega arith))
      | inr last ↦
          let same : count ≡ cell = omega arith in
          let last_used : is_erased (cell_of form page count) ≡ false = subst (λ (k : ℕ). is_erased (cell_of form page k) ≡ false) (sym same) used in
          let start = tail_start-no form page count last_used in
          omega (arith, start)
    ]

pub next_cell-last : (form : NvForm) (page r : List ℕ) (cell : ℕ) → cell < cells_in form → is_good_record r ≡ true → cell_of form page cell ≡ r → ((k : ℕ) → cell < k → k < cells_in form → is_erased (cell_of form page k) ≡ true)
    → next_cell form page ≡ cell + 1
unfolding next_cell
next_cell-last form page r cell below good here behind = tail_start-at form page (cells_in form) cell below (ap is_erased here ∙ record_is_not_erased r good) behind
