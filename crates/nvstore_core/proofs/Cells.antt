-- The cells of a page, one more at a time: the last good record and the erased tail.
use Rattle.std.proofs.Common.{◌≡◌, ℕ, suc, ◌+◌, true, false, List, [], ◌∷◌, reverse, Option, Some, None, refl, sym, ap, ◌∙◌, arith}
use Rattle.std.specs.Prelude.{is_some, IfSome}
use Rattle.std.specs.List.{find, prefix_len, suffix_len}
use Rattle.std.proofs.lemmas.Bool.{cond-true, cond-false, false≢true}
use Rattle.std.proofs.lemmas.List.{reverse-append}
use Rattle.record_core.specs.declared.nv.NvForm.{NvForm}
use Rattle.record_core.specs.Nv.{is_good_record}
use Rattle.nvstore_core.specs.Pages.{cell_of, cells_below, is_erased, last_good, tail_start}

reversed_more : (form : NvForm) (page : List ℕ) (count : ℕ) → reverse (cells_below form page (suc count)) ≡ cell_of form page count ∷ reverse (cells_below form page count)
unfolding cells_below
reversed_more form page count = reverse-append (cells_below form page count) (cell_of form page count ∷ [])

pub last_good-none : (form : NvForm) (page : List ℕ) → last_good form page 0 ≡ None
unfolding cells_below
last_good-none form page = refl

pub last_good-yes : (form : NvForm) (page : List ℕ) (count : ℕ) → is_good_record (cell_of form page count) ≡ true → last_good form page (suc count) ≡ Some (cell_of form page count)
last_good-yes form page count good = ap (find is_good_record) (reversed_more form page count) ∙ cond-true _ _ _ good

pub last_good-no : (form : NvForm) (page : List ℕ) (count : ℕ) → is_good_record (cell_of form page count) ≡ false → last_good form page (suc count) ≡ last_good form page count
last_good-no form page count bad = ap (find is_good_record) (reversed_more form page count) ∙ cond-false _ _ _ bad

pub tail_start-none : (form : NvForm) (page : List ℕ) → tail_start form page 0 ≡ 0
unfolding cells_below
tail_start-none form page = refl

pub tail_start-yes : (form : NvForm) (page : List ℕ) (count : ℕ) → is_erased (cell_of form page count) ≡ true → tail_start form page (suc count) ≡ tail_start form page count
tail_start-yes form page count erased =
    let one : suffix_len is_erased (cells_below form page (suc count)) ≡ 1 + suffix_len is_erased (cells_below form page count) =
    ap (prefix_len is_erased) (reversed_more form page count) ∙ cond-true _ _ _ erased in
    omega (arith, one)

pub tail_start-no : (form : NvForm) (page : List ℕ) (count : ℕ) → is_erased (cell_of form page count) ≡ false → tail_start form page (suc count) ≡ suc count
tail_start-no form page count used =
    let one : suffix_len is_erased (cells_below form page (suc count)) ≡ 0 = ap (prefix_len is_erased) (reversed_more form page count) ∙ cond-false _ _ _ used in
    omega (arith, one)

-- ---- the steps of a walk from the last cell down

pub last_good-found : (form : NvForm) (page : List ℕ) (count cell : ℕ) → count ≡ suc cell → is_good_record (cell_of form page cell) ≡ true → last_good form page count ≡ Some (cell_of form page cell)
last_good-found form page count cell last good = ap (last_good form page) last ∙ last_good-yes form page cell good

pub last_good-passed : (form : NvForm) (page : List ℕ) (count cell : ℕ) → count ≡ suc cell → is_good_record (cell_of form page cell) ≡ false → last_good form page cell ≡ last_good form page count
last_good-passed form page count cell last bad = sym (ap (last_good form page) last ∙ last_good-no form page cell bad)

pub tail_start-passed : (form : NvForm) (page : List ℕ) (count cell : ℕ) → count ≡ suc cell → is_erased (cell_of form page cell) ≡ true → tail_start form page cell ≡ tail_start form page count
tail_start-passed form page count cell last erased = sym (ap (tail_start form page) last ∙ tail_start-yes form page cell erased)

pub tail_start-found : (form : NvForm) (page : List ℕ) (count cell : ℕ) → count ≡ suc cell → is_erased (cell_of form page cell) ≡ false → tail_start form page count ≡ count
tail_start-found form page count cell last used = ap (tail_start form page) last ∙ tail_start-no form page cell used ∙ sym last

-- the value that there is
pub some_same : (found : Option (List ℕ)) (r : List ℕ) → is_some found ≡ true → IfSome found (λ x. x ≡ r) → found ≡ Some r
some_same None r some same = absurd (false≢true some)
some_same (Some x) r some same = ap (λ (y : List ℕ). Some y) same
