-- Facts of an answer, of a state and of a cell in the forms that the calls use.
use Rattle.std.proofs.Common.{◌≡◌, ℕ, ◌<◌, ◌≤◌, Bool, true, List, [], ◌∷◌, Option, Some, None, Result, Ok, Err, refl, ap, ◌∙◌, rules}
use Rattle.std.specs.Prelude.{IsTrue, IfSome, is_some, nat_lt, ◌&&◌, OnOk, OnErr, is_err}
use Rattle.std.proofs.lemmas.Bool.{and_parts, eqb-true, false≢true}
use Rattle.std.proofs.lemmas.List.Elements.{All-nil, All-cons}
use Rattle.board_core.specs.Flash.{IsErased}
use Rattle.nvstore_core.specs.declared.state.NvState.{NvState}
use Rattle.record_core.specs.declared.nv.NvForm.{NvForm}
use Rattle.record_core.specs.declared.nv.NvForm.TheVariants.{V1, V2}
use Rattle.nvstore_core.specs.Pages.{is_erased, cells_in, same_form, InRange, has_room}

pub on_ok_map : {T E P Q : Type 0} (r : Result T E) → (P → Q) → OnOk r P → OnOk r Q
on_ok_map (Ok x) f p = f p
on_ok_map (Err e) f p = tt

pub on_err_map : {T E P Q : Type 0} (r : Result T E) → (P → Q) → OnErr r P → OnErr r Q
on_err_map (Ok x) f p = tt
on_err_map (Err e) f p = f p

pub on_err_of : {T E P : Type 0} (r : Result T E) → (IsTrue (is_err r) → P) → OnErr r P
on_err_of (Ok x) f = tt
on_err_of (Err e) f = f refl

-- two states with the same fields
pub same_state : (a b : NvState) → a.page ≡ b.page → a.form ≡ b.form → a.generation ≡ b.generation → a.next ≡ b.next → a.nv ≡ b.nv → a.stands ≡ b.stands → a ≡ b
same_state a b page form generation next nv stands =
    let made = λ (p : Option ℕ) (f : NvForm) (g n : ℕ) (r : List ℕ) (s : Bool).
    let state : NvState = record { page = p; form = f; generation = g; next = n; nv = r; stands = s } in state in
    ap (λ (p : Option ℕ). made p a.form a.generation a.next a.nv a.stands) page
    ∙ ap (λ (f : NvForm). made b.page f a.generation a.next a.nv a.stands) form
    ∙ ap (λ (g : ℕ). made b.page b.form g a.next a.nv a.stands) generation
    ∙ ap (λ (n : ℕ). made b.page b.form b.generation n a.nv a.stands) next
    ∙ ap (λ (r : List ℕ). made b.page b.form b.generation b.next r a.stands) nv
    ∙ ap (λ (s : Bool). made b.page b.form b.generation b.next b.nv s) stands

same_form-is : (a b : NvForm) → same_form a b ≡ true → a ≡ b
same_form-is V1 V1 same = refl
same_form-is V1 V2 same = absurd (false≢true same)
same_form-is V2 V1 same = absurd (false≢true same)
same_form-is V2 V2 same = refl

-- the current page of a state that has room for a record of this form
pub record Room (was : NvState) (form : NvForm) : Type 0 where
  pub page : ℕ
  pub counts : was.page ≡ Some page
  pub within : page ≤ 1
  pub form_is : was.form ≡ form
  pub below : was.next < cells_in form

page_of_some : (found : Option ℕ) → is_some found ≡ true → IfSome found (λ page. page ≤ 1) → (page : ℕ) × (found ≡ Some page) × (page ≤ 1)
page_of_some None some within = absurd (false≢true some)
page_of_some (Some page) some within = (page, refl, within)

pub room_parts : (was : NvState) (form : NvForm) → has_room was form ≡ true → InRange was → Room was form
room_parts was form room ranges =
    let both = and_parts (is_some was.page && same_form was.form form) (nat_lt was.next (cells_in form)) room in
    let front = and_parts (is_some was.page) (same_form was.form form) both.0 in
    let found = page_of_some was.page front.0 ranges.page in
    record {
      page = found.0;
      counts = found.1;
      within = found.2;
      form_is = same_form-is was.form form front.1;
      below = search (rules, both.1);
    }

-- a cell that passes the test is erased
pub erased_of_test : (cell : List ℕ) → is_erased cell ≡ true → IsErased cell
erased_of_test [] erased = All-nil (λ b. b ≡ 255)
erased_of_test (x ∷ xs) erased = All-cons (λ b. b ≡ 255) x xs (eqb-true _ _ (and_parts _ _ erased).0) (erased_of_test xs (and_parts _ _ erased).1)
