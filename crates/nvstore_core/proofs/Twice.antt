-- Two saves, one after the other.
use Rattle.std.proofs.Common.{◌≡◌, ℕ, ◌+◌, ◌*◌, ◌≤◌, Bool, true, false, List, take, drop, Option, Some, None, refl, sym, ap, subst, ◌∙◌, arith}
use Rattle.std.specs.Prelude.{IfSome, unwrap_or, if◌then◌else◌}
use Rattle.std.proofs.lemmas.Bool.{cond-true}
use Rattle.std.proofs.lemmas.List.{take-take}
use Rattle.board_core.specs.Flash.{range}
use Rattle.record_core.specs.declared.nv.NvForm.{NvForm}
use Rattle.record_core.specs.declared.nv.NvForm.TheVariants.{V1, V2}
use Rattle.record_core.specs.Nv.{form_of}
use Rattle.nvstore_core.specs.declared.state.NvState.{NvState}
use Rattle.nvstore_core.specs.Pages.{InRange, cell_place, has_room, other_page, next_generation, page_to_write, state_with_record}
use Rattle.nvstore_core.specs.Saving.{SameBut, KeepsWritten}
use Rattle.nvstore_core.proofs.Switching.{kept_at, written_inside}

place_more : (form : NvForm) (next : ℕ) → cell_place form next ≤ cell_place form (next + 1)
place_more V1 next = omega arith
place_more V2 next = omega arith

-- what was written in a page, and no less after a second save
fewer_at : (area size more : ℕ) (page : Option ℕ) (a b c : List ℕ) → size ≤ more
    → IfSome page (λ (p : ℕ). range b (area + 4096 * p) size ≡ range a (area + 4096 * p) size)
    → IfSome page (λ (p : ℕ). range c (area + 4096 * p) more ≡ range b (area + 4096 * p) more)
    → IfSome page (λ (p : ℕ). range c (area + 4096 * p) size ≡ range a (area + 4096 * p) size)
fewer_at area size more None a b c few h k = tt
fewer_at area size more (Some p) a b c few h k =
    sym (take-take size more (drop (area + 4096 * p) c) few)
    ∙ ap (take size) k
    ∙ take-take size more (drop (area + 4096 * p) b) few
    ∙ h

-- a page with one record has room for another of its form
room_in_fresh : (form : NvForm) (page generation : ℕ) (r : List ℕ)
    → has_room (record { page = Some page; form = form; generation = generation; next = 1; nv = r; stands = true }) form ≡ true
room_in_fresh V1 page generation r = refl
room_in_fresh V2 page generation r = refl

-- a second save of a record of the same form keeps what the first one kept
twice_by : (room : Bool) (area : ℕ) (was next : NvState) (r s : List ℕ) (a b c : List ℕ) → form_of s ≡ form_of r
    → next ≡ (if room then record was { next = was.next + 1; nv = r; stands = true }
    else record { page = Some (other_page was.page); form = form_of r; generation = next_generation was; next = 1; nv = r; stands = true })
    → InRange was → KeepsWritten area was a b → KeepsWritten area next b c → SameBut (area + 4096 * page_to_write next s) 4096 b c → KeepsWritten area was a c
twice_by true area was next r s a b c alike is ranges h k same =
    fewer_at area (cell_place was.form was.next) (cell_place was.form (was.next + 1)) was.page a b c (place_more was.form was.next) h
    (subst (λ (n : NvState). KeepsWritten area n b c) is k)
twice_by false area was next r s a b c alike is ranges h k same =
    let size = cell_place was.form was.next in
    let room : has_room next (form_of s) ≡ true =
    ap (λ (n : NvState). has_room n (form_of s)) is
    ∙ ap (has_room (record { page = Some (other_page was.page); form = form_of r; generation = next_generation was; next = 1; nv = r; stands = true })) alike
    ∙ room_in_fresh (form_of r) (other_page was.page) (next_generation was) r in
    let page : page_to_write next s ≡ other_page was.page = cond-true (has_room next (form_of s)) _ _ room ∙ ap (λ (n : NvState). unwrap_or n.page 0) is in
    fewer_at area size size was.page a b c (omega arith) h
    (kept_at area size was.page b c ranges.page (written_inside was.form was.next ranges.next) (subst (λ (p : ℕ). SameBut (area + 4096 * p) 4096 b c) page same))

pub kept_twice : (area : ℕ) (was : NvState) (r s : List ℕ) (a b c : List ℕ) → form_of s ≡ form_of r → InRange was → KeepsWritten area was a b
    → KeepsWritten area (state_with_record was r) b c → SameBut (area + 4096 * page_to_write (state_with_record was r) s) 4096 b c → KeepsWritten area was a c
unfolding state_with_record
kept_twice area was r s a b c alike ranges h k same = twice_by (has_room was (form_of r)) area was (state_with_record was r) r s a b c alike refl ranges h k same
