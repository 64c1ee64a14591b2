-- A slot is verified.
use Rattle.std.proofs.Common.{◌≡◌, ℕ, ◌+◌, ◌≤◌, Bool, List, Option, Some, None, Result, Ok, Err, refl, sym, ap, subst, ◌∙◌}
use Rattle.std.specs.Prelude.{IsTrue, is_err, IfOk, IfErr, OnOk}
use Rattle.std.proofs.lemmas.Bool.{false≢true}
use Rattle.std.specs.Option.{option_map_or}
use Rattle.board_core.specs.Flash.{FlashState}
use Rattle.board_core.specs.Hook.{HookState}
use Rattle.board_core.specs.World.{World}
use Rattle.fwsel_core.specs.declared.slot.Slot.{Slot}
use Rattle.fwsel_core.specs.declared.slot.Slot.TheVariants.{A, B}
use Rattle.key_core.specs.declared.key.PackedKey.{PackedKey}
use Rattle.rom_core.specs.declared.area.Area.{Area}
use Rattle.rom_core.specs.declared.map.Map.{Map}
use Rattle.rom_core.specs.MapFits.{FitsFlash}
use Rattle.chain_core.specs.Slot.{SlotQuestion, slot_question, slot_fault, slot_ok, VerifiesSlot}
use Rattle.chain_core.specs.declared.fault.Failure.TheVariants.{Store, Hook}
use Rattle.chain_core.specs.declared.slot.SlotRequest.{SlotRequest}
use Rattle.chain_core.specs.declared.slot_fault.SlotFault.{SlotFault}
use Rattle.chain_core.specs.declared.slot_fault.SlotOk.{SlotOk}
use Rattle.boot_core.specs.declared.found.Found.{Found}
use Rattle.boot_core.specs.Slots.{vblock_of, main_of, root_of, stored_of, checks_versions, slot_asked, slot_answer, HoldsFirmware}
use Rattle.boot_core.specs.Steps.{ChecksSlot}
use Rattle.boot_core.proofs.Looking.{flash_failed, hook_failed, with_asked, looks_asked}

-- ---- the areas of a slot

pub vblock_inside : (slot : Slot) (size : ℕ) (map : Map) → FitsFlash size map → (vblock_of slot map).at + (vblock_of slot map).size ≤ size
vblock_inside A size map fits = fits.vblock_a.inside
vblock_inside B size map fits = fits.vblock_b.inside

pub vblock_small : (slot : Slot) (size : ℕ) (map : Map) → FitsFlash size map → (vblock_of slot map).size ≤ 65536
vblock_small A size map fits = fits.vblock_a_size
vblock_small B size map fits = fits.vblock_b_size

pub main_inside : (slot : Slot) (size : ℕ) (map : Map) → FitsFlash size map → (main_of slot map).at + (main_of slot map).size ≤ size
main_inside A size map fits = fits.main_a.inside
main_inside B size map fits = fits.main_b.inside

pub main_small : (slot : Slot) (size : ℕ) (map : Map) → FitsFlash size map → (main_of slot map).size ≤ 16777216
main_small A size map fits = fits.main_a_size
main_small B size map fits = fits.main_b_size

-- ---- the check of a slot

-- what an answer holds
abbrev unwrap_ok : Result SlotOk SlotFault → SlotOk → SlotOk
unwrap_ok (Ok ok) other = ok
unwrap_ok (Err fault) other = other

answer_is : (q : SlotQuestion) (answer : Result SlotOk SlotFault) → IfErr answer (λ (fault : SlotFault). slot_fault q ≡ Some fault) → OnOk answer (slot_fault q ≡ None) → IfOk answer (λ (ok : SlotOk). ok ≡ slot_ok q)
    → answer ≡ slot_answer q
unfolding slot_answer
answer_is q (Ok ok) fault none is = ap (λ (o : SlotOk). let r : Result SlotOk SlotFault = Ok o in r) is ∙ sym (ap (λ (f : Option SlotFault). option_map_or Err f (Ok (slot_ok q))) none)
answer_is q (Err f) fault none is = sym (ap (λ (o : Option SlotFault). option_map_or Err o (Ok (slot_ok q))) fault)

holds_of : (q : SlotQuestion) (flash flash' : FlashState) (hook hook' : HookState) (body : List ℕ) (answer : Result SlotOk SlotFault) → VerifiesSlot q flash flash' hook hook' body (Ok answer) → IsTrue flash.medium.told → IsTrue hook.told
    → IfOk answer (λ (ok : SlotOk). HoldsFirmware q ok.version ok.body_len body)
holds_of q flash flash' hook hook' body (Ok ok) h told told' = record {
  chain = h.chain told told';
  version_is = ap (λ (o : SlotOk). o.version) (h.ok told);
  no_older = h.no_older told told';
  body = h.body told;
  many = h.many;
}
holds_of q flash flash' hook hook' body (Err fault) h told told' = tt

-- a request of these
abbrev request_of : (vblock main : Area) (stored : ℕ) (rollback : Bool) → SlotRequest
request_of vblock main stored rollback = record { vblock = vblock; main = main; stored = stored; rollback = rollback }

-- it is asked with these
pub asked_is : (found : Found) (slot : Slot) (w : World) (root : PackedKey) (vblock main : Area) (stored : ℕ) (rollback : Bool)
    → root ≡ root_of found.gbb → vblock ≡ vblock_of slot found.map → main ≡ main_of slot found.map
    → stored ≡ stored_of found.firmware → rollback ≡ checks_versions found.gbb
    → slot_question root (request_of vblock main stored rollback) w.flash w.hook ≡ slot_asked found slot w
unfolding slot_asked
asked_is found slot w root vblock main stored rollback a b c d e =
    ap (λ (k : PackedKey). slot_question k (request_of vblock main stored rollback) w.flash w.hook) a
    ∙ ap (λ (r : SlotRequest). slot_question (root_of found.gbb) r w.flash w.hook)
    (ap (λ (v : Area). request_of v main stored rollback) b
    ∙ ap (λ (m : Area). request_of (vblock_of slot found.map) m stored rollback) c
    ∙ ap (λ (n : ℕ). request_of (vblock_of slot found.map) (main_of slot found.map) n rollback) d
    ∙ ap (request_of (vblock_of slot found.map) (main_of slot found.map) (stored_of found.firmware)) e)

pub checks_slot : (found : Found) (slot : Slot) (w : World) (flash : FlashState) (hook : HookState) (body : List ℕ) (q : SlotQuestion) (answer : Result SlotOk SlotFault) → q ≡ slot_asked found slot w
    → VerifiesSlot q w.flash flash w.hook hook body (Ok answer) → ChecksSlot found slot w (with_asked w flash hook) body (Ok answer)
checks_slot found slot w flash hook body q answer is h =
    let here : VerifiesSlot (slot_asked found slot w) w.flash flash w.hook hook body (Ok answer) = subst (λ (s : SlotQuestion). VerifiesSlot s w.flash flash w.hook hook body (Ok answer)) is h in
    record {
      looks = looks_asked w flash hook (Ok answer) here.looks.counters here.asked here.looks.medium refl refl refl;
      locks = refl;
      drives = record { disk = refl; stick = refl };
      none_done = tt;
      whole = λ told told'. answer_is (slot_asked found slot w) answer (here.fault told told') (here.none told told') (here.ok told);
      holds = holds_of (slot_asked found slot w) w.flash flash w.hook hook body answer here;
    }

pub store_failed : (found : Found) (slot : Slot) (w : World) (flash : FlashState) (hook : HookState) (body : List ℕ) (q : SlotQuestion) → VerifiesSlot q w.flash flash w.hook hook body (Err Store)
    → ChecksSlot found slot w (with_asked w flash hook) body (Err (flash_failed 0))
store_failed found slot w flash hook body q h = record {
  looks = looks_asked w flash hook (Err (flash_failed 0)) h.looks.counters h.asked h.looks.medium refl refl refl;
  locks = refl;
  drives = record { disk = refl; stick = refl };
  none_done = refl;
  whole = λ told told'. tt;
  holds = λ told told'. tt;
}

pub asking_failed : (found : Found) (slot : Slot) (w : World) (flash : FlashState) (hook : HookState) (body : List ℕ) (q : SlotQuestion) → VerifiesSlot q w.flash flash w.hook hook body (Err Hook)
    → ChecksSlot found slot w (with_asked w flash hook) body (Err (hook_failed 0))
asking_failed found slot w flash hook body q h = record {
  looks = looks_asked w flash hook (Err (hook_failed 0)) h.looks.counters h.asked h.looks.medium refl refl refl;
  locks = refl;
  drives = record { disk = refl; stick = refl };
  none_done = refl;
  whole = λ told told'. tt;
  holds = λ told told'. tt;
}

-- what a good slot holds
ok_by : (q : SlotQuestion) (ok : SlotOk) (o : Option SlotFault) → (let r : Result SlotOk SlotFault = Ok ok in r) ≡ option_map_or Err o (Ok (slot_ok q)) → ok ≡ slot_ok q
ok_by q ok None is = ap (λ (r : Result SlotOk SlotFault). unwrap_ok r ok) is
ok_by q ok (Some fault) is = absurd (false≢true (ap (λ (r : Result SlotOk SlotFault). is_err r) is))

pub ok_is : (q : SlotQuestion) (ok : SlotOk) → Ok ok ≡ slot_answer q → ok ≡ slot_ok q
unfolding slot_answer
ok_is q ok is = ok_by q ok (slot_fault q) is
