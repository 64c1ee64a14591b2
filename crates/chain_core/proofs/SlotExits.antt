-- The exits of the check of a slot.
use Rattle.std.proofs.Common.{◌≡◌, ℕ, ◌+◌, ◌≤◌, Bool, true, false, Option, Some, None, List, Result, Ok, Err, length, take, ap, sym, subst}
use Rattle.std.proofs.Common.{◌∙◌}
use Rattle.std.specs.Prelude.{IsTrue, is_err, OnOk}
use Rattle.wire_core.specs.FirstFault.{first_fault}
use Rattle.board_core.specs.Counters.{Observed}
use Rattle.board_core.specs.Flash.{FlashMedium, FlashState, Reads, range}
use Rattle.board_core.specs.Hook.{HookState}
use Rattle.key_core.specs.Keyblocks.{Keyblock}
use Rattle.key_core.specs.declared.key.PackedKey.{PackedKey}
use Rattle.key_core.specs.declared.fault.KeyblockFault.{KeyblockFault}
use Rattle.preamble_core.specs.Firmware.{FwPreamble}
use Rattle.preamble_core.specs.declared.fault.FwPreambleFault.{FwPreambleFault}
use Rattle.rom_core.specs.Gbb.{Looks, area_bytes}
use Rattle.rom_core.specs.declared.area.Area.{Area}
use Rattle.rom_core.proofs.Ranges.{range-front, length-range}
use Rattle.rom_core.proofs.GbbReads.{looks_then}
use Rattle.chain_core.specs.Accepted.{Asked}
use Rattle.chain_core.specs.Tables.{preamble_table, body_table, combined_version}
use Rattle.chain_core.specs.Checking.{ChecksKeyblock, preamble_question}
use Rattle.chain_core.specs.Bodies.{store_failed, hook_failed, ChecksBody}
use Rattle.chain_core.specs.Slot.{slot_keyblock, slot_preamble, slot_ok, copy_of, slot_fault, asked_of_preamble, asked_of_body}
use Rattle.chain_core.specs.declared.fault.BodyFault.{BodyFault}
use Rattle.chain_core.specs.declared.fault.Failure.{Failure}
use Rattle.chain_core.specs.declared.slot_fault.SlotFault.TheVariants as slot_faults
use Rattle.chain_core.specs.declared.slot_fault.SlotOk.{SlotOk}
use Rattle.chain_core.proofs.Said.{asked_then, told_then}
use Rattle.chain_core.proofs.Slots.{at_preamble, at_body}
use Rattle.chain_core.proofs.SlotAnswers.{Good, KeyblockStep, Opened, Copied, copied_whole, PreambleStep, Ready, ready_parts, body_asked}
use Rattle.chain_core.proofs.SlotAnswers.{parts_of, no_keyblock_fault, preamble_found}

-- ---- the head was read

-- What the flash answered.
pub record HeadRead (area : Area) (buf : List ℕ) (old new : FlashState) : Type 0 where
  pub looks : Looks old new false
  pub filled : IsTrue old.medium.told → buf ≡ area_bytes area old.medium

on_ok : {E : Type 0} (P : Type 0) (result : Result Unit E) → is_err result ≡ false → OnOk result P → P
on_ok P (Ok x) ok p = p
on_ok P (Err e) ok p = absurd cc

pub head_read : {E : Type 0} (area : Area) (buf : List ℕ) (old new : FlashState) (result : Result Unit E) → Reads area.at buf old new result
    → is_err result ≡ false → length buf ≡ area.size → HeadRead area buf old new
head_read area buf old new result reads ok long = record {
  looks = record { counters = subst (Observed old.counters new.counters) ok reads.counters; medium = reads.medium };
  filled = λ told. on_ok (buf ≡ range old.medium.bytes area.at (length buf)) result ok (reads.filled told)
      ∙ ap (range old.medium.bytes area.at) long;
}

-- the read of the head failed
pub head_failed : {E : Type 0} (area : Area) (buf : List ℕ) (old new : FlashState) (result : Result Unit E)
    → Reads area.at buf old new result
    → is_err result ≡ true → Looks old new true
head_failed area buf old new result reads failed = record {
  counters = subst
      (Observed old.counters new.counters) failed reads.counters;
  medium = reads.medium;
}

-- ---- what the checks of keyblock and preamble answered

pub keyblock_answer : {E : Type 0} (bytes : List ℕ) (signer : PackedKey) (stored : ℕ) (rollback : Bool) (old new : HookState)
    (result answer : Result (Result Keyblock KeyblockFault) E)
    → ChecksKeyblock bytes signer stored rollback old new result → result ≡ answer
    → ChecksKeyblock bytes signer stored rollback old new answer
keyblock_answer bytes signer stored rollback old new result answer checks is = subst
    (ChecksKeyblock bytes signer stored rollback old new) is checks

-- the slot shows the preamble's fault
pub preamble_shown : (s : KeyblockStep) (fault : FwPreambleFault) → Opened s
    → (IsTrue s.hook'.told → first_fault preamble_table (preamble_question s.rest s.packed s.q.stored s.q.rollback s.hook') ≡ Some fault)
    → IsTrue s.hook.told → slot_fault s.q ≡ Some (slot_faults.Preamble fault)
preamble_shown s fault opened found told =
    at_preamble s.q fault (no_keyblock_fault s opened told)
    (preamble_found s (Some fault) opened (found (told_then s.hook s.hook' opened.good.asked told)))

-- ---- the body

-- A check of a slot that came to its body: the hook after it, the flash before the head was read and after the body, the
-- signature and the length that were asked for, and the body that was read.
pub record BodyStep : Type 0 where
  pub before : PreambleStep
  pub hook : HookState
  pub flash : FlashState
  pub flash' : FlashState
  pub signature : List ℕ
  pub len : ℕ
  pub out : List ℕ

-- What was done with the body, and how it ended.
pub record Ended (s : BodyStep) (answer : Result (Option BodyFault) Failure) : Type 0 where
  pub ready : Ready s.before
  pub checks : ChecksBody s.before.before.packed s.signature s.before.main s.len s.before.flash s.flash' s.before.hook s.hook s.out answer
  pub looks : Looks s.flash s.before.flash false
  pub inside : IsTrue s.flash.medium.told → s.before.main.at + s.before.main.size ≤ length s.flash.medium.bytes
  pub signature_is : s.signature ≡ s.before.preamble.common.body_signature
  pub len_is : s.len ≡ s.before.preamble.common.body_len

pub ended_of : (s : BodyStep) (result answer : Result (Option BodyFault) Failure) → Ended s result → result ≡ answer → Ended s answer
ended_of s result answer ended is = subst (Ended s) is ended

-- all calls on the flash and on the hook
pub ended_looks : (s : BodyStep) (answer : Result (Option BodyFault) Failure) → Ended s answer
    → Looks s.flash s.flash' (store_failed answer)
ended_looks s answer ended = looks_then s.flash s.before.flash s.flash' (store_failed answer) ended.looks ended.checks.looks

pub ended_asked : (s : BodyStep) (answer : Result (Option BodyFault) Failure) → Ended s answer
    → Asked s.before.before.hook s.hook (hook_failed answer)
ended_asked s answer ended =
    let k = s.before.before in
    asked_then k.hook s.before.hook s.hook (hook_failed answer)
    (asked_then k.hook k.hook' s.before.hook false ended.ready.opened.good.asked ended.ready.good.asked) ended.checks.asked

-- the table of the body in the flash that was asked for is that of the slot
ended_found : (s : BodyStep) (found : Option BodyFault) → Ended s (Ok found) → IsTrue s.flash.medium.told → IsTrue s.before.before.hook.told
    → first_fault body_table (asked_of_body s.before.before.q) ≡ found
ended_found s found ended told told' =
    let k = s.before.before in
    let main = s.before.main in
    let medium = ended.looks.medium in
    let long : length (area_bytes main s.before.flash.medium) ≡ main.size = subst
    (λ (m : FlashMedium). length (area_bytes main m) ≡ main.size) (sym medium)
    (length-range s.flash.medium.bytes main.at main.size (ended.inside told)) in
    ap (first_fault body_table) (sym (body_asked s.before s.signature s.len ended.ready long ended.signature_is ended.len_is))
    ∙ sym (ended.checks.fault (ap (λ (m : FlashMedium). m.told) medium ∙ told)
    (told_then k.hook' s.before.hook ended.ready.good.asked (told_then k.hook k.hook' ended.ready.opened.good.asked told')))

no_preamble_fault : (s : PreambleStep) → Ready s → IsTrue s.before.hook.told
    → first_fault preamble_table (asked_of_preamble s.before.q) ≡ None
no_preamble_fault s ready told = preamble_found s.before None ready.opened
    (ready.good.none (told_then s.before.hook s.before.hook' ready.opened.good.asked told))

-- the slot shows the body's fault
pub body_shown : (s : BodyStep) (fault : BodyFault) → Ended s (Ok (Some fault)) → IsTrue s.flash.medium.told
    → IsTrue s.before.before.hook.told
    → slot_fault s.before.before.q ≡ Some (slot_faults.Body fault)
body_shown s fault ended told told' =
    at_body s.before.before.q fault (no_keyblock_fault s.before.before ended.ready.opened told')
    (no_preamble_fault s.before ended.ready told') (ended_found s (Some fault) ended told told')

-- what is answered of a good slot
ok_is : (a b : SlotOk) → a.version ≡ b.version → a.body_len ≡ b.body_len → a.subkey ≡ b.subkey → a ≡ b
ok_is a b version body_len subkey = λ i. record { version = version i; body_len = body_len i; subkey = subkey i }

pub good_of : (s : BodyStep) (ok : SlotOk) → Ended s (Ok None)
    → ok.version ≡ combined_version s.before.before.packed.version s.before.preamble.common.version → ok.body_len ≡ s.len
    → Copied s.before.preamble.subkey ok.subkey
    → Good s.before.before.q s.flash s.before.before.hook s.out ok
good_of s ok ended version body_len subkey =
    let ready = ended.ready in
    let q = s.before.before.q in
    let main = s.before.main in
    let preamble = s.before.preamble in
    let is = ready_parts s.before ready in
    let len_is : s.len ≡ (slot_preamble q).common.body_len = ended.len_is ∙ ap (λ (p : FwPreamble). p.common.body_len) is in
    record {
      parts = parts_of s.before ready;
      found = λ told told'. record {
        keyblock = no_keyblock_fault s.before.before ready.opened told';
        preamble = no_preamble_fault s.before ready told';
        body = ended_found s None ended told told';
      };
      is = ok_is ok (slot_ok q)
          (version ∙ ap (λ (n : ℕ). combined_version n preamble.common.version)
          (ready.opened.copied.version ∙ ap (λ (k : Keyblock). k.data_key.version) ready.opened.good.parts)
          ∙ ap (λ (p : FwPreamble). combined_version (slot_keyblock q).data_key.version p.common.version) is)
          (body_len ∙ len_is)
          (copied_whole preamble.subkey ok.subkey subkey ∙ ap (λ (p : FwPreamble). copy_of p.subkey) is);
      many = ended.checks.many ∙ sym body_len;
      filled = λ told.
          ended.checks.filled (ap (λ (m : FlashMedium). m.told) ended.looks.medium ∙ told)
          ∙ range-front s.before.flash.medium.bytes main.at main.size s.len ended.checks.within
          ∙ ap (λ (n : ℕ). take n (area_bytes main s.before.flash.medium)) len_is
          ∙ ap (take (slot_preamble q).common.body_len) (sym ready.area);
    }
