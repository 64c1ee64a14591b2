-- What the checks of the parts say of a slot, and answers of its check.
use Rattle.std.proofs.Common.{◌≡◌, ℕ, ◌≤◌, Bool, false, Option, Some, None, List, Result, Ok, Err, length, take, drop, refl, ap, sym, subst}
use Rattle.std.proofs.Common.{◌∙◌}
use Rattle.std.specs.Prelude.{IsTrue, IsSome, is_some}
use Rattle.std.proofs.lemmas.Bool.{false≢true}
use Rattle.wire_core.specs.FirstFault.{first_fault}
use Rattle.board_core.specs.Flash.{FlashState}
use Rattle.board_core.specs.Hook.{HookState}
use Rattle.board_core.specs.declared.hook_row.HookRow.{HookRow}
use Rattle.key_core.specs.Algorithms.{padded}
use Rattle.key_core.specs.Parts.{Key}
use Rattle.key_core.specs.Keyblocks.{Keyblock, keyblock_in, KeyblockFits, KeyblockIsSigned}
use Rattle.key_core.specs.declared.key.PackedKey.{PackedKey}
use Rattle.key_core.specs.declared.keyblock.Seal.TheVariants as seals
use Rattle.key_core.specs.declared.fault.KeyblockFault.{KeyblockFault}
use Rattle.preamble_core.specs.Common.{body_signature_of}
use Rattle.preamble_core.specs.declared.common.PreambleKind.TheVariants as kinds
use Rattle.preamble_core.specs.Firmware.{FwPreamble, firmware_preamble_in, FwPreambleFits, FwPreambleIsSigned}
use Rattle.preamble_core.specs.declared.fault.FwPreambleFault.{FwPreambleFault}
use Rattle.rom_core.specs.Gbb.{Looks, area_bytes}
use Rattle.rom_core.specs.declared.area.Area.{Area}
use Rattle.chain_core.specs.Accepted.{Asked, key_of}
use Rattle.chain_core.specs.Tables.{KeyblockQuestion, keyblock_table, keyblock_front, PreambleQuestion, preamble_table, firmware_preamble}
use Rattle.chain_core.specs.Tables.{BodyQuestion}
use Rattle.chain_core.specs.Checking.{keyblock_question, view_question, ChecksKeyblock, preamble_question, ChecksPreamble}
use Rattle.chain_core.specs.Bodies.{is_store, is_hook, body_question}
use Rattle.chain_core.specs.Slot.{SlotQuestion, slot_keyblock, slot_preamble, slot_body, slot_ok, slot_front, slot_fault, copy_of}
use Rattle.chain_core.specs.Slot.{asked_of_keyblock, asked_of_preamble, asked_of_body, FirmwareChain, VerifiesSlot}
use Rattle.chain_core.specs.declared.fault.Failure.{Failure}
use Rattle.chain_core.specs.declared.slot_fault.SlotFault.{SlotFault}
use Rattle.chain_core.specs.declared.slot_fault.SlotOk.{SlotOk}
use Rattle.chain_core.proofs.Keys.{Known, data_key_known, data_key_range, known_fits}
use Rattle.chain_core.proofs.PreambleAnswers.{preamble_answer}
use Rattle.chain_core.proofs.Slots.{NoFaults, Parts, chain_of, no_older, nowhere}

-- ---- answers

-- where none of the first lines holds, nothing is said of a hook that is not asked
pub front_absurd : {Fault : Type 0} (front : Option Fault) (P : Type 0) → front ≡ None → IsSome front → P
front_absurd front P none some = absurd (false≢true (ap is_some (sym none) ∙ some))

-- the same, of a slot that begins with these bytes
abbrev pub with_head : SlotQuestion → List ℕ → SlotQuestion
with_head q head = record q { vblock = head }

pub slot_faulted : (q : SlotQuestion) (head : List ℕ) (flash flash' : FlashState) (hook hook' : HookState) (out : List ℕ)
    (fault : SlotFault) → Looks flash flash' false → Asked hook hook' false
    → (IsTrue flash.medium.told → head ≡ q.vblock) → (IsSome (slot_front (with_head q head)) → hook' ≡ hook)
    → (IsTrue flash.medium.told → IsTrue hook.told → slot_fault (with_head q head) ≡ Some fault)
    → VerifiesSlot q flash flash' hook hook' out (Ok (Err fault))
slot_faulted q head flash flash' hook hook' out fault looks asked filled unasked found = record {
  looks = looks;
  asked = asked;
  unasked = λ told. subst (λ (h : List ℕ). IsSome (slot_front (with_head q h)) → hook' ≡ hook) (filled told) unasked;
  failed = λ told. tt;
  fault = λ told told'. subst (λ (h : List ℕ). slot_fault (with_head q h) ≡ Some fault) (filled told) (found told told');
  none = λ told told'. tt;
  ok = λ told. tt;
  chain = λ told told'. tt;
  no_older = λ told told'. tt;
  many = tt;
  body = λ told. tt;
}

pub slot_failed : (q : SlotQuestion) (head : List ℕ) (flash flash' : FlashState) (hook hook' : HookState) (out : List ℕ) (failure : Failure)
    → Looks flash flash' (is_store failure) → Asked hook hook' (is_hook failure)
    → (IsTrue flash.medium.told → head ≡ q.vblock) → (IsSome (slot_front (with_head q head)) → hook' ≡ hook)
    → (IsTrue (is_hook failure) → slot_front (with_head q head) ≡ None)
    → VerifiesSlot q flash flash' hook hook' out (Err failure)
slot_failed q head flash flash' hook hook' out failure looks asked filled unasked none = record {
  looks = looks;
  asked = asked;
  unasked = λ told. subst (λ (h : List ℕ). IsSome (slot_front (with_head q h)) → hook' ≡ hook) (filled told) unasked;
  failed = λ told. subst (λ (h : List ℕ). IsTrue (is_hook failure) → slot_front (with_head q h) ≡ None) (filled told) none;
  fault = λ told told'. tt;
  none = λ told told'. tt;
  ok = λ told. tt;
  chain = λ told told'. tt;
  no_older = λ told told'. tt;
  many = tt;
  body = λ told. tt;
}

-- What is known of a good slot, by the bytes that were read.
pub record Good (q : SlotQuestion) (flash : FlashState) (hook : HookState) (out : List ℕ) (ok : SlotOk) : Type 0 where
  pub parts : Parts q
  pub found : IsTrue flash.medium.told → IsTrue hook.told → NoFaults q
  pub is : ok ≡ slot_ok q
  pub many : length out ≡ ok.body_len
  pub filled : IsTrue flash.medium.told → out ≡ slot_body q

not_older : (q : SlotQuestion) (ok : SlotOk) → ok ≡ slot_ok q → NoFaults q → IsTrue q.rollback → q.stored ≤ ok.version
not_older q ok is found checked = subst (λ (o : SlotOk). q.stored ≤ o.version) (sym is)
    (no_older firmware_preamble (asked_of_preamble q) found.preamble checked)

pub slot_good : (q : SlotQuestion) (head : List ℕ) (flash flash' : FlashState) (hook hook' : HookState) (out : List ℕ) (ok : SlotOk)
    → Looks flash flash' false → Asked hook hook' false
    → (IsTrue flash.medium.told → head ≡ q.vblock) → slot_front (with_head q head) ≡ None → Good (with_head q head) flash hook out ok
    → VerifiesSlot q flash flash' hook hook' out (Ok (Ok ok))
slot_good q head flash flash' hook hook' out ok looks asked filled front good =
    record {
      looks = looks;
      asked = asked;
      unasked = λ told. subst (λ (h : List ℕ). IsSome (slot_front (with_head q h)) → hook' ≡ hook) (filled told) (front_absurd _ _ front);
      failed = λ told. tt;
      fault = λ told told'. tt;
      none = λ told told'.
          let found = good.found told told' in
          subst (λ (h : List ℕ). slot_fault (with_head q h) ≡ None) (filled told)
          (nowhere (with_head q head) found.keyblock found.preamble found.body);
      ok = λ told. subst (λ (h : List ℕ). ok ≡ slot_ok (with_head q h)) (filled told) good.is;
      chain = λ told told'. subst (λ (h : List ℕ). FirmwareChain (with_head q h)) (filled told)
          (chain_of (with_head q head) good.parts (good.found told told'));
      no_older = λ told told'. subst (λ (h : List ℕ). IsTrue (with_head q h).rollback → (with_head q h).stored ≤ ok.version) (filled told)
          (not_older (with_head q head) ok good.is (good.found told told'));
      many = good.many;
      body = λ told. subst (λ (h : List ℕ). out ≡ slot_body (with_head q h)) (filled told) (good.filled told);
    }

-- ---- the keyblock

pub record GoodKeyblock (bytes : List ℕ) (signer : PackedKey) (stored : ℕ) (rollback : Bool) (old new : HookState)
    (keyblock : Keyblock) : Type 0 where
  pub asked : Asked old new false
  pub none : IsTrue old.told → first_fault keyblock_table (keyblock_question bytes signer stored rollback old) ≡ None
  pub front : first_fault keyblock_front (keyblock_question bytes signer stored rollback old) ≡ None
  pub parts : keyblock ≡ keyblock_in seals.Signature bytes
  pub fits : KeyblockFits seals.Signature bytes keyblock
  pub signed : KeyblockIsSigned keyblock
  pub copy : length (key_of signer).bytes ≡ signer.size
  pub known : Known keyblock.data_key.algorithm (length keyblock.data_key.bytes)
  pub range : keyblock.data_key.version ≤ 65535

pub good_keyblock : {E : Type 0} (bytes : List ℕ) (signer : PackedKey) (stored : ℕ) (rollback : Bool) (old new : HookState)
    (result : Result (Result Keyblock KeyblockFault) E) (answer : Result Keyblock KeyblockFault) (keyblock : Keyblock)
    → ChecksKeyblock bytes signer stored rollback old new result → result ≡ Ok answer → answer ≡ Ok keyblock
    → GoodKeyblock bytes signer stored rollback old new keyblock
good_keyblock {E} bytes signer stored rollback old new result answer keyblock checks is is' =
    let found : ChecksKeyblock {E = E} bytes signer stored rollback old new (Ok (Ok keyblock)) =
    subst (λ (a : Result Keyblock KeyblockFault). ChecksKeyblock {E = E} bytes signer stored rollback old new (Ok a)) is'
    (subst (λ (r : Result (Result Keyblock KeyblockFault) E). ChecksKeyblock bytes signer stored rollback old new r) is checks) in
    record {
      asked = found.asked;
      none = found.none;
      front = found.front;
      parts = found.parts;
      fits = found.fits;
      signed = found.signed;
      copy = found.copy;
      known = data_key_known (view_question keyblock.data_key stored rollback) found.key;
      range = data_key_range (view_question keyblock.data_key stored rollback) found.key;
    }

-- ---- the preamble

pub record GoodPreamble (bytes : List ℕ) (key : PackedKey) (stored : ℕ) (rollback : Bool) (old new : HookState)
    (preamble : FwPreamble) : Type 0 where
  pub asked : Asked old new false
  pub none : IsTrue old.told → first_fault preamble_table (preamble_question bytes key stored rollback old) ≡ None
  pub parts : preamble ≡ firmware_preamble_in bytes
  pub fits : FwPreambleFits bytes preamble
  pub signed : FwPreambleIsSigned preamble

pub good_preamble : {E : Type 0} (bytes : List ℕ) (key : PackedKey) (stored : ℕ) (rollback : Bool) (old new : HookState)
    (result : Result (Result FwPreamble FwPreambleFault) E) (answer : Result FwPreamble FwPreambleFault) (preamble : FwPreamble)
    → ChecksPreamble firmware_preamble bytes key stored rollback old new result → result ≡ Ok answer → answer ≡ Ok preamble
    → GoodPreamble bytes key stored rollback old new preamble
good_preamble {E} bytes key stored rollback old new result answer preamble checks is is' =
    let found : ChecksPreamble {E = E} firmware_preamble bytes key stored rollback old new (Ok (Ok preamble)) =
    preamble_answer firmware_preamble bytes key stored rollback old new result (Ok (Ok preamble)) checks (is ∙ ap Ok is') in
    record {
      asked = found.asked;
      none = found.none;
      parts = found.parts;
      fits = found.fits;
      signed = found.signed;
    }

-- ---- what is asked of the parts is asked of the slot

-- a copy of the data key
pub record Copied (key : Key) (packed : PackedKey) : Type 0 where
  pub algorithm : packed.algorithm ≡ key.algorithm
  pub version : packed.version ≡ key.version
  pub size : packed.size ≡ length key.bytes
  pub bytes : packed.bytes ≡ padded 2056 key.bytes
  pub front : length key.bytes ≤ 2056 → take (length key.bytes) packed.bytes ≡ key.bytes

pub copied_key : (key : Key) (packed : PackedKey) → Copied key packed → length key.bytes ≤ 2056 → key_of packed ≡ key
copied_key key packed copied fits = λ i. record {
  algorithm = copied.algorithm i;
  version = copied.version i;
  bytes = let same : take packed.size packed.bytes ≡ key.bytes = ap (λ (n : ℕ). take n packed.bytes) copied.size
      ∙ copied.front fits in same i;
}

pub copied_whole : (key : Key) (packed : PackedKey) → Copied key packed → packed ≡ copy_of key
copied_whole key packed copied = λ i. record {
  algorithm = copied.algorithm i;
  version = copied.version i;
  size = copied.size i;
  bytes = copied.bytes i;
}

pub same_preamble : (a b : PreambleQuestion) → a.bytes ≡ b.bytes → a.rows ≡ b.rows → a.key ≡ b.key → a.stored ≡ b.stored
    → a.rollback ≡ b.rollback → a ≡ b
same_preamble a b bytes rows key stored rollback = λ i. record { bytes = bytes i; rows = rows i; key = key i; stored = stored i; rollback = rollback i }

-- A check of a slot whose keyblock is good: what is asked, the hook before it was asked for the keyblock and after, the
-- keyblock, its data key as a copy, and the bytes behind it.
pub record KeyblockStep : Type 0 where
  pub q : SlotQuestion
  pub hook : HookState
  pub hook' : HookState
  pub keyblock : Keyblock
  pub packed : PackedKey
  pub rest : List ℕ

abbrev pub keyblock_step : (q : SlotQuestion) (hook hook' : HookState) (keyblock : Keyblock) (packed : PackedKey) (rest : List ℕ)
    → KeyblockStep
keyblock_step q hook hook' keyblock packed rest = record { q = q; hook = hook; hook' = hook'; keyblock = keyblock; packed = packed; rest = rest }

-- What is known then, of the bytes that were read.
pub record Opened (s : KeyblockStep) : Type 0 where
  pub good : GoodKeyblock s.q.vblock s.q.root s.q.stored s.q.rollback s.hook s.hook' s.keyblock
  pub rows : s.q.rows ≡ s.hook.rows
  pub copied : Copied s.keyblock.data_key s.packed
  pub behind : s.rest ≡ drop s.keyblock.size s.q.vblock

opened_key : (s : KeyblockStep) → Opened s → key_of s.packed ≡ (slot_keyblock s.q).data_key
opened_key s opened = copied_key s.keyblock.data_key s.packed opened.copied (known_fits _ _ opened.good.known)
    ∙ ap (λ (k : Keyblock). k.data_key) opened.good.parts

opened_rest : (s : KeyblockStep) → Opened s → s.rest ≡ drop (slot_keyblock s.q).size s.q.vblock
opened_rest s opened = opened.behind ∙ ap (λ (k : Keyblock). drop k.size s.q.vblock) opened.good.parts

-- keyblock and preamble show what the calls found
pub no_keyblock_fault : (s : KeyblockStep) → Opened s → IsTrue s.hook.told → first_fault keyblock_table (asked_of_keyblock s.q) ≡ None
no_keyblock_fault s opened told =
    ap (λ (rows : List HookRow). let asked : KeyblockQuestion = record { bytes = s.q.vblock; rows = rows; signer = s.q.root; stored = s.q.stored; rollback = s.q.rollback } in first_fault keyblock_table asked) opened.rows
    ∙ opened.good.none told

preamble_asked : (s : KeyblockStep) → Opened s → preamble_question s.rest s.packed s.q.stored s.q.rollback s.hook' ≡ asked_of_preamble s.q
preamble_asked s opened =
    same_preamble (preamble_question s.rest s.packed s.q.stored s.q.rollback s.hook') (asked_of_preamble s.q)
    (opened_rest s opened) (opened.good.asked.rows ∙ sym opened.rows) (opened_key s opened) refl refl

pub preamble_found : (s : KeyblockStep) (found : Option FwPreambleFault) → Opened s
    → first_fault preamble_table (preamble_question s.rest s.packed s.q.stored s.q.rollback s.hook') ≡ found
    → first_fault preamble_table (asked_of_preamble s.q) ≡ found
preamble_found s found opened e = ap (first_fault preamble_table) (sym (preamble_asked s opened)) ∙ e

-- The same check with a good preamble: the hook after it, the preamble, the area of the body, and the flash after the head
-- was read.
pub record PreambleStep : Type 0 where
  pub before : KeyblockStep
  pub hook : HookState
  pub preamble : FwPreamble
  pub main : Area
  pub flash : FlashState

-- What is known then.
pub record Ready (s : PreambleStep) : Type 0 where
  pub opened : Opened s.before
  pub good : GoodPreamble s.before.rest s.before.packed s.before.q.stored s.before.q.rollback s.before.hook' s.hook s.preamble
  pub area : s.before.q.main ≡ area_bytes s.main s.flash.medium

pub ready_parts : (s : PreambleStep) → Ready s → s.preamble ≡ slot_preamble s.before.q
ready_parts s ready = ready.good.parts ∙ ap firmware_preamble_in (opened_rest s.before ready.opened)

pub same_body : (a b : BodyQuestion) → a.bytes ≡ b.bytes → a.most ≡ b.most → a.len ≡ b.len → a.key ≡ b.key → a.signature ≡ b.signature
    → a.signature_size ≡ b.signature_size → a.rows ≡ b.rows → a ≡ b
same_body a b bytes most len key signature size rows = λ i. record { bytes = bytes i; most = most i; len = len i; key = key i; signature = signature i; signature_size = size i; rows = rows i }

-- what is asked of the body is asked of the slot
pub body_asked : (s : PreambleStep) (signature : List ℕ) (len : ℕ) → Ready s → length (area_bytes s.main s.flash.medium) ≡ s.main.size
    → signature ≡ s.preamble.common.body_signature → len ≡ s.preamble.common.body_len
    → body_question s.before.packed signature s.main len s.flash s.hook ≡ asked_of_body s.before.q
body_asked s signature len ready long is_signature is_len =
    let parts = ready_parts s ready in
    same_body (body_question s.before.packed signature s.main len s.flash s.hook) (asked_of_body s.before.q)
    (sym ready.area)
    (sym long ∙ ap (λ (xs : List ℕ). length xs) (sym ready.area))
    (is_len ∙ ap (λ (p : FwPreamble). p.common.body_len) parts)
    (opened_key s.before ready.opened)
    (is_signature ∙ ap (λ (p : FwPreamble). p.common.body_signature) parts)
    (ap (λ (xs : List ℕ). length xs) is_signature ∙ ready.good.fits.common.body_signature_length ∙ ap
    (λ (xs : List ℕ). (body_signature_of kinds.Firmware xs).size) (opened_rest s.before ready.opened))
    (ready.good.asked.rows ∙ ready.opened.good.asked.rows ∙ sym ready.opened.rows)

-- the parts of a slot
pub parts_of : (s : PreambleStep) → Ready s → Parts s.before.q
parts_of s ready =
    let opened = ready.opened in
    let keyblock_is = opened.good.parts in
    let preamble_is = ready_parts s ready in
    record {
      root = opened.good.copy;
      keyblock_fits = subst (KeyblockFits seals.Signature s.before.q.vblock) keyblock_is opened.good.fits;
      keyblock_signed = subst KeyblockIsSigned keyblock_is opened.good.signed;
      key = subst (λ (k : Keyblock). Known k.data_key.algorithm (length k.data_key.bytes)) keyblock_is opened.good.known;
      preamble_fits = subst (FwPreambleFits (asked_of_preamble s.before.q).bytes) preamble_is
          (subst (λ (b : List ℕ). FwPreambleFits b s.preamble) (opened_rest s.before opened) ready.good.fits);
      preamble_signed = subst FwPreambleIsSigned preamble_is ready.good.signed;
    }
