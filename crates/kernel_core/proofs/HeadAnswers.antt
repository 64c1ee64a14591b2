-- What the checks of keyblock and preamble say of a head, and answers of its check.
use Rattle.std.proofs.Common.{◌≡◌, ℕ, ◌+◌, ◌-◌, ◌≤◌, ◌<◌, Bool, true, false, cond, Option, Some, None, List, Result, Ok, Err, length, drop}
use Rattle.std.proofs.Common.{refl, ap, sym, subst, ◌∙◌, arith}
use Rattle.std.specs.Prelude.{IsTrue, ◌&&◌, slice_range}
use Rattle.std.proofs.lemmas.List.{length-take, length-drop}
use Rattle.wire_core.specs.FirstFault.{first_fault}
use Rattle.board_core.specs.Hook.{HookState}
use Rattle.board_core.specs.declared.device.Failed.{Failed}
use Rattle.key_core.specs.Parts.{Key}
use Rattle.key_core.specs.Keyblocks.{Keyblock, keyblock_in, data_key_of, KeyblockFits, KeyblockIsSigned}
use Rattle.key_core.specs.Keyblocks.{size_of as keyblock_size_of}
use Rattle.key_core.specs.declared.key.PackedKey.{PackedKey}
use Rattle.key_core.specs.declared.keyblock.Seal.TheVariants as seals
use Rattle.key_core.specs.declared.fault.KeyblockFault.{KeyblockFault}
use Rattle.preamble_core.specs.Kernel.{KernelPreamble, kernel_lines, kernel_preamble_in, KernelPreambleFits, KernelPreambleIsSigned}
use Rattle.preamble_core.specs.declared.fault.KernelPreambleFault.{KernelPreambleFault}
use Rattle.chain_core.specs.Accepted.{Asked, AsksBehind, key_of}
use Rattle.preamble_core.specs.Lines.{lifted}
use Rattle.chain_core.specs.Tables.{keyblock_table, PreambleQuestion, combined_version}
use Rattle.chain_core.specs.Checking.{preamble_question, ChecksPreamble}
use Rattle.chain_core.proofs.Keys.{Known, key_most}
use Rattle.preamble_core.proofs.Lifted.{lifted-back, append-none}
use Rattle.chain_core.proofs.Said.{behind_all, asked_then, told_then}
use Rattle.chain_core.proofs.SlotAnswers.{Copied, copied_key, same_preamble}
use Rattle.chain_core.proofs.Slots.{accepts_keyblock, accepts_preamble}
use Rattle.kernel_core.specs.Rules.{hash_is_enough, versions_are_checked}
use Rattle.kernel_core.specs.KernelTables.{KernelKeyblockQuestion, signed_question, flag_lines, flag_question, signed_table, hashed_table}
use Rattle.kernel_core.specs.KernelTables.{is_unsigned, kernel_keyblock_fault, kernel_keyblock_front, kernel_preamble}
use Rattle.kernel_core.specs.KernelTables.{kernel_preamble_table}
use Rattle.kernel_core.specs.Heads.{head_key, behind_keyblock, head_preamble, IsUsableKey, IsHeadOf, HeadQuestion, asked_of_keyblock}
use Rattle.kernel_core.specs.Heads.{asked_of_preamble, first_of, head_fault, head_ok, KeyblockAccepted}
use Rattle.kernel_core.specs.HeadChecks.{KernelKeyblockRead, ReadBySignature, ChecksKernelKeyblock, kernel_keyblock_question, head_question}
use Rattle.kernel_core.specs.HeadChecks.{VerifiesHead}
use Rattle.kernel_core.specs.declared.rules.KernelRules.{KernelRules}
use Rattle.kernel_core.specs.declared.head_fault.HeadFault.{HeadFault}
use Rattle.kernel_core.specs.declared.head_fault.HeadFault.TheVariants as head_faults
use Rattle.kernel_core.specs.declared.head_fault.HeadOk.{HeadOk}

-- ---- answers

pub head_faulted : {E : Type 0} (q : HeadQuestion) (old new : HookState) (fault : HeadFault) → Asked old new false
    → AsksBehind {Answer = Result HeadOk HeadFault} {E = E} (kernel_keyblock_front (asked_of_keyblock q)) old new (Ok (Err fault))
    → (IsTrue old.told → head_fault q ≡ Some fault) → VerifiesHead {E = E} q old new (Ok (Err fault))
head_faulted q old new fault asked behind found =
    record { asked = asked; behind = behind; fault = found; none = λ told. tt; ok = tt; head = tt; chain = λ told. tt }

pub head_failed : {E : Type 0} (q : HeadQuestion) (old new : HookState) (e : E) → Asked old new true
    → kernel_keyblock_front (asked_of_keyblock q) ≡ None → VerifiesHead {E = E} q old new (Err e)
head_failed q old new e asked front =
    record {
      asked = asked;
      behind = behind_all _ old new
          (Err e) front;
      fault = λ told. tt;
      none = λ told. tt;
      ok = tt;
      head = tt;
      chain = λ told. tt;
    }

-- ---- the keyblock

pub keyblock_shown : (q : HeadQuestion) (fault : KeyblockFault) → kernel_keyblock_fault (asked_of_keyblock q) ≡ Some fault
    → head_fault q ≡ Some (head_faults.Keyblock fault)
keyblock_shown q fault e = ap (λ (o : Option KeyblockFault). first_of o (first_fault kernel_preamble_table (asked_of_preamble q))) e

pub keyblock_answer : {E : Type 0} (vblock : List ℕ) (key : PackedKey) (rules : KernelRules) (old new : HookState)
    (result answer : Result (Result Keyblock KeyblockFault) E)
    → ChecksKernelKeyblock vblock key rules old new result → result ≡ answer → ChecksKernelKeyblock vblock key rules old new answer
keyblock_answer vblock key rules old new result answer checks is = subst (ChecksKernelKeyblock vblock key rules old new) is checks

pub record GoodKeyblock (vblock : List ℕ) (key : PackedKey) (rules : KernelRules) (old new : HookState) (keyblock : Keyblock) : Type 0 where
  pub asked : Asked old new false
  pub none : IsTrue old.told → kernel_keyblock_fault (kernel_keyblock_question vblock key rules old) ≡ None
  pub front : kernel_keyblock_front (kernel_keyblock_question vblock key rules old) ≡ None
  pub read : KernelKeyblockRead vblock key rules keyblock

pub good_keyblock : {E : Type 0} (vblock : List ℕ) (key : PackedKey) (rules : KernelRules) (old new : HookState)
    (result : Result (Result Keyblock KeyblockFault) E) (answer : Result Keyblock KeyblockFault) (keyblock : Keyblock)
    → ChecksKernelKeyblock vblock key rules old new result → result ≡ Ok answer → answer ≡ Ok keyblock
    → GoodKeyblock vblock key rules old new keyblock
good_keyblock vblock key rules old new result answer keyblock checks is is' =
    let found = keyblock_answer vblock key rules old new result (Ok (Ok keyblock)) checks (is ∙ ap Ok is') in
    record { asked = found.asked; none = found.none; front = found.front; read = found.read }

pub usable_fits : (key : Key) → IsUsableKey key → length key.bytes ≤ 2056
usable_fits key usable = let most = key_most key.algorithm in omega (arith, most, usable.size)

-- ---- the preamble

-- A check of a head whose keyblock is good: its bytes, the key that is to have signed it, what it is held to, and whether
-- versions are checked; the hook before it was asked for the keyblock and after; the keyblock, its data key as a copy, and
-- the bytes behind it.
pub record HeadStep : Type 0 where
  pub vblock : List ℕ
  pub key : PackedKey
  pub rules : KernelRules
  pub checked : Bool
  pub hook : HookState
  pub hook' : HookState
  pub keyblock : Keyblock
  pub packed : PackedKey
  pub rest : List ℕ

-- What is known then.
pub record Opened (s : HeadStep) : Type 0 where
  pub good : GoodKeyblock s.vblock s.key s.rules s.hook s.hook' s.keyblock
  pub checked : s.checked ≡ versions_are_checked s.rules
  pub copied : Copied s.keyblock.data_key s.packed
  pub behind : s.rest ≡ drop s.keyblock.size s.vblock

abbrev asked_head : HeadStep → HeadQuestion
asked_head s = head_question s.vblock s.key s.rules s.hook

opened_key : (s : HeadStep) → Opened s → key_of s.packed ≡ head_key s.vblock
opened_key s opened = copied_key s.keyblock.data_key s.packed opened.copied (usable_fits s.keyblock.data_key opened.good.read.usable)
    ∙ opened.good.read.data_key

opened_rest : (s : HeadStep) → Opened s → s.rest ≡ behind_keyblock s.vblock
opened_rest s opened = opened.behind ∙ ap (λ (n : ℕ). drop n s.vblock) opened.good.read.size

-- what is asked of the preamble is asked of the head
preamble_asked : (s : HeadStep) → Opened s → preamble_question s.rest s.packed s.rules.stored s.checked s.hook' ≡ asked_of_preamble
    (asked_head s)
preamble_asked s opened =
    same_preamble (preamble_question s.rest s.packed s.rules.stored s.checked s.hook') (asked_of_preamble (asked_head s))
    (opened_rest s opened) opened.good.asked.rows (opened_key s opened) refl opened.checked

pub preamble_shown : {E : Type 0} (s : HeadStep) (new : HookState) (fault : KernelPreambleFault) → Opened s
    → ChecksPreamble {E = E} kernel_preamble s.rest s.packed s.rules.stored s.checked s.hook' new (Ok (Err fault))
    → VerifiesHead {E = E} (asked_head s) s.hook new (Ok (Err (head_faults.Preamble fault)))
preamble_shown s new fault opened found =
    head_faulted (asked_head s) s.hook new (head_faults.Preamble fault) (asked_then s.hook s.hook' new false opened.good.asked found.asked)
    (behind_all _ _ _ _ opened.good.front) (λ told.
    ap (λ (o : Option KeyblockFault). first_of o (first_fault kernel_preamble_table (asked_of_preamble (asked_head s))))
    (opened.good.none told)
    ∙ ap (λ (p : PreambleQuestion). first_of None (first_fault kernel_preamble_table p)) (sym (preamble_asked s opened))
    ∙ ap (first_of None) (found.fault (told_then s.hook s.hook' opened.good.asked told)))

-- ---- a good head

known_of : (key : Key) → IsUsableKey key → Known key.algorithm (length key.bytes)
known_of key usable = record { algorithm_known = usable.algorithm; not_sha1 = usable.not_sha1; size_is = usable.size }

-- where a hash is not enough, no fault of the keyblock is none of the first lines
unsigned_none : (q : KernelKeyblockQuestion) → hash_is_enough q.rules ≡ false → kernel_keyblock_fault q ≡ None
    → first_fault keyblock_table (signed_question q) ≡ None
unfolding signed_table
unsigned_none q needed none =
    let same : KeyblockFault → KeyblockFault = λ fault. fault in
    let whole : first_fault signed_table q ≡ None = ap
    (λ (b : Bool). cond (b && is_unsigned q) (first_fault hashed_table q.bytes) (first_fault signed_table q)) (sym needed) ∙ none in
    lifted-back signed_question same keyblock_table q
    (append-none (lifted signed_question same keyblock_table) (lifted flag_question same flag_lines) q whole).0

keyblock_accepted : (q : HeadQuestion) (keyblock : Keyblock) → KernelKeyblockRead q.vblock q.key q.rules keyblock
    → kernel_keyblock_fault (asked_of_keyblock q) ≡ None → hash_is_enough q.rules ≡ false
    → KeyblockAccepted q (keyblock_in seals.Signature q.vblock)
keyblock_accepted q keyblock read none needed =
    let signed : ReadBySignature q.vblock q.key keyblock = read.signed needed in
    record {
      accepts = accepts_keyblock (signed_question (asked_of_keyblock q)) (unsigned_none (asked_of_keyblock q) needed none) signed.copy
          (subst (KeyblockFits seals.Signature q.vblock) signed.parts signed.fits);
      signed = subst KeyblockIsSigned signed.parts signed.signed;
    }

-- bytes that are as many as were asked for lie in the list
inside_of : (bytes : List ℕ) (from n : ℕ) → length (slice_range bytes from (from + n)) ≡ n → 0 < n → from + n ≤ length bytes
inside_of bytes from n long some =
    let counts : from + n - from ≡ n = omega arith in
    let taken = length-take (from + n - from) (drop from bytes) in
    let dropped = length-drop from bytes in
    omega (arith, long, some, counts, taken, dropped)

-- What is known of a preamble without a fault, and what is answered is made of.
pub record MadeOf (s : HeadStep) (new : HookState) (preamble : KernelPreamble) (ok : HeadOk) : Type 0 where
  pub preamble_good : ChecksPreamble {E = Failed} kernel_preamble s.rest s.packed s.rules.stored s.checked s.hook' new (Ok (Ok preamble))
  pub version : ok.version ≡ combined_version s.packed.version preamble.common.version
  pub load_address : ok.load_address ≡ preamble.load_address
  pub body_at : ok.body_at ≡ s.keyblock.size + preamble.common.size
  pub body_len : ok.body_len ≡ preamble.common.body_len

ok_is : (a b : HeadOk) → a.version ≡ b.version → a.load_address ≡ b.load_address → a.body_at ≡ b.body_at → a.body_len ≡ b.body_len → a ≡ b
ok_is a b version load at len = λ i. record { version = version i; load_address = load i; body_at = at i; body_len = len i }

preamble_is : (s : HeadStep) (new : HookState) (preamble : KernelPreamble) (ok : HeadOk) → Opened s → MadeOf s new preamble ok
    → preamble ≡ head_preamble s.vblock
preamble_is s new preamble ok opened made = made.preamble_good.parts ∙ ap kernel_preamble_in (opened_rest s opened)

head_is : (s : HeadStep) (new : HookState) (preamble : KernelPreamble) (ok : HeadOk) → Opened s → MadeOf s new preamble ok
    → ok ≡ head_ok (asked_head s)
head_is s new preamble ok opened made =
    let is = preamble_is s new preamble ok opened made in
    ok_is ok (head_ok (asked_head s))
    (made.version ∙ ap (λ (n : ℕ). combined_version n preamble.common.version)
    (opened.copied.version ∙ ap (λ (k : Key). k.version) opened.good.read.data_key)
    ∙ ap (λ (p : KernelPreamble). combined_version (head_key s.vblock).version p.common.version) is)
    (made.load_address ∙ ap (λ (p : KernelPreamble). p.load_address) is)
    (made.body_at ∙ ap (λ (n : ℕ). n + preamble.common.size) opened.good.read.size ∙ ap
    (λ (p : KernelPreamble). keyblock_size_of s.vblock + p.common.size) is)
    (made.body_len ∙ ap (λ (p : KernelPreamble). p.common.body_len) is)

head_of : (s : HeadStep) (new : HookState) (preamble : KernelPreamble) (ok : HeadOk) → Opened s → MadeOf s new preamble ok
    → IsHeadOf s.vblock ok
head_of s new preamble ok opened made =
    let read = opened.good.read in
    let is : ok ≡ head_ok (asked_head s) = head_is s new preamble ok opened made in
    let usable : IsUsableKey (head_key s.vblock) = subst IsUsableKey read.data_key read.usable in
    let key_size : length (head_key s.vblock).bytes ≡ (data_key_of s.vblock).size = ap (λ (k : Key). length k.bytes) (sym read.data_key)
    ∙ read.key_size in
    let rest_long : length s.rest ≡ length s.vblock - s.keyblock.size = ap (λ (xs : List ℕ). length xs) opened.behind
    ∙ length-drop s.keyblock.size s.vblock in
    let preamble_whole : preamble.common.size ≤ length s.rest = made.preamble_good.fits.common.whole in
    record {
      key_inside = inside_of s.vblock ((data_key_of s.vblock).at + (data_key_of s.vblock).offset) (data_key_of s.vblock).size key_size
          (omega (arith, key_size, usable.size));
      key = usable;
      preamble = subst (λ (xs : List ℕ). first_fault kernel_lines xs ≡ None) (opened_rest s opened) made.preamble_good.readable;
      load_address = ap (λ (o : HeadOk). o.load_address) is;
      body_at = ap (λ (o : HeadOk). o.body_at) is;
      inside = omega (arith, made.body_at, rest_long, preamble_whole, read.whole);
      body_len = ap (λ (o : HeadOk). o.body_len) is;
    }

pub head_good : {E : Type 0} (s : HeadStep) (new : HookState) (preamble : KernelPreamble) (ok : HeadOk) → Opened s
    → MadeOf s new preamble ok
    → VerifiesHead {E = E} (asked_head s) s.hook new (Ok (Ok ok))
head_good s new preamble ok opened made =
    let q = asked_head s in
    let read = opened.good.read in
    let found = made.preamble_good in
    let is = preamble_is s new preamble ok opened made in
    let usable : IsUsableKey (head_key s.vblock) = subst IsUsableKey read.data_key read.usable in
    let none : IsTrue s.hook.told → first_fault kernel_preamble_table (asked_of_preamble q) ≡ None = λ told.
    ap (first_fault kernel_preamble_table) (sym (preamble_asked s opened)) ∙ found.none (told_then s.hook s.hook' opened.good.asked told) in
    record {
      asked = asked_then s.hook s.hook' new false opened.good.asked found.asked;
      behind = behind_all _ s.hook new (Ok (Ok ok)) opened.good.front;
      fault = λ told. tt;
      none = λ told.
          ap (λ (o : Option KeyblockFault). first_of o (first_fault kernel_preamble_table (asked_of_preamble q))) (opened.good.none told)
          ∙ ap (first_of None) (none told);
      ok = head_is s new preamble ok opened made;
      head = head_of s new preamble ok opened made;
      chain = λ told. record {
        keyblock = λ needed. keyblock_accepted q s.keyblock read (opened.good.none told) needed;
        preamble = accepts_preamble kernel_preamble (asked_of_preamble q) (none told) (known_of (head_key s.vblock) usable)
            (subst (KernelPreambleFits (behind_keyblock s.vblock)) is
            (subst (λ (b : List ℕ). KernelPreambleFits b preamble) (opened_rest s opened) found.fits)).common.signature_length;
        preamble_signed = subst KernelPreambleIsSigned is found.signed;
      };
    }
