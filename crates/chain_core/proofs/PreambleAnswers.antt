-- The table of a form of preamble, and answers of its check.
use Rattle.std.proofs.Common.{◌≡◌, ℕ, Bool, false, true, Option, Some, None, List, Result, Ok, Err, length, refl, ap, subst, sym, ◌∙◌}
use Rattle.std.specs.Prelude.{IsTrue, is_some}
use Rattle.wire_core.specs.FirstFault.{first_fault}
use Rattle.board_core.specs.Hook.{HookState}
use Rattle.key_core.specs.declared.key.PackedKey.{PackedKey}
use Rattle.preamble_core.specs.Common.{common_in, signature_of}
use Rattle.preamble_core.specs.Lines.{lifted}
use Rattle.preamble_core.specs.declared.fault.KernelPreambleFault.{KernelPreambleFault}
use Rattle.preamble_core.proofs.Lifted.{named}
use Rattle.chain_core.specs.Accepted.{Asked, AsksBehind}
use Rattle.chain_core.specs.Tables.{PreambleQuestion, asked_of_signature, signature_lines, signature_front, Form, table_of, front_of}
use Rattle.chain_core.specs.Checking.{preamble_question, signature_question, ChecksSignature, ChecksPreamble}
use Rattle.chain_core.proofs.Said.{behind_all}
use Rattle.chain_core.proofs.SignatureAnswers.{bytes_fault, by_signature, no_signature_fault, same_signature}

-- ---- the table

pub view_fault : {Preamble Fault : Type 0} (form : Form Preamble Fault) (q : PreambleQuestion) (fault : Fault)
    → first_fault form.lines q.bytes ≡ Some fault → first_fault (table_of form) q ≡ Some fault
unfolding table_of
view_fault form q fault e = bytes_fault form.lines (lifted (asked_of_signature form.kind) form.name signature_lines) q fault e

-- where a preamble has no fault, the lines on the signature find none
pub no_fault_of_signature : {Preamble Fault : Type 0} (form : Form Preamble Fault) (q : PreambleQuestion)
    → first_fault (table_of form) q ≡ None → first_fault signature_lines (asked_of_signature form.kind q) ≡ None
unfolding table_of
no_fault_of_signature form q e = no_signature_fault form.lines (asked_of_signature form.kind) form.name q e

-- What the view found: the bytes alone show no fault, and these are the parts.
pub record Viewed {Preamble Fault : Type 0} (form : Form Preamble Fault) (bytes : List ℕ) (preamble : Preamble) : Type 0 where
  pub none : first_fault form.lines bytes ≡ None
  pub parts : preamble ≡ form.parts bytes
  pub common : form.common preamble ≡ common_in form.kind bytes
  pub signature_length : length (form.common preamble).signature ≡ (signature_of bytes).size
  pub fits : form.Fits bytes preamble
  pub signed : form.IsSigned preamble

-- so the lines on the signature decide
by_lines : {Preamble Fault : Type 0} (form : Form Preamble Fault) (bytes : List ℕ) (key : PackedKey) (stored : ℕ) (rollback : Bool)
    (hook : HookState) (preamble : Preamble) → Viewed form bytes preamble
    → first_fault (table_of form) (preamble_question bytes key stored rollback hook)
    ≡ named form.name (first_fault signature_lines (signature_question (form.common preamble) key stored rollback hook))
unfolding table_of
by_lines form bytes key stored rollback hook preamble viewed =
    let q = preamble_question bytes key stored rollback hook in
    let read = signature_question (form.common preamble) key stored rollback hook in
    by_signature form.lines signature_lines (asked_of_signature form.kind) form.name q read viewed.none
    (same_signature read (asked_of_signature form.kind q) viewed.common viewed.signature_length refl refl refl refl)

-- and the first of them where it comes before that of the signature
by_front : {Preamble Fault : Type 0} (form : Form Preamble Fault) (bytes : List ℕ) (key : PackedKey) (stored : ℕ) (rollback : Bool)
    (hook : HookState) (preamble : Preamble) → Viewed form bytes preamble
    → first_fault (front_of form) (preamble_question bytes key stored rollback hook)
    ≡ named form.name (first_fault signature_front (signature_question (form.common preamble) key stored rollback hook))
unfolding front_of
by_front form bytes key stored rollback hook preamble viewed =
    let q = preamble_question bytes key stored rollback hook in
    let read = signature_question (form.common preamble) key stored rollback hook in
    by_signature form.lines signature_front (asked_of_signature form.kind) form.name q read viewed.none
    (same_signature read (asked_of_signature form.kind q) viewed.common viewed.signature_length refl refl refl refl)

is_some-named : {Fault Named : Type 0} (name : Fault → Named) (found : Option Fault) → is_some (named name found) ≡ is_some found
is_some-named name None = refl
is_some-named name (Some fault) = refl

-- so the hook is asked behind the lines of the table as it is behind that one
behind_shown : {E Preamble Fault : Type 0} (form : Form Preamble Fault) (bytes : List ℕ) (key : PackedKey) (stored : ℕ) (rollback : Bool)
    (old new : HookState) (preamble : Preamble) (found : Option KernelPreambleFault) (answer : Result Preamble Fault)
    → Viewed form bytes preamble
    → ChecksSignature {E = E} (signature_question (form.common preamble) key stored rollback old) old new (Ok found)
    → AsksBehind {E = E} (first_fault (front_of form) (preamble_question bytes key stored rollback old)) old new (Ok answer)
behind_shown form bytes key stored rollback old new preamble found answer viewed checks =
    let front = first_fault signature_front (signature_question (form.common preamble) key stored rollback old) in
    let same = ap is_some (by_front form bytes key stored rollback old preamble viewed) ∙ is_some-named form.name front in
    record { unasked = λ some. checks.behind.unasked (sym same ∙ some); failed = tt }

-- ---- answers

pub preamble_fault : {E Preamble Fault : Type 0} (form : Form Preamble Fault) (bytes : List ℕ) (key : PackedKey) (stored : ℕ)
    (rollback : Bool)
    (old new : HookState) (fault : Fault) → Asked old new false
    → AsksBehind {Answer = Result Preamble Fault} {E = E}
    (first_fault (front_of form) (preamble_question bytes key stored rollback old)) old new (Ok (Err fault))
    → (IsTrue old.told → first_fault (table_of form) (preamble_question bytes key stored rollback old) ≡ Some fault)
    → ChecksPreamble {E = E} form bytes key stored rollback old new (Ok (Err fault))
preamble_fault form bytes key stored rollback old new fault asked behind found =
    record { asked = asked; behind = behind; fault = found; none = λ told. tt; readable = tt; parts = tt; fits = tt; signed = tt; version = tt }

pub preamble_failed : {E Preamble Fault : Type 0} (form : Form Preamble Fault) (bytes : List ℕ) (key : PackedKey) (stored : ℕ)
    (rollback : Bool)
    (old new : HookState) (preamble : Preamble) (e : E) → Asked old new true → Viewed form bytes preamble
    → first_fault signature_front (signature_question (form.common preamble) key stored rollback old) ≡ None
    → ChecksPreamble {E = E} form bytes key stored rollback old new (Err e)
preamble_failed form bytes key stored rollback old new preamble e asked viewed front =
    let none = by_front form bytes key stored rollback old preamble viewed ∙ ap (named form.name) front in
    record {
      asked = asked;
      behind = behind_all _ old new
          (Err e) none;
      fault = λ told. tt;
      none = λ told. tt;
      readable = tt;
      parts = tt;
      fits = tt;
      signed = tt;
      version = tt;
    }

-- a line on the signature, under its name
pub signature_shown : {E Preamble Fault : Type 0} (form : Form Preamble Fault) (bytes : List ℕ) (key : PackedKey) (stored : ℕ)
    (rollback : Bool)
    (old new : HookState) (preamble : Preamble) (found : Option KernelPreambleFault) (fault : KernelPreambleFault) (answer : Fault)
    → Viewed form bytes preamble
    → ChecksSignature {E = E} (signature_question (form.common preamble) key stored rollback old) old new (Ok found)
    → found ≡ Some fault → answer ≡ form.name fault
    → ChecksPreamble {E = E} form bytes key stored rollback old new (Ok (Err answer))
signature_shown form bytes key stored rollback old new preamble found fault answer viewed checks is called =
    preamble_fault form bytes key stored rollback old new answer checks.asked
    (behind_shown form bytes key stored rollback old new preamble found (Err answer) viewed checks) (λ told.
    by_lines form bytes key stored rollback old preamble viewed ∙ ap (named form.name) (sym (checks.fault told) ∙ is)
    ∙ ap Some (sym called))

pub preamble_good : {E Preamble Fault : Type 0} (form : Form Preamble Fault) (bytes : List ℕ) (key : PackedKey) (stored : ℕ)
    (rollback : Bool)
    (old new : HookState) (preamble : Preamble) (found : Option KernelPreambleFault) → Viewed form bytes preamble
    → ChecksSignature {E = E} (signature_question (form.common preamble) key stored rollback old) old new (Ok found) → found ≡ None
    → ChecksPreamble {E = E} form bytes key stored rollback old new (Ok (Ok preamble))
preamble_good form bytes key stored rollback old new preamble found viewed checks is = record {
  asked = checks.asked;
  behind = behind_shown form bytes key stored rollback old new preamble found (Ok preamble) viewed checks;
  fault = λ told. tt;
  none = λ told. by_lines form bytes key stored rollback old preamble viewed ∙ ap (named form.name) (sym (checks.fault told) ∙ is);
  readable = viewed.none;
  parts = viewed.parts;
  fits = viewed.fits;
  signed = viewed.signed;
  version = checks.version is;
}

pub preamble_answer : {E Preamble Fault : Type 0} (form : Form Preamble Fault) (bytes : List ℕ) (key : PackedKey) (stored : ℕ)
    (rollback : Bool)
    (old new : HookState) (result answer : Result (Result Preamble Fault) E)
    → ChecksPreamble form bytes key stored rollback old new result → result ≡ answer
    → ChecksPreamble form bytes key stored rollback old new answer
preamble_answer form bytes key stored rollback old new result answer checks is = subst
    (ChecksPreamble form bytes key stored rollback old new) is checks
