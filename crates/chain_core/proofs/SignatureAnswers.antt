-- The lines on the signature of a preamble and on the version that it signs, and answers of their check.
use Rattle.std.proofs.Common.{◌≡◌, ℕ, ◌≤◌, ◌<◌, Bool, true, false, cond, not, Option, Some, None, List, ◌++◌, Result, Ok, Err, refl, ap}
use Rattle.std.proofs.Common.{sym, subst, ◌∙◌, ◌==◌, arith}
use Rattle.std.specs.Prelude.{IsTrue, nat_lt, ◌&&◌}
use Rattle.std.proofs.lemmas.Bool.{le-ltb}
use Rattle.wire_core.specs.FirstFault.{Table, first_fault}
use Rattle.wire_core.proofs.FirstFault.{first_fault-append, first_fault-append_some}
use Rattle.board_core.specs.Hook.{HookState}
use Rattle.key_core.specs.Algorithms.{signature_length}
use Rattle.key_core.specs.declared.key.PackedKey.{PackedKey}
use Rattle.chain_core.specs.Accepted.{Asked, AsksBehind, is_enrolled}
use Rattle.preamble_core.specs.Lines.{lifted}
use Rattle.chain_core.specs.Tables.{PreambleQuestion, SignatureQuestion, signature_lines, signature_front, combined_version}
use Rattle.chain_core.specs.Checking.{signature_question, ChecksSignature}
use Rattle.preamble_core.specs.Common.{CommonPreamble}
use Rattle.preamble_core.specs.declared.fault.KernelPreambleFault.{KernelPreambleFault}
use Rattle.preamble_core.specs.declared.fault.KernelPreambleFault.TheVariants as faults
use Rattle.chain_core.proofs.Said.{behind_all, front_none}
use Rattle.chain_core.proofs.FourLines.{of_tests, by_first, by_second, by_third, by_last}
use Rattle.preamble_core.proofs.Lifted.{named, lifted-is, lifted-some, lifted-none, lifted-back, append-none, is_other, is_same, over}

-- ---- the lines

abbrev size_test : SignatureQuestion → Bool
size_test q = not (q.signature_size == signature_length q.key.algorithm)

abbrev refused_test : SignatureQuestion → Bool
refused_test q = not (is_enrolled q.rows q.key q.preamble.signed q.preamble.signature)

abbrev range_test : SignatureQuestion → Bool
range_test q = nat_lt 65535 q.preamble.version

abbrev pub old_test : SignatureQuestion → Bool
old_test q = q.rollback && nat_lt (combined_version q.key.version q.preamble.version) q.stored

by_tests : (q : SignatureQuestion) → first_fault signature_lines q
    ≡ of_tests faults.SigSize faults.Refused faults.VersionRange faults.Rollback (size_test q) (refused_test q) (range_test q) (old_test q)
by_tests q = refl

pub size_fault : (q : SignatureQuestion) → (q.signature_size ≡ signature_length q.key.algorithm → ⊥)
    → first_fault signature_lines q ≡ Some faults.SigSize
size_fault q other = by_tests q ∙ by_first _ _ _ _ (size_test q) (refused_test q) (range_test q) (old_test q)
    (is_other q.signature_size (signature_length q.key.algorithm) other)

-- The signature has the right size, and the hook said this.
pub record Answered (q : SignatureQuestion) (said : Bool) : Type 0 where
  pub size : q.signature_size ≡ signature_length q.key.algorithm
  pub says : said ≡ is_enrolled q.rows q.key q.preamble.signed q.preamble.signature

size_right : (q : SignatureQuestion) (said : Bool) → Answered q said → size_test q ≡ false
size_right q said answered = is_same q.signature_size (signature_length q.key.algorithm) answered.size

refused_is : (q : SignatureQuestion) (said : Bool) → Answered q said → refused_test q ≡ not said
refused_is q said answered = ap not (sym answered.says)

pub refused_fault : (q : SignatureQuestion) (said : Bool) → Answered q said → said ≡ false
    → first_fault signature_lines q ≡ Some faults.Refused
refused_fault q said answered e =
    by_tests q ∙ by_second _ _ _ _ (size_test q) (refused_test q) (range_test q) (old_test q) (size_right q said answered)
    (refused_is q said answered ∙ ap not e)

pub range_fault : (q : SignatureQuestion) (said : Bool) → Answered q said → said ≡ true → 65535 < q.preamble.version
    → first_fault signature_lines q ≡ Some faults.VersionRange
range_fault q said answered e large =
    by_tests q ∙ by_third _ _ _ _ (size_test q) (refused_test q) (range_test q) (old_test q) (size_right q said answered)
    (refused_is q said answered ∙ ap not e) (over 65535 q.preamble.version large)

-- the version fits, so the stored one decides
pub last_line : (q : SignatureQuestion) (said old : Bool) → Answered q said → said ≡ true → q.preamble.version ≤ 65535 → old_test q ≡ old
    → first_fault signature_lines q ≡ cond old (Some faults.Rollback) None
last_line q said old answered e fits is =
    by_tests q ∙ by_last _ _ _ _ (size_test q) (refused_test q) (range_test q) (old_test q) old (size_right q said answered)
    (refused_is q said answered ∙ ap not e) (le-ltb 65535 q.preamble.version fits) is

-- then the line before that of the signature does not hold
pub no_front : (q : SignatureQuestion) → q.signature_size ≡ signature_length q.key.algorithm → first_fault signature_front q ≡ None
no_front q size = ap (λ t. cond t (Some faults.SigSize) None) (is_same q.signature_size (signature_length q.key.algorithm) size)

-- ---- answers

pub signature_found : {E : Type 0} (q : SignatureQuestion) (old new : HookState) (fault : KernelPreambleFault) → Asked old new false
    → AsksBehind {Answer = Option KernelPreambleFault} {E = E} (first_fault signature_front q) old new (Ok (Some fault))
    → (IsTrue old.told → first_fault signature_lines q ≡ Some fault) → ChecksSignature {E = E} q old new (Ok (Some fault))
signature_found q old new fault asked behind found = record {
  asked = asked;
  behind = behind;
  fault = λ told. sym
      (found told);
  version = λ none. absurd cc;
}

pub signature_good : {E : Type 0} (q : SignatureQuestion) (old new : HookState) → Asked old new false → first_fault signature_front q ≡ None
    → (IsTrue old.told → first_fault signature_lines q ≡ None)
    → q.preamble.version ≤ 65535 → ChecksSignature {E = E} q old new (Ok None)
signature_good q old new asked front none fits =
    record { asked = asked; behind = behind_all _ old new (Ok None) front; fault = λ told. sym (none told); version = λ is. fits }

pub signature_failed : {E : Type 0} (q : SignatureQuestion) (old new : HookState) (e : E) → Asked old new true
    → first_fault signature_front q ≡ None → ChecksSignature {E = E} q old new (Err e)
signature_failed q old new e asked front =
    record { asked = asked; behind = behind_all _ old new (Err e) front; fault = λ told. tt; version = tt }

-- what was answered, of a preamble that is the one of the call
pub found_of : {E : Type 0} (preamble preamble' : CommonPreamble) (key : PackedKey) (stored : ℕ) (rollback : Bool) (old new : HookState)
    (result : Result (Option KernelPreambleFault) E) (found : Option KernelPreambleFault) → preamble ≡ preamble'
    → ChecksSignature (signature_question preamble key stored rollback old) old new result → result ≡ Ok found
    → ChecksSignature {E = E} (signature_question preamble' key stored rollback old) old new (Ok found)
found_of {E} preamble preamble' key stored rollback old new result found same checks is =
    subst (λ (p : CommonPreamble). ChecksSignature {E = E} (signature_question p key stored rollback old) old new (Ok found)) same
    (subst (λ (r : Result (Option KernelPreambleFault) E). ChecksSignature
    (signature_question preamble key stored rollback old) old new r) is checks)

-- and where the hook failed, behind which line it was asked
pub front_failed : {E : Type 0} (preamble preamble' : CommonPreamble) (key : PackedKey) (stored : ℕ) (rollback : Bool) (old new : HookState)
    (result : Result (Option KernelPreambleFault) E) (e : E) → preamble ≡ preamble'
    → ChecksSignature (signature_question preamble key stored rollback old) old new result → result ≡ Err e
    → first_fault signature_front (signature_question preamble' key stored rollback old) ≡ None
front_failed preamble preamble' key stored rollback old new result e same checks is =
    subst (λ (p : CommonPreamble). first_fault signature_front (signature_question p key stored rollback old) ≡ None) same
    (front_none _ old new result e checks.behind is)

-- ---- the table of a preamble, whose last lines they are

abbrev bytes_of : PreambleQuestion → List ℕ
bytes_of q = q.bytes

-- a fault that the bytes alone show
pub bytes_fault : {Fault : Type 0} (lines : Table (List ℕ) Fault) (further : Table PreambleQuestion Fault) (q : PreambleQuestion)
    (fault : Fault)
    → first_fault lines q.bytes ≡ Some fault → first_fault (lifted (λ q. q.bytes) (λ fault. fault) lines ++ further) q ≡ Some fault
bytes_fault {Fault} lines further q fault e =
    let same : Fault → Fault = λ fault. fault in
    first_fault-append_some (lifted bytes_of same lines) further q fault (lifted-some bytes_of same lines q fault e)

-- where they show none, the lines on the signature decide
pub by_signature : {Fault : Type 0} (lines : Table (List ℕ) Fault) (last : Table SignatureQuestion KernelPreambleFault)
    (asked : PreambleQuestion → SignatureQuestion) (name : KernelPreambleFault → Fault) (q : PreambleQuestion) (read : SignatureQuestion)
    → first_fault lines q.bytes ≡ None → read ≡ asked q
    → first_fault (lifted (λ q. q.bytes) (λ fault. fault) lines ++ lifted asked name last) q ≡ named name (first_fault last read)
by_signature {Fault} lines last asked name q read e is =
    let same : Fault → Fault = λ fault. fault in
    first_fault-append (lifted bytes_of same lines) (lifted asked name last) q (lifted-none bytes_of same lines q e)
    ∙ lifted-is asked name last q
    ∙ ap (λ (s : SignatureQuestion). named name (first_fault last s)) (sym is)

-- and where the preamble has no fault, they find none
pub no_signature_fault : {Fault : Type 0} (lines : Table (List ℕ) Fault) (asked : PreambleQuestion → SignatureQuestion)
    (name : KernelPreambleFault → Fault) (q : PreambleQuestion)
    → first_fault (lifted (λ q. q.bytes) (λ fault. fault) lines ++ lifted asked name signature_lines) q ≡ None
    → first_fault signature_lines (asked q) ≡ None
no_signature_fault {Fault} lines asked name q e =
    let same : Fault → Fault = λ fault. fault in
    lifted-back asked name signature_lines q (append-none (lifted bytes_of same lines) (lifted asked name signature_lines) q e).1

-- what is asked of the preamble that was read is asked of the one in the bytes
pub same_signature : (a b : SignatureQuestion) → a.preamble ≡ b.preamble → a.signature_size ≡ b.signature_size
    → a.rows ≡ b.rows → a.key ≡ b.key → a.stored ≡ b.stored → a.rollback ≡ b.rollback → a ≡ b
same_signature a b preamble size rows key stored rollback =
    λ i. record { preamble = preamble i; signature_size = size i; rows = rows i; key = key i; stored = stored i; rollback = rollback i }

-- ---- the stored version

pub is_old : (rollback : Bool) (combined combined' stored : ℕ) → rollback ≡ true → combined ≡ combined' → combined < stored
    → (rollback && nat_lt combined' stored) ≡ true
is_old rollback n m stored checked same less = grind arith

pub not_old : (rollback : Bool) (combined combined' stored : ℕ) → combined ≡ combined' → stored ≤ combined
    → (rollback && nat_lt combined' stored) ≡ false
not_old true n m stored same no_less = grind arith
not_old false n m stored same no_less = refl

pub not_checked : (rollback : Bool) (combined stored : ℕ) → rollback ≡ false → (rollback && nat_lt combined stored) ≡ false
not_checked rollback n stored unchecked = ap (λ (r : Bool). r && nat_lt n stored) unchecked
