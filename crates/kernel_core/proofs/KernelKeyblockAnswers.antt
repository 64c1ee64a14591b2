-- Answers of the check of a kernel's keyblock.
use Rattle.std.proofs.Common.{◌≡◌, ℕ, Bool, true, false, cond, Option, Some, None, List, Result, Ok, Err, refl, sym, ap, subst, ◌∙◌}
use Rattle.std.specs.Prelude.{IsTrue, ◌&&◌, nat_le, is_some, IfOk, IfErr, OnOk}
use Rattle.wire_core.specs.FirstFault.{first_fault}
use Rattle.board_core.specs.Hook.{HookState}
use Rattle.key_core.specs.Keyblocks.{Keyblock, keyblock_in, KeyblockFits}
use Rattle.key_core.specs.Parts.{Key}
use Rattle.key_core.specs.declared.key.PackedKey.{PackedKey}
use Rattle.key_core.specs.declared.keyblock.Seal.TheVariants as seals
use Rattle.key_core.specs.declared.fault.KeyblockFault.{KeyblockFault}
use Rattle.chain_core.specs.Accepted.{Asked, AsksBehind}
use Rattle.chain_core.specs.SlotNumbers.{keyblock_number}
use Rattle.chain_core.specs.Tables.{keyblock_table, keyblock_front, data_key_lines}
use Rattle.chain_core.specs.Checking.{ChecksKeyblock, view_question}
use Rattle.chain_core.proofs.Said.{behind_all}
use Rattle.chain_core.proofs.SlotExits.{keyblock_answer}
use Rattle.chain_core.proofs.Keys.{data_key_known, data_key_range}
use Rattle.kernel_core.specs.Rules.{hash_is_enough, versions_are_checked}
use Rattle.kernel_core.specs.KernelTables.{KernelKeyblockQuestion, signed_question, FlagQuestion, flag_lines, flag_question, signed_table}
use Rattle.kernel_core.specs.KernelTables.{hashed_table, kernel_keyblock_fault, kernel_keyblock_front}
use Rattle.kernel_core.specs.Heads.{IsUsableKey}
use Rattle.kernel_core.specs.HeadChecks.{kernel_keyblock_question, ReadBySignature, KernelKeyblockRead, ChecksKernelKeyblock}
use Rattle.kernel_core.specs.declared.rules.KernelRules.{KernelRules}
use Rattle.kernel_core.proofs.KeyblockTables.{signed_fault, flags_fault, no_signed_fault, by_fault, by_none}

-- ---- answers

pub kernel_keyblock_faulty : {E : Type 0} (bytes : List ℕ) (signer : PackedKey) (rules : KernelRules) (old new : HookState)
    (fault : KeyblockFault) → Asked old new false
    → AsksBehind {Answer = Result Keyblock KeyblockFault} {E = E}
    (kernel_keyblock_front (kernel_keyblock_question bytes signer rules old)) old new (Ok (Err fault))
    → (IsTrue old.told → kernel_keyblock_fault (kernel_keyblock_question bytes signer rules old) ≡ Some fault)
    → ChecksKernelKeyblock {E = E} bytes signer rules old new (Ok (Err fault))
kernel_keyblock_faulty bytes signer rules old new fault asked behind found =
    record { asked = asked; behind = behind; fault = found; none = λ told. tt; front = tt; read = tt }

pub kernel_keyblock_good : {E : Type 0} (bytes : List ℕ) (signer : PackedKey) (rules : KernelRules) (old new : HookState)
    (keyblock : Keyblock) → Asked old new false
    → AsksBehind {Answer = Result Keyblock KeyblockFault} {E = E}
    (kernel_keyblock_front (kernel_keyblock_question bytes signer rules old)) old new (Ok (Ok keyblock))
    → kernel_keyblock_front (kernel_keyblock_question bytes signer rules old) ≡ None
    → (IsTrue old.told → kernel_keyblock_fault (kernel_keyblock_question bytes signer rules old) ≡ None)
    → KernelKeyblockRead bytes signer rules keyblock
    → ChecksKernelKeyblock {E = E} bytes signer rules old new (Ok (Ok keyblock))
kernel_keyblock_good bytes signer rules old new keyblock asked behind front none read =
    record { asked = asked; behind = behind; fault = λ told. tt; none = none; front = front; read = read }

pub kernel_keyblock_failed : {E : Type 0} (bytes : List ℕ) (signer : PackedKey) (rules : KernelRules) (old new : HookState) (e : E)
    → Asked old new true
    → AsksBehind {Answer = Result Keyblock KeyblockFault} {E = E}
    (kernel_keyblock_front (kernel_keyblock_question bytes signer rules old)) old new (Err e)
    → ChecksKernelKeyblock {E = E} bytes signer rules old new (Err e)
kernel_keyblock_failed bytes signer rules old new e asked behind =
    record { asked = asked; behind = behind; fault = λ told. tt; none = λ told. tt; front = tt; read = tt }

-- ---- what is found before the hook is asked

-- where the signature's lines find nothing, nothing is found
no_fault_first : (enough : Bool) (hashed front : Option KeyblockFault) → front ≡ None → cond (enough && is_some front) hashed front ≡ None
no_fault_first true hashed front none = ap (λ (o : Option KeyblockFault). cond (is_some o) hashed o) none
no_fault_first false hashed front none = none

some_first : (enough : Bool) (hashed front : Option KeyblockFault) → is_some (cond (enough && is_some front) hashed front) ≡ true
    → is_some front ≡ true
some_first true hashed None some = some
some_first false hashed None some = some
some_first enough hashed (Some fault) some = refl

-- nor where the hash's lines find nothing, and a hash is enough
no_hashed_first : (enough : Bool) (hashed front : Option KeyblockFault) → enough ≡ true → hashed ≡ None
    → cond (enough && is_some front) hashed front ≡ None
no_hashed_first true hashed None is none = refl
no_hashed_first true hashed (Some fault) is none = none
no_hashed_first false hashed front is none = absurd cc

pub front_signed : (q : KernelKeyblockQuestion) → first_fault keyblock_front (signed_question q) ≡ None → kernel_keyblock_front q ≡ None
front_signed q none = no_fault_first (hash_is_enough q.rules) (first_fault hashed_table q.bytes) _ none

front_hashed : (q : KernelKeyblockQuestion) → hash_is_enough q.rules ≡ true → first_fault hashed_table q.bytes ≡ None
    → kernel_keyblock_front q ≡ None
front_hashed q enough none = no_hashed_first (hash_is_enough q.rules) (first_fault hashed_table q.bytes) _ enough none

-- so the hook is asked behind it, as it is behind the signature's lines
pub behind_ok : {E Answer Found : Type 0} (q : KernelKeyblockQuestion) (old new : HookState) (answer : Answer) (found : Found)
    → AsksBehind {E = E} (first_fault keyblock_front (signed_question q)) old new (Ok found)
    → AsksBehind {E = E} (kernel_keyblock_front q) old new (Ok answer)
behind_ok q old new answer found behind =
    record { unasked = λ some. behind.unasked (some_first (hash_is_enough q.rules) (first_fault hashed_table q.bytes) _ some); failed = tt }

pub behind_err : {E Answer : Type 0} (q : KernelKeyblockQuestion) (old new : HookState) (e : E)
    → AsksBehind {Answer = Answer} (first_fault keyblock_front (signed_question q)) old new (Err e)
    → AsksBehind {Answer = Answer} (kernel_keyblock_front q) old new (Err e)
behind_err q old new e behind = behind_all _ old new (Err e) (front_signed q behind.failed)

-- ---- what is read

pub usable_key : (key : Key) (stored : ℕ) (rollback : Bool) → first_fault data_key_lines (view_question key stored rollback) ≡ None
    → IsUsableKey key
usable_key key stored rollback e =
    let known = data_key_known (view_question key stored rollback) e in
    record {
      algorithm = known.algorithm_known;
      not_sha1 = known.not_sha1;
      size = known.size_is;
      version = data_key_range
          (view_question key stored rollback) e;
    }

pub read_signed : (bytes : List ℕ) (signer : PackedKey) (rules : KernelRules) (stored : ℕ) (rollback : Bool) (keyblock : Keyblock)
    → ReadBySignature bytes signer keyblock
    → first_fault data_key_lines (view_question keyblock.data_key stored rollback) ≡ None → KernelKeyblockRead bytes signer rules keyblock
read_signed bytes signer rules stored rollback keyblock read key = record {
  size = ap (λ (k : Keyblock). k.size) read.parts;
  data_key = ap (λ (k : Keyblock). k.data_key) read.parts;
  key_size = read.fits.key_length;
  whole = read.fits.whole;
  usable = usable_key keyblock.data_key stored rollback key;
  signed = λ e. read;
}

pub read_hashed : (bytes : List ℕ) (signer : PackedKey) (rules : KernelRules) (keyblock : Keyblock) → hash_is_enough rules ≡ true
    → keyblock ≡ keyblock_in seals.Hash bytes → KeyblockFits seals.Hash bytes keyblock
    → first_fault data_key_lines (view_question keyblock.data_key 0 false) ≡ None → KernelKeyblockRead bytes signer rules keyblock
read_hashed bytes signer rules keyblock enough parts fits key = record {
  size = ap (λ (k : Keyblock). k.size) parts;
  data_key = ap (λ (k : Keyblock). k.data_key) parts;
  key_size = fits.key_length;
  whole = fits.whole;
  usable = usable_key keyblock.data_key 0 false key;
  signed = λ e. absurd (let never : true ≡ false = sym enough ∙ e in cc);
}

-- ---- what the check by the signature found

pub signed_answer : {E : Type 0} (bytes : List ℕ) (signer : PackedKey) (rules : KernelRules) (checked : Bool) (old new : HookState)
    (result answer : Result (Result Keyblock KeyblockFault) E)
    → checked ≡ versions_are_checked rules → ChecksKeyblock bytes signer rules.stored checked old new result → result ≡ answer
    → ChecksKeyblock bytes signer rules.stored (versions_are_checked rules) old new answer
signed_answer {E} bytes signer rules checked old new result answer same checks is =
    subst (λ (c : Bool). ChecksKeyblock {E = E} bytes signer rules.stored c old new answer) same
    (keyblock_answer bytes signer rules.stored checked old new result answer checks is)

-- ---- which table decides

pub dropped : (q : KernelKeyblockQuestion) (fault : KeyblockFault) (b : Bool) → first_fault keyblock_table (signed_question q) ≡ Some fault
    → b ≡ (hash_is_enough q.rules && nat_le (keyblock_number fault) 13) → b ≡ true
    → kernel_keyblock_fault q ≡ first_fault hashed_table q.bytes
dropped q fault b e is yes' = by_fault q fault e
    ∙ ap (λ (t : Bool). cond t (first_fault hashed_table q.bytes) (first_fault signed_table q)) (sym is ∙ yes')

pub kept : (q : KernelKeyblockQuestion) (fault : KeyblockFault) (b : Bool) → first_fault keyblock_table (signed_question q) ≡ Some fault
    → b ≡ (hash_is_enough q.rules && nat_le (keyblock_number fault) 13) → b ≡ false
    → kernel_keyblock_fault q ≡ Some fault
kept q fault b e is no' =
    by_fault q fault e ∙ ap (λ (t : Bool). cond t (first_fault hashed_table q.bytes) (first_fault signed_table q)) (sym is ∙ no')
    ∙ signed_fault q fault e

pub at_flags : (q : KernelKeyblockQuestion) (fault : KeyblockFault) → first_fault keyblock_table (signed_question q) ≡ None
    → first_fault flag_lines (flag_question q) ≡ Some fault → kernel_keyblock_fault q ≡ Some fault
at_flags q fault none e = by_none q none ∙ flags_fault q fault none e

pub nowhere : (q : KernelKeyblockQuestion) → first_fault keyblock_table (signed_question q) ≡ None
    → first_fault flag_lines (flag_question q) ≡ None → kernel_keyblock_fault q ≡ None
nowhere q none e = by_none q none ∙ no_signed_fault q none e

-- both, so the first
pub enough_of : (a b c : Bool) → c ≡ (a && b) → c ≡ true → a ≡ true
enough_of true b c is e = refl
enough_of false b c is e = absurd (let never : false ≡ true = sym is ∙ e in cc)

-- the keyblock that was read by its hash, or its fault
pub hashed_answer : {E : Type 0} (bytes : List ℕ) (signer : PackedKey) (rules : KernelRules) (old new : HookState) (fault : KeyblockFault)
    (b : Bool) (answer : Result Keyblock KeyblockFault)
    → ChecksKeyblock {E = E} bytes signer rules.stored (versions_are_checked rules) old new (Ok (Err fault))
    → b ≡ (hash_is_enough rules && nat_le (keyblock_number fault) 13) → b ≡ true
    → IfErr answer (λ found. first_fault hashed_table bytes ≡ Some found) → OnOk answer (first_fault hashed_table bytes ≡ None)
    → IfOk answer (λ keyblock. keyblock ≡ keyblock_in seals.Hash bytes) → IfOk answer (KeyblockFits seals.Hash bytes)
    → IfOk answer (λ keyblock. first_fault data_key_lines (view_question keyblock.data_key 0 false) ≡ None)
    → ChecksKernelKeyblock {E = E} bytes signer rules old new (Ok answer)
hashed_answer bytes signer rules old new fault b (Ok keyblock) faulty is yes' found none parts fits key =
    let q = kernel_keyblock_question bytes signer rules old in
    let enough = enough_of (hash_is_enough rules) (nat_le (keyblock_number fault) 13) b is yes' in
    kernel_keyblock_good bytes signer rules old new keyblock faulty.asked (behind_ok q old new (Ok keyblock) _ faulty.behind)
    (front_hashed q enough none) (λ told. dropped (kernel_keyblock_question bytes signer rules old) fault b (faulty.fault told) is yes'
    ∙ none)
    (read_hashed bytes signer rules keyblock enough parts fits key)
hashed_answer bytes signer rules old new fault b (Err other) faulty is yes' found none parts fits key =
    let q = kernel_keyblock_question bytes signer rules old in
    kernel_keyblock_faulty bytes signer rules old new other faulty.asked (behind_ok q old new (Err other) _ faulty.behind)
    (λ told. dropped (kernel_keyblock_question bytes signer rules old) fault b (faulty.fault told) is yes' ∙ found)

abbrev flags_of : ℕ → KernelRules → FlagQuestion
flags_of flags rules = record { flags = flags; rules = rules }

-- the flags that were looked at are those of the bytes
pub flags_read : (q : KernelKeyblockQuestion) (keyblock : Keyblock) (flags : ℕ) (found answer : Option KeyblockFault)
    → flags ≡ keyblock.flags → keyblock ≡ keyblock_in seals.Signature q.bytes
    → found ≡ first_fault flag_lines (flags_of flags q.rules) → found ≡ answer → first_fault flag_lines (flag_question q) ≡ answer
flags_read q keyblock flags found answer same parts is answered =
    sym (is ∙ ap (λ (n : ℕ). first_fault flag_lines (flags_of n q.rules)) (same ∙ ap (λ (k : Keyblock). k.flags) parts)) ∙ answered
