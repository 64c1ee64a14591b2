-- The table of a body, and answers of its check.
use Rattle.std.proofs.Common.{◌≡◌, ℕ, ◌≤◌, ◌<◌, Bool, true, false, cond, not, Option, Some, None, List, Ok, Err, length, take, refl, ap}
use Rattle.std.proofs.Common.{sym, ◌∙◌, ◌==◌, arith, rules}
use Rattle.std.specs.Prelude.{IsTrue, nat_lt}
use Rattle.std.proofs.lemmas.Bool.{le-ltb}
use Rattle.wire_core.specs.FirstFault.{first_fault}
use Rattle.board_core.specs.Flash.{FlashState, range}
use Rattle.board_core.specs.Hook.{HookState}
use Rattle.key_core.specs.Algorithms.{signature_length}
use Rattle.key_core.specs.declared.key.PackedKey.{PackedKey}
use Rattle.rom_core.specs.Gbb.{Looks, area_bytes}
use Rattle.rom_core.specs.declared.area.Area.{Area}
use Rattle.rom_core.proofs.Ranges.{range-front}
use Rattle.chain_core.specs.Accepted.{Asked, AsksBehind, key_of, is_enrolled}
use Rattle.chain_core.specs.Tables.{BodyQuestion, body_table, body_front}
use Rattle.chain_core.specs.Bodies.{is_store, is_hook, ChecksBody, body_question}
use Rattle.chain_core.specs.declared.fault.BodyFault.{BodyFault}
use Rattle.chain_core.specs.declared.fault.BodyFault.TheVariants as faults
use Rattle.chain_core.specs.declared.fault.Failure.{Failure}
use Rattle.chain_core.proofs.Said.{asked_none, behind_none, behind_all}
use Rattle.chain_core.proofs.FourLines.{of_tests, by_first, by_second, by_third, by_last}
use Rattle.preamble_core.proofs.Lifted.{is_other, is_same, over}

-- ---- the table

abbrev empty_test : BodyQuestion → Bool
empty_test q = q.len == 0

abbrev large_test : BodyQuestion → Bool
large_test q = nat_lt q.most q.len

abbrev size_test : BodyQuestion → Bool
size_test q = not (q.signature_size == signature_length q.key.algorithm)

abbrev enrolled : BodyQuestion → Bool
enrolled q = is_enrolled q.rows q.key (take q.len q.bytes) q.signature

by_tests : (q : BodyQuestion) → first_fault body_table q ≡ of_tests faults.Empty faults.TooLarge faults.SigSize faults.Refused
    (empty_test q) (large_test q) (size_test q) (not (enrolled q))
unfolding body_table
by_tests q = refl

zero_yes : (n : ℕ) → n ≡ 0 → (n == 0) ≡ true
zero_yes n e = grind arith

zero_not : (n : ℕ) → (n ≡ 0 → ⊥) → (n == 0) ≡ false
zero_not n e = grind arith

pub empty_fault : (q : BodyQuestion) → q.len ≡ 0 → first_fault body_table q ≡ Some faults.Empty
empty_fault q e = by_tests q ∙ by_first _ _ _ _ (empty_test q) (large_test q) (size_test q) (not (enrolled q)) (zero_yes q.len e)

pub large_fault : (q : BodyQuestion) → (q.len ≡ 0 → ⊥) → q.most < q.len → first_fault body_table q ≡ Some faults.TooLarge
large_fault q some large = by_tests q ∙ by_second _ _ _ _ (empty_test q) (large_test q) (size_test q) (not (enrolled q))
    (zero_not q.len some) (over q.most q.len large)

pub size_fault : (q : BodyQuestion) → (q.len ≡ 0 → ⊥) → q.len ≤ q.most → (q.signature_size ≡ signature_length q.key.algorithm → ⊥)
    → first_fault body_table q ≡ Some faults.SigSize
size_fault q some fits other = by_tests q ∙ by_third _ _ _ _ (empty_test q) (large_test q) (size_test q) (not (enrolled q))
    (zero_not q.len some) (le-ltb q.most q.len fits) (is_other q.signature_size (signature_length q.key.algorithm) other)

-- the hook decides
pub last_line : (q : BodyQuestion) (said : Bool) → (q.len ≡ 0 → ⊥) → q.len ≤ q.most → q.signature_size ≡ signature_length q.key.algorithm
    → said ≡ is_enrolled q.rows q.key (take q.len q.bytes) q.signature
    → first_fault body_table q ≡ cond (not said) (Some faults.Refused) None
last_line q said some fits size says =
    by_tests q
    ∙ by_last _ _ _ _ (empty_test q) (large_test q) (size_test q) (not (enrolled q)) (not said) (zero_not q.len some)
    (le-ltb q.most q.len fits) (is_same q.signature_size (signature_length q.key.algorithm) size) (ap not (sym says))

-- then no line before that of the signature holds
pub no_front : (q : BodyQuestion) → (q.len ≡ 0 → ⊥) → q.len ≤ q.most → q.signature_size ≡ signature_length q.key.algorithm
    → first_fault body_front q ≡ None
unfolding body_table body_front
no_front q some fits size =
    let of_size : Bool → Option BodyFault = λ t. cond t (Some faults.SigSize) None in
    let of_large : Bool → Option BodyFault = λ t. cond t (Some faults.TooLarge) (of_size (size_test q)) in
    ap (λ t. cond t (Some faults.Empty) (of_large (large_test q))) (zero_not q.len some)
    ∙ ap of_large (le-ltb q.most q.len fits)
    ∙ ap of_size (is_same q.signature_size (signature_length q.key.algorithm) size)

-- ---- answers

looks_none : (a : FlashState) → Looks a a false
looks_none a = search rules

-- the first bytes of an area, which were read and asked for
pub says_front : (rows_of : HookState) (key : PackedKey) (signature body : List ℕ) (main : Area) (len : ℕ) (flash : FlashState)
    (said : Bool) → len ≤ main.size → body ≡ range flash.medium.bytes main.at len
    → said ≡ is_enrolled rows_of.rows (key_of key) body signature
    → said ≡ is_enrolled rows_of.rows (key_of key) (take len (area_bytes main flash.medium)) signature
says_front hook key signature body main len flash said fits filled says =
    says ∙ ap (λ (m : List ℕ). is_enrolled hook.rows (key_of key) m signature)
    (filled ∙ range-front flash.medium.bytes main.at main.size len fits)

pub body_fault : (key : PackedKey) (signature : List ℕ) (main : Area) (len : ℕ) (flash flash' : FlashState) (hook hook' : HookState)
    (body : List ℕ) (fault : BodyFault) → Looks flash flash' false → Asked hook hook' false
    → AsksBehind {Answer = Option BodyFault} {E = Failure}
    (first_fault body_front (body_question key signature main len flash hook)) hook hook' (Ok (Some fault))
    → (IsTrue flash.medium.told → IsTrue hook.told → first_fault body_table (body_question key signature main len flash hook) ≡ Some fault)
    → ChecksBody key signature main len flash flash' hook hook' body (Ok (Some fault))
body_fault key signature main len flash flash' hook hook' body fault looks asked behind found = record {
  looks = looks;
  asked = asked;
  behind = behind;
  fault = λ told told'. sym (found told told');
  within = tt;
  many = tt;
  filled = λ told. tt;
}

-- a fault that is found before anything is read
pub body_unread : (key : PackedKey) (signature : List ℕ) (main : Area) (len : ℕ) (flash : FlashState) (hook : HookState) (body : List ℕ)
    (fault : BodyFault)
    → first_fault body_table (body_question key signature main len flash hook) ≡ Some fault
    → ChecksBody key signature main len flash flash hook hook body (Ok (Some fault))
body_unread key signature main len flash hook body fault found =
    body_fault key signature main len flash flash hook hook body fault (looks_none flash) (asked_none hook) (behind_none _ hook _)
    (λ told told'. found)

pub body_failed : (key : PackedKey) (signature : List ℕ) (main : Area) (len : ℕ) (flash flash' : FlashState) (hook hook' : HookState)
    (body : List ℕ) (failure : Failure) → Looks flash flash' (is_store failure) → Asked hook hook' (is_hook failure)
    → first_fault body_front (body_question key signature main len flash hook) ≡ None
    → ChecksBody key signature main len flash flash' hook hook' body (Err failure)
body_failed key signature main len flash flash' hook hook' body failure looks asked front = record {
  looks = looks;
  asked = asked;
  behind = behind_all _ hook hook' (Err failure) front;
  fault = λ told told'. tt;
  within = tt;
  many = tt;
  filled = λ told. tt;
}

pub body_good : (key : PackedKey) (signature : List ℕ) (main : Area) (len : ℕ) (flash flash' : FlashState) (hook hook' : HookState)
    (body : List ℕ) → Looks flash flash' false → Asked hook hook' false
    → first_fault body_front (body_question key signature main len flash hook) ≡ None
    → (IsTrue flash.medium.told → IsTrue hook.told → first_fault body_table (body_question key signature main len flash hook) ≡ None)
    → len ≤ main.size → length body ≡ len → (IsTrue flash.medium.told → body ≡ range flash.medium.bytes main.at len)
    → ChecksBody key signature main len flash flash' hook hook' body (Ok None)
body_good key signature main len flash flash' hook hook' body looks asked front none within many filled = record {
  looks = looks;
  asked = asked;
  behind = behind_all _ hook hook' (Ok None) front;
  fault = λ told told'. sym (none told told');
  within = within;
  many = many;
  filled = filled;
}
