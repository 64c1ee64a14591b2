-- Answers of the check of a kernel's body.
use Rattle.std.proofs.Common.{◌≡◌, ℕ, ◌+◌, ◌*◌, ◌-◌, ◌/◌, ◌≤◌, Bool, false, cond, Option, Some, None, List, Ok, Err, Result, length, take}
use Rattle.std.proofs.Common.{drop, refl, ap, sym, subst, ◌∙◌, arith}
use Rattle.std.specs.Prelude.{IsTrue}
use Rattle.std.proofs.lemmas.Bool.{le-ltb}
use Rattle.wire_core.specs.FirstFault.{first_fault}
use Rattle.board_core.specs.Disk.{DiskState}
use Rattle.board_core.specs.Flash.{range}
use Rattle.board_core.specs.Hook.{HookState}
use Rattle.key_core.specs.declared.key.PackedKey.{PackedKey}
use Rattle.preamble_core.specs.Common.{body_signature_of}
use Rattle.preamble_core.specs.declared.common.PreambleKind.TheVariants as kinds
use Rattle.rom_core.proofs.Ranges.{range-range}
use Rattle.chain_core.specs.Accepted.{Asked, AsksBehind, key_of, is_enrolled}
use Rattle.chain_core.specs.Bodies.{is_store, is_hook}
use Rattle.chain_core.specs.Tables.{BodyQuestion, body_table, body_front}
use Rattle.chain_core.specs.declared.fault.BodyFault.{BodyFault}
use Rattle.chain_core.specs.declared.fault.Failure.{Failure}
use Rattle.chain_core.proofs.Said.{asked_none, behind_none, behind_all}
use Rattle.chain_core.proofs.SlotAnswers.{same_body}
use Rattle.kernel_core.proofs.DiskLooks.{looks_none}
use Rattle.chain_core.proofs.Slots.{accepts_body}
use Rattle.kernel_core.specs.Heads.{head_key, behind_keyblock, head_preamble, IsHeadOf}
use Rattle.kernel_core.specs.KernelBodies.{LooksAtDisk, later_sectors, read_sectors, most_of, disk_body_question, ChecksDiskBody}
use Rattle.kernel_core.specs.KernelBodies.{kernel_body_question, VerifiesKernelBody}
use Rattle.kernel_core.specs.declared.head_fault.HeadOk.{HeadOk}

-- ---- what is read

pub looks_exact : (sectors at len : ℕ) (a b : DiskState) (failed : Bool) → len ≤ most_of sectors at
    → LooksAtDisk (later_sectors at len) a b failed → LooksAtDisk (read_sectors sectors at len) a b failed
looks_exact sectors at len a b failed fits looks =
    subst (λ (t : Bool). LooksAtDisk (cond t 0 (later_sectors at len)) a b failed) (sym (le-ltb (most_of sectors at) len fits)) looks

pub fits_in : (sectors at len : ℕ) → 128 ≤ sectors → at ≤ 65536 → len ≤ most_of sectors at → at + len ≤ sectors * 512
fits_in sectors at len many front fits = grind arith

rounded : (n sectors : ℕ) → n ≤ sectors * 512 → (n + 511) / 512 ≤ sectors
rounded n sectors h = grind arith

-- the sectors past the first 128 lie on the disk
pub rest_inside : (first sectors at len all : ℕ) → 128 ≤ sectors → at ≤ 65536 → len ≤ most_of sectors at → first + sectors ≤ all
    → first + 128 + (at + len - 65536 + 511) / 512 ≤ all
rest_inside first sectors at len all many front fits inside =
    let whole = fits_in sectors at len many front fits in
    let part : at + len - 65536 ≤ (sectors - 128) * 512 = omega (arith, whole, many) in
    let rest = rounded (at + len - 65536) (sectors - 128) part in
    omega (arith, rest, inside, many)

-- ---- answers

pub disk_body_fault : (key : PackedKey) (signature : List ℕ) (first sectors at len : ℕ) (disk disk' : DiskState) (hook hook' : HookState)
    (body : List ℕ) (fault : BodyFault)
    → LooksAtDisk (read_sectors sectors at len) disk disk' false → Asked hook hook' false
    → AsksBehind {Answer = Option BodyFault} {E = Failure}
    (first_fault body_front (disk_body_question key signature first sectors at len disk hook)) hook hook' (Ok (Some fault))
    → (IsTrue disk.medium.told → IsTrue hook.told → first_fault body_table (disk_body_question key signature first sectors at len disk hook)
    ≡ Some fault)
    → ChecksDiskBody key signature first sectors at len disk disk' hook hook' body (Ok (Some fault))
disk_body_fault key signature first sectors at len disk disk' hook hook' body fault looks asked behind found = record {
  looks = looks;
  asked = asked;
  behind = behind;
  fault = λ told told'. sym (found told told');
  within = tt;
  many = tt;
  filled = λ told. tt;
}

-- a fault that is found before anything is read
pub disk_body_unread : (key : PackedKey) (signature : List ℕ) (first sectors at len : ℕ) (disk : DiskState) (hook : HookState)
    (body : List ℕ) (fault : BodyFault)
    → first_fault body_table (disk_body_question key signature first sectors at len disk hook) ≡ Some fault
    → ChecksDiskBody key signature first sectors at len disk disk hook hook body (Ok (Some fault))
disk_body_unread key signature first sectors at len disk hook body fault found =
    disk_body_fault key signature first sectors at len disk disk hook hook body fault (looks_none _ disk) (asked_none hook)
    (behind_none _ hook _) (λ told told'. found)

pub disk_body_failed : (key : PackedKey) (signature : List ℕ) (first sectors at len : ℕ) (disk disk' : DiskState) (hook hook' : HookState)
    (body : List ℕ) (failure : Failure)
    → LooksAtDisk (read_sectors sectors at len) disk disk' (is_store failure) → Asked hook hook' (is_hook failure)
    → first_fault body_front (disk_body_question key signature first sectors at len disk hook) ≡ None
    → ChecksDiskBody key signature first sectors at len disk disk' hook hook' body (Err failure)
disk_body_failed key signature first sectors at len disk disk' hook hook' body failure looks asked front = record {
  looks = looks;
  asked = asked;
  behind = behind_all _ hook hook' (Err failure) front;
  fault = λ told told'. tt;
  within = tt;
  many = tt;
  filled = λ told. tt;
}

pub disk_body_good : (key : PackedKey) (signature : List ℕ) (first sectors at len : ℕ) (disk disk' : DiskState) (hook hook' : HookState)
    (body : List ℕ)
    → LooksAtDisk (read_sectors sectors at len) disk disk' false → Asked hook hook' false
    → first_fault body_front (disk_body_question key signature first sectors at len disk hook) ≡ None
    → (IsTrue disk.medium.told → IsTrue hook.told → first_fault body_table (disk_body_question key signature first sectors at len disk hook)
    ≡ None)
    → len ≤ most_of sectors at → length body ≡ len → (IsTrue disk.medium.told → body ≡ range disk.medium.bytes (first * 512 + at) len)
    → ChecksDiskBody key signature first sectors at len disk disk' hook hook' body (Ok None)
disk_body_good key signature first sectors at len disk disk' hook hook' body looks asked front none within many filled = record {
  looks = looks;
  asked = asked;
  behind = behind_all _ hook hook' (Ok None) front;
  fault = λ told told'. sym (none told told');
  within = within;
  many = many;
  filled = filled;
}

in_partition : (bytes : List ℕ) (first sectors at len : ℕ) → at + len ≤ sectors * 512
    → range bytes (first * 512 + at) len ≡ take len (drop at (range bytes (first * 512) (sectors * 512)))
in_partition bytes first sectors at len within = sym (range-range bytes (first * 512) (sectors * 512) at len within)

-- what was read and asked for is the body in the partition
pub says_body : (hook : HookState) (key : PackedKey) (signature body bytes : List ℕ) (first sectors at len : ℕ) (said : Bool)
    → 128 ≤ sectors → at ≤ 65536 → len ≤ most_of sectors at → body ≡ range bytes (first * 512 + at) len
    → said ≡ is_enrolled hook.rows (key_of key) body signature
    → said ≡ is_enrolled hook.rows (key_of key) (take len (drop at (range bytes (first * 512) (sectors * 512)))) signature
says_body hook key signature body bytes first sectors at len said many front fits filled says =
    says ∙ ap (λ (m : List ℕ). is_enrolled hook.rows (key_of key) m signature)
    (filled ∙ in_partition bytes first sectors at len (fits_in sectors at len many front fits))

-- ---- the body of a head

-- What the parts were taken from.
pub record TakenFrom (vblock : List ℕ) (packed : PackedKey) (signature : List ℕ) : Type 0 where
  pub key : key_of packed ≡ head_key vblock
  pub signature_is : signature ≡ (head_preamble vblock).common.body_signature
  pub signature_size : length signature ≡ (body_signature_of kinds.Kernel (behind_keyblock vblock)).size

body_asked : (vblock : List ℕ) (head : HeadOk) (packed : PackedKey) (signature : List ℕ) (first sectors : ℕ) (disk : DiskState)
    (hook : HookState) → TakenFrom vblock packed signature
    → disk_body_question packed signature first sectors head.body_at head.body_len disk hook
    ≡ kernel_body_question vblock head first sectors disk hook
body_asked vblock head packed signature first sectors disk hook taken =
    same_body (disk_body_question packed signature first sectors head.body_at head.body_len disk hook)
    (kernel_body_question vblock head first sectors disk hook)
    refl refl refl taken.key taken.signature_is taken.signature_size refl

-- and the hook is asked behind the same lines
behind_same : (vblock : List ℕ) (head : HeadOk) (packed : PackedKey) (signature : List ℕ) (first sectors : ℕ) (disk : DiskState)
    (hook hook' : HookState) (result : Result (Option BodyFault) Failure) → TakenFrom vblock packed signature
    → AsksBehind (first_fault body_front (disk_body_question packed signature first sectors head.body_at head.body_len disk hook)) hook hook' result
    → AsksBehind (first_fault body_front (kernel_body_question vblock head first sectors disk hook)) hook hook' result
behind_same vblock head packed signature first sectors disk hook hook' result taken behind =
    subst (λ (q : BodyQuestion). AsksBehind (first_fault body_front q) hook hook' result)
    (body_asked vblock head packed signature first sectors disk hook taken) behind

pub body_of_head : (vblock : List ℕ) (head : HeadOk) (packed : PackedKey) (signature : List ℕ) (first sectors : ℕ) (disk disk' : DiskState)
    (hook hook' : HookState) (out : List ℕ) (result : Result (Option BodyFault) Failure)
    → IsHeadOf vblock head → length vblock ≡ 65536 → 128 ≤ sectors → TakenFrom vblock packed signature
    → ChecksDiskBody packed signature first sectors head.body_at head.body_len disk disk' hook hook' out result
    → VerifiesKernelBody vblock head first sectors disk disk' hook hook' out result
body_of_head vblock head packed signature first sectors disk disk' hook hook' out (Err failure) is long many_sectors taken checks = record {
  looks = checks.looks;
  asked = checks.asked;
  behind = behind_same vblock head packed signature first sectors disk hook hook' _ taken checks.behind;
  fault = λ told told'. tt;
  many = tt;
  body = λ told. tt;
  accepted = λ told told'. tt;
}
body_of_head vblock head packed signature first sectors disk disk' hook hook' out
    (Ok (Some fault)) is long many_sectors taken checks = record {
      looks = checks.looks;
      asked = checks.asked;
      behind = behind_same vblock head packed signature first sectors disk hook hook' _ taken checks.behind;
      fault = λ told told'. checks.fault told told'
          ∙ ap (first_fault body_table) (body_asked vblock head packed signature first sectors disk hook taken);
      many = tt;
      body = λ told. tt;
      accepted = λ told told'. tt;
    }
body_of_head vblock head packed signature first sectors disk disk' hook hook' out (Ok None) is long many_sectors taken checks =
    let q = kernel_body_question vblock head first sectors disk hook in
    let found : IsTrue disk.medium.told → IsTrue hook.told → None ≡ first_fault body_table q = λ told told'. checks.fault told told'
    ∙ ap (first_fault body_table) (body_asked vblock head packed signature first sectors disk hook taken) in
    let front : head.body_at ≤ 65536 = omega (arith, is.inside, long) in
    let key = is.key in
    record {
      looks = checks.looks;
      asked = checks.asked;
      behind = behind_same vblock head packed signature first sectors disk hook hook' _ taken checks.behind;
      fault = found;
      many = checks.many;
      body = λ told. checks.filled told ∙ in_partition disk.medium.bytes first sectors head.body_at head.body_len
          (fits_in sectors head.body_at head.body_len many_sectors front checks.within);
      accepted = λ told told'.
          accepts_body q (sym (found told told')) (record { algorithm_known = key.algorithm; not_sha1 = key.not_sha1; size_is = key.size })
          (ap (λ (xs : List ℕ). length xs) (sym taken.signature_is) ∙ taken.signature_size);
    }
