-- A drive of which some sectors were read, and whose hook was asked, tells what it told before.
use Rattle.std.proofs.Common.{◌≡◌, ℕ, ◌+◌, ◌*◌, ◌≤◌, Bool, false, not, ◌&&◌, nat_le, Option, Some, None, List, Ok, Err, Result, IfOk}
use Rattle.std.proofs.Common.{IfSome, refl, ap, subst, ◌∙◌}
use Rattle.std.specs.Prelude.{IsTrue, is_some, if◌then◌else◌}
use Rattle.wire_core.specs.FirstFault.{first_fault}
use Rattle.board_core.specs.Disk.{DiskMedium, DiskState}
use Rattle.board_core.specs.Flash.{range}
use Rattle.board_core.specs.Hook.{HookState}
use Rattle.board_core.specs.declared.hook_row.HookRow.{HookRow}
use Rattle.chain_core.specs.Accepted.{Asked, Accepts}
use Rattle.chain_core.specs.Bodies.{store_failed, hook_failed}
use Rattle.chain_core.specs.Tables.{body_table}
use Rattle.chain_core.specs.declared.fault.Failure.{Failure}
use Rattle.chain_core.proofs.Said.{asked_then}
use Rattle.kernel_core.specs.Heads.{HeadQuestion, head_key, head_preamble, head_fault, head_ok, HeadChain}
use Rattle.kernel_core.specs.HeadChecks.{head_question}
use Rattle.kernel_core.specs.KernelBodies.{LooksAtDisk, read_sectors, kernel_body, kernel_body_question}
use Rattle.kernel_core.specs.declared.head_fault.HeadOk.{HeadOk}
use Rattle.kernel_core.proofs.DiskLooks.{looks_then}
use Rattle.walk_core.specs.Kernels.{WalkQuestion, head_bytes, asked_of_head, has_good_head, head_in, body_fault, is_good, good_kernel_in}
use Rattle.walk_core.specs.Examined.{ExaminesHead, ExaminesKernel, FoundKernel, body_sectors}

-- the drive as disk and hook are now
abbrev pub drive_now : WalkQuestion → DiskState → HookState → WalkQuestion
drive_now d disk' hook' = record { disk = disk'; hook = hook'; key = d.key; rules = d.rules }

-- The same content.
pub record SameContent (d : WalkQuestion) (disk' : DiskState) (hook' : HookState) : Type 0 where
  pub bytes : disk'.medium.bytes ≡ d.disk.medium.bytes
  pub told : disk'.medium.told ≡ d.disk.medium.told
  pub rows : hook'.rows ≡ d.hook.rows
  pub hook_told : hook'.told ≡ d.hook.told

pub same_content : (n : ℕ) (d : WalkQuestion) (disk' : DiskState) (hook' : HookState) → LooksAtDisk n d.disk disk' false
    → Asked d.hook hook' false → SameContent d disk' hook'
same_content n d disk' hook' looks asked = record {
  bytes = ap (λ (m : DiskMedium). m.bytes) (looks.kept refl);
  told = looks.told;
  rows = asked.rows;
  hook_told = asked.told;
}

pub asked_same : (d : WalkQuestion) (first : ℕ) (disk' : DiskState) (hook' : HookState) → SameContent d disk' hook'
    → asked_of_head (drive_now d disk' hook') first ≡ asked_of_head d first
asked_same d first disk' hook' same =
    ap (λ (b : List ℕ). head_question (range b (first * 512) 65536) d.key d.rules hook') same.bytes
    ∙ ap (λ (r : List HookRow). head_question (head_bytes d first) d.key d.rules (record d.hook { rows = r })) same.rows

pub good_head_same : (d : WalkQuestion) (first sectors : ℕ) (disk' : DiskState) (hook' : HookState) → SameContent d disk' hook'
    → has_good_head (drive_now d disk' hook') first sectors ≡ has_good_head d first sectors
unfolding has_good_head
good_head_same d first sectors disk' hook' same =
    ap (λ (q : HeadQuestion). nat_le 128 sectors && not (is_some (head_fault q))) (asked_same d first disk' hook' same)

body_fault_same : (d : WalkQuestion) (first sectors : ℕ) (disk' : DiskState) (hook' : HookState) → SameContent d disk' hook'
    → body_fault (drive_now d disk' hook') first sectors ≡ body_fault d first sectors
unfolding body_fault
body_fault_same d first sectors disk' hook' same =
    let e = drive_now d disk' hook' in
    ap (λ (q : HeadQuestion). first_fault body_table (kernel_body_question q.vblock (head_ok q) first sectors disk' hook'))
    (asked_same d first disk' hook' same)
    ∙ ap (λ (b : List ℕ). first_fault body_table
    (kernel_body_question (head_bytes d first) (head_ok (asked_of_head d first)) first sectors
    (record d.disk { medium = record d.disk.medium { bytes = b } }) hook')) same.bytes
    ∙ ap (λ (r : List HookRow). first_fault body_table
    (kernel_body_question (head_bytes d first) (head_ok (asked_of_head d first)) first sectors d.disk
    (record d.hook { rows = r }))) same.rows

pub good_same : (d : WalkQuestion) (first sectors : ℕ) (disk' : DiskState) (hook' : HookState) → SameContent d disk' hook'
    → is_good (drive_now d disk' hook') first sectors ≡ is_good d first sectors
good_same d first sectors disk' hook' same =
    let e = drive_now d disk' hook' in
    ap (λ (good : Bool). good && not (is_some (body_fault e first sectors))) (good_head_same d first sectors disk' hook' same)
    ∙ ap (λ fault. has_good_head d first sectors && not (is_some fault)) (body_fault_same d first sectors disk' hook' same)

head_in_same : (d : WalkQuestion) (first sectors : ℕ) (disk' : DiskState) (hook' : HookState) → SameContent d disk' hook'
    → head_in (drive_now d disk' hook') first sectors ≡ head_in d first sectors
head_in_same d first sectors disk' hook' same =
    let e = drive_now d disk' hook' in
    ap (λ (good : Bool). if good then Some (head_ok (asked_of_head e first)) else None) (good_head_same d first sectors disk' hook' same)
    ∙ ap (λ (q : HeadQuestion). if has_good_head d first sectors then Some (head_ok q) else None) (asked_same d first disk' hook' same)

kernel_in_same : (d : WalkQuestion) (first sectors : ℕ) (disk' : DiskState) (hook' : HookState) → SameContent d disk' hook'
    → good_kernel_in (drive_now d disk' hook') first sectors ≡ good_kernel_in d first sectors
kernel_in_same d first sectors disk' hook' same =
    let e = drive_now d disk' hook' in
    ap (λ (good : Bool). if good then Some (head_ok (asked_of_head e first)) else None) (good_same d first sectors disk' hook' same)
    ∙ ap (λ (q : HeadQuestion). if is_good d first sectors then Some (head_ok q) else None) (asked_same d first disk' hook' same)

pub sectors_same : (d : WalkQuestion) (first sectors : ℕ) (disk' : DiskState) (hook' : HookState) → SameContent d disk' hook'
    → body_sectors (drive_now d disk' hook') first sectors ≡ body_sectors d first sectors
sectors_same d first sectors disk' hook' same =
    ap (λ (q : HeadQuestion). read_sectors sectors (head_ok q).body_at (head_ok q).body_len) (asked_same d first disk' hook' same)

-- ---- what was found

pub found_same : (d : WalkQuestion) (first sectors : ℕ) (disk' : DiskState) (hook' : HookState) (body : List ℕ) (head : HeadOk) → SameContent d disk' hook'
    → FoundKernel (drive_now d disk' hook') first sectors body head → FoundKernel d first sectors body head
found_same d first sectors disk' hook' body head same found =
    let e = drive_now d disk' hook' in
    let asked : asked_of_head e first ≡ asked_of_head d first = asked_same d first disk' hook' same in
    record {
      long = found.long;
      ok = λ told. found.ok (same.told ∙ told) ∙ ap (λ (q : HeadQuestion). head_ok q) asked;
      many = found.many;
      body = λ told. found.body (same.told ∙ told)
          ∙ ap (λ (b : List ℕ). kernel_body head first sectors (record d.disk.medium { bytes = b })) same.bytes;
      chain = λ told told'. subst (λ (q : HeadQuestion). HeadChain q) asked (found.chain (same.told ∙ told) (same.hook_told ∙ told'));
      accepted = λ told told'.
          subst (λ (q : HeadQuestion). Accepts d.hook.rows (head_key q.vblock) (head_preamble q.vblock).common.body_signature
          (kernel_body head first sectors d.disk.medium)) asked
          (subst (λ (b : List ℕ). Accepts d.hook.rows (head_key (head_bytes e first))
          (head_preamble (head_bytes e first)).common.body_signature
          (kernel_body head first sectors (record d.disk.medium { bytes = b }))) same.bytes
          (subst (λ (r : List HookRow). Accepts r (head_key (head_bytes e first)) (head_preamble (head_bytes e first)).common.body_signature
          (kernel_body head first sectors disk'.medium)) same.rows
          (found.accepted (same.told ∙ told) (same.hook_told ∙ told'))));
    }

any_found_same : (d : WalkQuestion) (first sectors : ℕ) (disk' : DiskState) (hook' : HookState) (body : List ℕ)
    (result : Result (Option HeadOk) Failure) → SameContent d disk' hook'
    → IfOk result (λ head. IfSome head (FoundKernel (drive_now d disk' hook') first sectors body))
    → IfOk result (λ head. IfSome head (FoundKernel d first sectors body))
any_found_same d first sectors disk' hook' body (Ok (Some head)) same found = found_same d first sectors disk' hook' body head same found
any_found_same d first sectors disk' hook' body (Ok None) same found = tt
any_found_same d first sectors disk' hook' body (Err failure) same found = tt

-- ---- an examination after others

-- The kernel of a partition was examined after at most so many sectors were read.
pub record KernelAfter (n : ℕ) (d : WalkQuestion) (first sectors : ℕ) (disk' disk'' : DiskState) (hook'' : HookState) (body : List ℕ)
    (result : Result (Option HeadOk) Failure) : Type 0 where
  pub looks : LooksAtDisk (n + (128 + body_sectors d first sectors)) d.disk disk'' (store_failed result)
  pub asked : Asked d.hook hook'' (hook_failed result)
  pub head_alone : IsTrue d.disk.medium.told → IsTrue d.hook.told → has_good_head d first sectors ≡ false
      → disk''.medium.sectors_read ≤ disk'.medium.sectors_read + 128
  pub no_more : IsTrue d.disk.medium.told → disk''.medium.sectors_read ≤ disk'.medium.sectors_read + (128 + body_sectors d first sectors)
  pub kernel : IsTrue d.disk.medium.told → IsTrue d.hook.told → IfOk result (λ head. head ≡ good_kernel_in d first sectors)
  pub found : IfOk result (λ head. IfSome head (FoundKernel d first sectors body))

kernel_after : (n : ℕ) (d : WalkQuestion) (first sectors : ℕ) (disk' disk'' : DiskState) (hook' hook'' : HookState) (body : List ℕ)
    (result : Result (Option HeadOk) Failure)
    → LooksAtDisk n d.disk disk' false → Asked d.hook hook' false
    → ExaminesKernel (drive_now d disk' hook') first sectors disk'' hook'' body result
    → KernelAfter n d first sectors disk' disk'' hook'' body result
kernel_after n d first sectors disk' disk'' hook' hook'' body result looks asked exam =
    let same = same_content n d disk' hook' looks asked in
    let many = sectors_same d first sectors disk' hook' same in
    let looked : LooksAtDisk (128 + body_sectors d first sectors) disk' disk'' (store_failed result) =
    subst (λ (m : ℕ). LooksAtDisk (128 + m) disk' disk'' (store_failed result)) many exam.looks in
    record {
      looks = looks_then n (128 + body_sectors d first sectors) d.disk disk' disk'' (store_failed result) looks looked;
      asked = asked_then d.hook hook' hook'' (hook_failed result) asked exam.asked;
      head_alone = λ told told' bad. exam.head_alone (same.told ∙ told) (same.hook_told ∙ told')
          (good_head_same d first sectors disk' hook' same ∙ bad);
      no_more = λ told. looked.no_more (same.told ∙ told);
      kernel = λ told told'. subst (λ (k : Option HeadOk). IfOk result (λ head. head ≡ k)) (kernel_in_same d first sectors disk' hook' same)
          (exam.kernel (same.told ∙ told) (same.hook_told ∙ told'));
      found = any_found_same d first sectors disk' hook' body result same exam.found;
    }

-- the same by the partition and the answer of a call
pub kernel_after_call : (n : ℕ) (d : WalkQuestion) (first sectors first' sectors' : ℕ) (disk' disk'' : DiskState) (hook' hook'' : HookState)
    (body : List ℕ) (result result' : Result (Option HeadOk) Failure)
    → LooksAtDisk n d.disk disk' false → Asked d.hook hook' false
    → ExaminesKernel (drive_now d disk' hook') first' sectors' disk'' hook'' body result'
    → first' ≡ first → sectors' ≡ sectors → result' ≡ result → KernelAfter n d first sectors disk' disk'' hook'' body result
kernel_after_call n d first sectors first' sectors' disk' disk'' hook' hook'' body result result' looks asked exam begins many is =
    kernel_after n d first sectors disk' disk'' hook' hook'' body result looks asked
    (subst (λ (r : Result (Option HeadOk) Failure). ExaminesKernel (drive_now d disk' hook') first sectors disk'' hook'' body r) is
    (subst (λ (s : ℕ). ExaminesKernel (drive_now d disk' hook') first s disk'' hook'' body result') many
    (subst (λ (f : ℕ). ExaminesKernel (drive_now d disk' hook') f sectors' disk'' hook'' body result') begins exam)))

-- The head of a partition was examined after at most so many sectors were read.
pub record HeadAfter (n : ℕ) (d : WalkQuestion) (first sectors : ℕ) (disk'' : DiskState) (hook'' : HookState)
    (result : Result (Option HeadOk) Failure) : Type 0 where
  pub looks : LooksAtDisk (n + 128) d.disk disk'' (store_failed result)
  pub asked : Asked d.hook hook'' (hook_failed result)
  pub head : IsTrue d.disk.medium.told → IsTrue d.hook.told → IfOk result (λ head. head ≡ head_in d first sectors)

head_after : (n : ℕ) (d : WalkQuestion) (first sectors : ℕ) (disk' disk'' : DiskState) (hook' hook'' : HookState) (vblock : List ℕ)
    (result : Result (Option HeadOk) Failure)
    → LooksAtDisk n d.disk disk' false → Asked d.hook hook' false
    → ExaminesHead (drive_now d disk' hook') first sectors disk'' hook'' vblock result
    → HeadAfter n d first sectors disk'' hook'' result
head_after n d first sectors disk' disk'' hook' hook'' vblock result looks asked exam =
    let same = same_content n d disk' hook' looks asked in
    record {
      looks = looks_then n 128 d.disk disk' disk'' (store_failed result) looks exam.looks;
      asked = asked_then d.hook hook' hook'' (hook_failed result) asked exam.asked;
      head = λ told told'. subst (λ (k : Option HeadOk). IfOk result (λ head. head ≡ k)) (head_in_same d first sectors disk' hook' same)
          (exam.head (same.told ∙ told) (same.hook_told ∙ told'));
    }

-- the same by the partition and the answer of a call
pub head_after_call : (n : ℕ) (d : WalkQuestion) (first sectors first' sectors' : ℕ) (disk' disk'' : DiskState) (hook' hook'' : HookState)
    (vblock : List ℕ) (result result' : Result (Option HeadOk) Failure)
    → LooksAtDisk n d.disk disk' false → Asked d.hook hook' false
    → ExaminesHead (drive_now d disk' hook') first' sectors' disk'' hook'' vblock result'
    → first' ≡ first → sectors' ≡ sectors → result' ≡ result → HeadAfter n d first sectors disk'' hook'' result
head_after_call n d first sectors first' sectors' disk' disk'' hook' hook'' vblock result result' looks asked exam begins many is =
    head_after n d first sectors disk' disk'' hook' hook'' vblock result looks asked
    (subst (λ (r : Result (Option HeadOk) Failure). ExaminesHead (drive_now d disk' hook') first sectors disk'' hook'' vblock r) is
    (subst (λ (s : ℕ). ExaminesHead (drive_now d disk' hook') first s disk'' hook'' vblock result') many
    (subst (λ (f : ℕ). ExaminesHead (drive_now d disk' hook') f sectors' disk'' hook'' vblock result') begins exam)))
