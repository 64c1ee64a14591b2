-- Answers of the examination of a kernel.
use Rattle.std.proofs.Common.{◌≡◌, ℕ, ◌+◌, ◌≤◌, Bool, true, false, cond, not, ◌&&◌, Option, Some, None, List, Ok, Err, Result, refl, ap}
use Rattle.std.proofs.Common.{sym, subst, ◌∙◌, arith}
use Rattle.std.specs.Prelude.{IsTrue, is_some}
use Rattle.std.proofs.lemmas.Bool.{cond-true, cond-false, false≢true}
use Rattle.wire_core.specs.FirstFault.{first_fault}
use Rattle.board_core.specs.Disk.{DiskState}
use Rattle.board_core.specs.Hook.{HookState}
use Rattle.board_core.specs.declared.hook_row.HookRow.{HookRow}
use Rattle.chain_core.specs.Accepted.{Asked, Accepts}
use Rattle.chain_core.specs.Bodies.{store_failed, hook_failed}
use Rattle.chain_core.specs.Tables.{BodyQuestion, body_table}
use Rattle.chain_core.specs.declared.fault.BodyFault.{BodyFault}
use Rattle.chain_core.specs.declared.fault.Failure.{Failure}
use Rattle.chain_core.proofs.Said.{asked_then}
use Rattle.kernel_core.specs.Heads.{head_key, head_preamble, head_ok}
use Rattle.kernel_core.specs.KernelBodies.{LooksAtDisk, read_sectors, kernel_body_question, kernel_body, VerifiesKernelBody}
use Rattle.kernel_core.specs.declared.head_fault.HeadOk.{HeadOk}
use Rattle.kernel_core.proofs.DiskLooks.{looks_then}
use Rattle.walk_core.specs.Kernels.{WalkQuestion, head_bytes, asked_of_head, has_good_head, body_fault, is_good, good_kernel_in}
use Rattle.walk_core.specs.Examined.{ExaminesHead, ExaminesKernel, body_sectors}

-- ---- whether a kernel is good

none_bad : (good : Bool) (head : HeadOk) → None ≡ cond good (Some head) None → good ≡ false
none_bad true head e = absurd (false≢true (ap (λ (o : Option HeadOk). is_some o) e))
none_bad false head e = refl

both : (good : Bool) (fault : Option BodyFault) → good ≡ true → fault ≡ None → (good && not (is_some fault)) ≡ true
both good fault e none = rw (e, none) refl

no_head : (good rest : Bool) → good ≡ false → (good && rest) ≡ false
no_head good rest e = rw e refl

no_body : (good : Bool) (fault : Option BodyFault) (what : BodyFault) → good ≡ true → fault ≡ Some what
    → (good && not (is_some fault)) ≡ false
no_body good fault what e is = rw (e, is) refl

in_good : (d : WalkQuestion) (first sectors : ℕ) → is_good d first sectors ≡ true
    → good_kernel_in d first sectors ≡ Some (head_ok (asked_of_head d first))
in_good d first sectors good = cond-true (is_good d first sectors) (Some (head_ok (asked_of_head d first))) None good

in_bad : (d : WalkQuestion) (first sectors : ℕ) → is_good d first sectors ≡ false → good_kernel_in d first sectors ≡ None
in_bad d first sectors bad = cond-false (is_good d first sectors) (Some (head_ok (asked_of_head d first))) None bad

-- ---- what is read

looks_told : (m n : ℕ) (a b : DiskState) (failed : Bool) → (IsTrue a.medium.told → m ≤ n) → LooksAtDisk m a b failed
    → LooksAtDisk n a b failed
looks_told m n a b failed less looks = record {
  counters = looks.counters;
  sectors = looks.sectors;
  told = looks.told;
  bytes = looks.bytes;
  kept = looks.kept;
  none_pending = looks.none_pending;
  err = looks.err;
  no_fewer = looks.no_fewer;
  no_more = λ t. let one = looks.no_more t in let more = less t in omega (arith, one, more);
}

same_sectors : (sectors : ℕ) (head head' : HeadOk) → head ≡ head'
    → 128 + read_sectors sectors head.body_at head.body_len ≤ 128 + read_sectors sectors head'.body_at head'.body_len
same_sectors sectors head head' same = subst (λ
    (h : HeadOk). 128 + read_sectors sectors head.body_at head.body_len ≤ 128 + read_sectors sectors h.body_at h.body_len) same
    (omega arith)

-- what is asked of a body after the head was read is what the drive tells
same_question : (d : WalkQuestion) (first sectors : ℕ) (disk' : DiskState) (hook' : HookState) (vblock : List ℕ) (head : HeadOk)
    → vblock ≡ head_bytes d first → head ≡ head_ok (asked_of_head d first) → disk'.medium.bytes ≡ d.disk.medium.bytes
    → hook'.rows ≡ d.hook.rows
    → kernel_body_question vblock head first sectors disk' hook' ≡ kernel_body_question (head_bytes d first)
    (head_ok (asked_of_head d first)) first sectors d.disk d.hook
same_question d first sectors disk' hook' vblock head filled ok bytes rows =
    ap (λ (v : List ℕ). kernel_body_question v head first sectors disk' hook') filled
    ∙ ap (λ (h : HeadOk). kernel_body_question (head_bytes d first) h first sectors disk' hook') ok
    ∙ ap (λ (b : List ℕ). kernel_body_question (head_bytes d first) (head_ok (asked_of_head d first)) first sectors
    (record d.disk { medium = record d.disk.medium { bytes = b } }) hook') bytes
    ∙ ap (λ (r : List HookRow). kernel_body_question (head_bytes d first) (head_ok (asked_of_head d first)) first sectors d.disk
    (record d.hook { rows = r })) rows

fault_is : (d : WalkQuestion) (first sectors : ℕ) (fault : Option BodyFault) (q : BodyQuestion)
    → q ≡ kernel_body_question (head_bytes d first) (head_ok (asked_of_head d first)) first sectors d.disk d.hook
    → fault ≡ first_fault body_table q → body_fault d first sectors ≡ fault
unfolding body_fault
fault_is d first sectors fault q same is = sym (is ∙ ap (λ (asked : BodyQuestion). first_fault body_table asked) same)

-- ---- the exits

pub head_failed : (d : WalkQuestion) (first sectors : ℕ) (disk' : DiskState) (hook' : HookState) (vblock body : List ℕ) (failure : Failure)
    → ExaminesHead d first sectors disk' hook' vblock (Err failure) → ExaminesKernel d first sectors disk' hook' body (Err failure)
head_failed d first sectors disk' hook' vblock body failure exam = record {
  looks = looks_told 128 (128 + body_sectors d first sectors) d.disk disk' (store_failed {T = Option HeadOk} (Err failure))
      (λ t. omega arith) exam.looks;
  head_alone = λ told told' bad. exam.looks.no_more told;
  asked = exam.asked;
  kernel = λ told told'. tt;
  found = tt;
}

-- the head is good, and the body was looked at
both_looks : (d : WalkQuestion) (first sectors : ℕ) (disk' disk'' : DiskState) (hook' hook'' : HookState) (vblock body : List ℕ)
    (head : HeadOk) (result : Result (Option BodyFault) Failure)
    → ExaminesHead d first sectors disk' hook' vblock (Ok (Some head))
    → VerifiesKernelBody vblock head first sectors disk' disk'' hook' hook'' body result
    → LooksAtDisk (128 + body_sectors d first sectors) d.disk disk'' (store_failed result)
both_looks d first sectors disk' disk'' hook' hook'' vblock body head result exam verifies =
    looks_told (128 + read_sectors sectors head.body_at head.body_len) (128 + body_sectors d first sectors) d.disk disk''
    (store_failed result)
    (λ t. same_sectors sectors head (head_ok (asked_of_head d first)) (exam.found.ok t))
    (looks_then 128 (read_sectors sectors head.body_at head.body_len) d.disk disk' disk'' (store_failed result) exam.looks verifies.looks)

both_asked : (d : WalkQuestion) (first sectors : ℕ) (disk' disk'' : DiskState) (hook' hook'' : HookState) (vblock body : List ℕ)
    (head : HeadOk) (result : Result (Option BodyFault) Failure)
    → ExaminesHead d first sectors disk' hook' vblock (Ok (Some head))
    → VerifiesKernelBody vblock head first sectors disk' disk'' hook' hook'' body result
    → Asked d.hook hook'' (hook_failed result)
both_asked d first sectors disk' disk'' hook' hook'' vblock body head result exam verifies = asked_then d.hook hook' hook''
    (hook_failed result) exam.asked verifies.asked

pub body_failed : (d : WalkQuestion) (first sectors : ℕ) (disk' disk'' : DiskState) (hook' hook'' : HookState) (vblock body : List ℕ)
    (head : HeadOk) (failure : Failure)
    → ExaminesHead d first sectors disk' hook' vblock (Ok (Some head))
    → VerifiesKernelBody vblock head first sectors disk' disk'' hook' hook'' body (Err failure)
    → ExaminesKernel d first sectors disk'' hook'' body (Err failure)
body_failed d first sectors disk' disk'' hook' hook'' vblock body head failure exam verifies = record {
  looks = both_looks d first sectors disk' disk'' hook' hook'' vblock body head (Err failure) exam verifies;
  head_alone = λ told told' bad. absurd (false≢true (sym bad ∙ exam.found.good told told'));
  asked = both_asked d first sectors disk' disk'' hook' hook'' vblock body head (Err failure) exam verifies;
  kernel = λ told told'. tt;
  found = tt;
}

-- the fault of the body is what the table finds
found_fault : (d : WalkQuestion) (first sectors : ℕ) (disk' disk'' : DiskState) (hook' hook'' : HookState) (vblock body : List ℕ)
    (head : HeadOk) (fault : Option BodyFault)
    → ExaminesHead d first sectors disk' hook' vblock (Ok (Some head))
    → VerifiesKernelBody vblock head first sectors disk' disk'' hook' hook'' body (Ok fault)
    → IsTrue d.disk.medium.told → IsTrue d.hook.told → body_fault d first sectors ≡ fault
found_fault d first sectors disk' disk'' hook' hook'' vblock body head fault exam verifies told told' =
    fault_is d first sectors fault (kernel_body_question vblock head first sectors disk' hook')
    (same_question d first sectors disk' hook' vblock head (exam.found.filled told) (exam.found.ok told)
    (exam.looks.bytes told) exam.asked.rows)
    (verifies.fault (exam.looks.told ∙ told) (exam.asked.told ∙ told'))

pub bad_body : (d : WalkQuestion) (first sectors : ℕ) (disk' disk'' : DiskState) (hook' hook'' : HookState) (vblock body : List ℕ)
    (head : HeadOk) (fault : BodyFault)
    → ExaminesHead d first sectors disk' hook' vblock (Ok (Some head))
    → VerifiesKernelBody vblock head first sectors disk' disk'' hook' hook'' body (Ok (Some fault))
    → ExaminesKernel d first sectors disk'' hook'' body (Ok None)
bad_body d first sectors disk' disk'' hook' hook'' vblock body head fault exam verifies = record {
  looks = both_looks d first sectors disk' disk'' hook' hook'' vblock body head (Ok (Some fault)) exam verifies;
  head_alone = λ told told' bad. absurd (false≢true (sym bad ∙ exam.found.good told told'));
  asked = both_asked d first sectors disk' disk'' hook' hook'' vblock body head (Ok (Some fault)) exam verifies;
  kernel = λ told told'. sym (in_bad d first sectors
      (no_body (has_good_head d first sectors) (body_fault d first sectors) fault (exam.found.good told told')
      (found_fault d first sectors disk' disk'' hook' hook'' vblock body head (Some fault) exam verifies told told')));
  found = tt;
}

-- the signature of the body is accepted for what the disk holds
same_accepts : (d : WalkQuestion) (first sectors : ℕ) (disk' : DiskState) (hook' : HookState) (vblock : List ℕ) (head : HeadOk)
    → vblock ≡ head_bytes d first → disk'.medium.bytes ≡ d.disk.medium.bytes → hook'.rows ≡ d.hook.rows
    → Accepts hook'.rows (head_key vblock) (head_preamble vblock).common.body_signature (kernel_body head first sectors disk'.medium)
    → Accepts d.hook.rows (head_key (head_bytes d first)) (head_preamble (head_bytes d first)).common.body_signature
    (kernel_body head first sectors d.disk.medium)
same_accepts d first sectors disk' hook' vblock head filled bytes rows accepts =
    subst (λ (v : List ℕ). Accepts d.hook.rows (head_key v) (head_preamble v).common.body_signature
    (kernel_body head first sectors d.disk.medium)) filled
    (subst (λ (b : List ℕ). Accepts d.hook.rows (head_key vblock) (head_preamble vblock).common.body_signature
    (kernel_body head first sectors (record d.disk.medium { bytes = b }))) bytes
    (subst (λ (r : List HookRow). Accepts r (head_key vblock) (head_preamble vblock).common.body_signature
    (kernel_body head first sectors disk'.medium)) rows accepts))

pub good_body : (d : WalkQuestion) (first sectors : ℕ) (disk' disk'' : DiskState) (hook' hook'' : HookState) (vblock body : List ℕ)
    (head : HeadOk)
    → ExaminesHead d first sectors disk' hook' vblock (Ok (Some head))
    → VerifiesKernelBody vblock head first sectors disk' disk'' hook' hook'' body (Ok None)
    → ExaminesKernel d first sectors disk'' hook'' body (Ok (Some head))
good_body d first sectors disk' disk'' hook' hook'' vblock body head exam verifies = record {
  looks = both_looks d first sectors disk' disk'' hook' hook'' vblock body head (Ok None) exam verifies;
  head_alone = λ told told' bad. absurd (false≢true (sym bad ∙ exam.found.good told told'));
  asked = both_asked d first sectors disk' disk'' hook' hook'' vblock body head (Ok None) exam verifies;
  kernel = λ told told'. ap Some (exam.found.ok told)
      ∙ sym (in_good d first sectors (both (has_good_head d first sectors) (body_fault d first sectors) (exam.found.good told told')
      (found_fault d first sectors disk' disk'' hook' hook'' vblock body head None exam verifies told told')));
  found = record {
    long = exam.found.long;
    ok = exam.found.ok;
    many = verifies.many;
    body = λ told. verifies.body (exam.looks.told ∙ told)
        ∙ ap (λ (b : List ℕ). kernel_body head first sectors (record d.disk.medium { bytes = b })) (exam.looks.bytes told);
    chain = exam.found.chain;
    accepted = λ told told'. same_accepts d first sectors disk' hook' vblock head (exam.found.filled told)
        (exam.looks.bytes told) exam.asked.rows (verifies.accepted (exam.looks.told ∙ told) (exam.asked.told ∙ told'));
  };
}
