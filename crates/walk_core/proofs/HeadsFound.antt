-- Answers of the examination of a head.
use Rattle.std.proofs.Common.{◌≡◌, ℕ, ◌*◌, ◌≤◌, ◌<◌, Bool, true, false, not, ◌&&◌, nat_le, Option, Some, None, List, Ok, Err, Result, refl}
use Rattle.std.proofs.Common.{ap, sym, subst, ◌∙◌, arith}
use Rattle.std.specs.Prelude.{IsTrue, IsSome, OnOk, is_err, is_some}
use Rattle.std.proofs.lemmas.Bool.{cond-true, cond-false, true≢false, le-leb, lt-leb}
use Rattle.board_core.specs.Disk.{DiskState}
use Rattle.board_core.specs.Flash.{range}
use Rattle.board_core.specs.Hook.{HookState}
use Rattle.chain_core.specs.declared.fault.Failure.TheVariants as failures
use Rattle.chain_core.proofs.Said.{asked_none}
use Rattle.kernel_core.specs.Heads.{HeadQuestion, asked_of_keyblock, head_fault, head_ok, HeadChain}
use Rattle.kernel_core.specs.HeadChecks.{head_question, VerifiesHead}
use Rattle.kernel_core.specs.KernelBodies.{LooksAtDisk}
use Rattle.kernel_core.specs.KernelTables.{kernel_keyblock_front}
use Rattle.kernel_core.specs.declared.head_fault.HeadFault.{HeadFault}
use Rattle.kernel_core.specs.declared.head_fault.HeadOk.{HeadOk}
use Rattle.kernel_core.proofs.DiskLooks.{looks_none}
use Rattle.walk_core.specs.Kernels.{WalkQuestion, head_bytes, asked_of_head, head_front, has_good_head, head_in}
use Rattle.walk_core.specs.Examined.{ExaminesHead}

-- ---- whether a head is good

le-test : (a b : ℕ) → a ≤ b → nat_le a b ≡ true
le-test a b le = le-leb a b le

gt-test : (a b : ℕ) → b < a → nat_le a b ≡ false
gt-test a b gt = lt-leb a b gt

no_fault : (long : Bool) (fault : Option HeadFault) → long ≡ true → fault ≡ None → (long && not (is_some fault)) ≡ true
no_fault long fault e none = rw (e, none) refl

a_fault : (long : Bool) (fault : Option HeadFault) (what : HeadFault) → long ≡ true → fault ≡ Some what
    → (long && not (is_some fault)) ≡ false
a_fault long fault what e is = rw (e, is) refl

too_short : (long good : Bool) → long ≡ false → (long && good) ≡ false
too_short long good e = rw e refl

good-none : (d : WalkQuestion) (first sectors : ℕ) → 128 ≤ sectors → head_fault (asked_of_head d first) ≡ None
    → has_good_head d first sectors ≡ true
unfolding has_good_head
good-none d first sectors long none = no_fault (nat_le 128 sectors) (head_fault (asked_of_head d first)) (le-test 128 sectors long) none

bad-fault : (d : WalkQuestion) (first sectors : ℕ) (what : HeadFault) → 128 ≤ sectors → head_fault (asked_of_head d first) ≡ Some what
    → has_good_head d first sectors ≡ false
unfolding has_good_head
bad-fault d first sectors what long is = a_fault (nat_le 128 sectors) (head_fault (asked_of_head d first)) what
    (le-test 128 sectors long) is

bad-short : (d : WalkQuestion) (first sectors : ℕ) → sectors < 128 → has_good_head d first sectors ≡ false
unfolding has_good_head
bad-short d first sectors short = too_short (nat_le 128 sectors) (not (is_some (head_fault (asked_of_head d first))))
    (gt-test 128 sectors short)

in-good : (d : WalkQuestion) (first sectors : ℕ) → has_good_head d first sectors ≡ true
    → head_in d first sectors ≡ Some (head_ok (asked_of_head d first))
in-good d first sectors good = cond-true (has_good_head d first sectors) (Some (head_ok (asked_of_head d first))) None good

in-bad : (d : WalkQuestion) (first sectors : ℕ) → has_good_head d first sectors ≡ false → head_in d first sectors ≡ None
in-bad d first sectors bad = cond-false (has_good_head d first sectors) (Some (head_ok (asked_of_head d first))) None bad

-- ---- the bytes that were read

pub record HeadRead (d : WalkQuestion) (first : ℕ) (disk' : DiskState) (vblock : List ℕ) : Type 0 where
  pub looks : LooksAtDisk 128 d.disk disk' false
  pub filled : IsTrue d.disk.medium.told → vblock ≡ head_bytes d first

pub head_read : {E : Type 0} (d : WalkQuestion) (first : ℕ) (disk' : DiskState) (vblock : List ℕ) (read : Result Unit E)
    → is_err read ≡ false
    → LooksAtDisk 128 d.disk disk' (is_err read)
    → (IsTrue disk'.medium.told → OnOk read (vblock ≡ range disk'.medium.bytes (first * 512) 65536))
    → HeadRead d first disk' vblock
head_read d first disk' vblock (Ok x) e looks filled = record {
  looks = looks;
  filled = λ told. filled (looks.told ∙ told) ∙ ap (λ (bytes : List ℕ). range bytes (first * 512) 65536) (looks.bytes told);
}
head_read d first disk' vblock (Err x) e looks filled = absurd (true≢false e)

-- ---- the exits

-- where the bytes that were read have a fault before the hook is asked, those of the disk have
unasked_told : (d : WalkQuestion) (first : ℕ) (vblock : List ℕ) (hook' : HookState) → vblock ≡ head_bytes d first
    → (IsSome (kernel_keyblock_front (asked_of_keyblock (head_question vblock d.key d.rules d.hook))) → hook' ≡ d.hook)
    → IsSome (head_front d first) → hook' ≡ d.hook
unasked_told d first vblock hook' filled unasked =
    subst (λ (bytes : List ℕ). IsSome (kernel_keyblock_front (asked_of_keyblock (head_question bytes d.key d.rules d.hook)))
    → hook' ≡ d.hook)
    filled unasked

-- the disk failed
pub unread_head : (d : WalkQuestion) (first sectors : ℕ) (disk' : DiskState) (vblock : List ℕ) → LooksAtDisk 128 d.disk disk' true
    → ExaminesHead d first sectors disk' d.hook vblock (Err failures.Store)
unread_head d first sectors disk' vblock looks = record {
  looks = looks;
  asked = asked_none d.hook;
  short = λ less. refl;
  unasked = λ told some. refl;
  failed = λ told hook. absurd (true≢false (sym hook));
  head = λ told told'. tt;
  found = tt;
}

-- the hook failed
pub unheard_head : {E : Type 0} (d : WalkQuestion) (first sectors : ℕ) (disk' : DiskState) (hook' : HookState) (vblock : List ℕ) (e : E)
    → 128 ≤ sectors → HeadRead d first disk' vblock
    → VerifiesHead {E = E} (head_question vblock d.key d.rules d.hook) d.hook hook' (Err e)
    → ExaminesHead d first sectors disk' hook' vblock (Err failures.Hook)
unheard_head d first sectors disk' hook' vblock e long read verifies = record {
  looks = read.looks;
  asked = verifies.asked;
  short = λ less. absurd (omega arith);
  unasked = λ told. unasked_told d first vblock hook' (read.filled told) verifies.behind.unasked;
  failed = λ told hook. (
    long,
    subst (λ (bytes : List ℕ).
        kernel_keyblock_front (asked_of_keyblock (head_question bytes d.key d.rules d.hook)) ≡ None)
        (read.filled told) verifies.behind.failed,
  );
  head = λ told told'. tt;
  found = tt;
}

pub short_head : (d : WalkQuestion) (first sectors : ℕ) (vblock : List ℕ) → sectors < 128
    → ExaminesHead d first sectors d.disk d.hook vblock (Ok None)
short_head d first sectors vblock short = record {
  looks = looks_none 128 d.disk;
  asked = asked_none d.hook;
  short = λ less. refl;
  unasked = λ told some. refl;
  failed = λ told. tt;
  head = λ told told'. sym (in-bad d first sectors (bad-short d first sectors short));
  found = tt;
}

pub good_head : {E : Type 0} (d : WalkQuestion) (first sectors : ℕ) (disk' : DiskState) (hook' : HookState) (vblock : List ℕ)
    (head : HeadOk) (result : Result (Result HeadOk HeadFault) E)
    → 128 ≤ sectors → HeadRead d first disk' vblock
    → VerifiesHead (head_question vblock d.key d.rules d.hook) d.hook hook' result → result ≡ Ok (Ok head)
    → ExaminesHead d first sectors disk' hook' vblock (Ok (Some head))
good_head d first sectors disk' hook' vblock head result long read verifies is =
    let q : List ℕ → HeadQuestion = λ bytes. head_question bytes d.key d.rules d.hook in
    let meets = subst (λ r. VerifiesHead (q vblock) d.hook hook' r) is verifies in
    record {
      looks = read.looks;
      asked = meets.asked;
      short = λ less. absurd (omega arith);
      unasked = λ told. unasked_told d first vblock hook' (read.filled told) meets.behind.unasked;
      failed = λ told. tt;
      head = λ told told'.
          ap Some (meets.ok ∙ ap (λ (bytes : List ℕ). head_ok (q bytes)) (read.filled told))
          ∙ sym (in-good d first sectors (good-none d first sectors long
          (subst (λ (bytes : List ℕ). head_fault (q bytes) ≡ None) (read.filled told) (meets.none told'))));
      found = record {
        long = long;
        is_head = meets.head;
        filled = read.filled;
        ok = λ told. meets.ok ∙ ap (λ (bytes : List ℕ). head_ok (q bytes)) (read.filled told);
        good = λ told told'. good-none d first sectors long
            (subst (λ (bytes : List ℕ). head_fault (q bytes) ≡ None) (read.filled told) (meets.none told'));
        chain = λ told told'. subst (λ (bytes : List ℕ). HeadChain (q bytes)) (read.filled told) (meets.chain told');
      };
    }

pub bad_head : {E : Type 0} (d : WalkQuestion) (first sectors : ℕ) (disk' : DiskState) (hook' : HookState) (vblock : List ℕ)
    (fault : HeadFault) (result : Result (Result HeadOk HeadFault) E)
    → 128 ≤ sectors → HeadRead d first disk' vblock
    → VerifiesHead (head_question vblock d.key d.rules d.hook) d.hook hook' result → result ≡ Ok (Err fault)
    → ExaminesHead d first sectors disk' hook' vblock (Ok None)
bad_head d first sectors disk' hook' vblock fault result long read verifies is =
    let q : List ℕ → HeadQuestion = λ bytes. head_question bytes d.key d.rules d.hook in
    let meets = subst (λ r. VerifiesHead (q vblock) d.hook hook' r) is verifies in
    record {
      looks = read.looks;
      asked = meets.asked;
      short = λ less. absurd (omega arith);
      unasked = λ told. unasked_told d first vblock hook' (read.filled told) meets.behind.unasked;
      failed = λ told. tt;
      head = λ told told'. sym (in-bad d first sectors
          (bad-fault d first sectors fault long (subst (λ (bytes : List ℕ). head_fault (q bytes) ≡ Some fault) (read.filled told)
          (meets.fault told'))));
      found = tt;
    }
