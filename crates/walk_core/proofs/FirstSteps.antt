-- The candidates in turn up to the first good one: what is known after so many of them.
use Rattle.std.proofs.Common.{◌≡◌, ℕ, ◌+◌, ◌<◌, ◌≤◌, ◌⊎◌, inl, inr, Bool, true, false, cond, not, ◌&&◌, Option, Some, None, is_some, List}
use Rattle.std.proofs.Common.{length, get_or, take, sum_by, Ok, Err, Result, refl, ap, sym, subst, ◌∙◌, arith, take_all, true≢false}
use Rattle.std.specs.Prelude.{IsTrue, if◌then◌else◌}
use Rattle.std.proofs.lemmas.Bool.{and_from, and_parts, false≢true, ltb-true}
use Rattle.std.proofs.lemmas.List.Sums.{sum_by_more, sum_by-take-le}
use Rattle.board_core.specs.Disk.{DiskState}
use Rattle.board_core.specs.Hook.{HookState}
use Rattle.gpt_core.specs.Entries.{first_in}
use Rattle.gpt_core.proofs.AllBelow.{all_below-always}
use Rattle.chain_core.specs.Accepted.{Asked}
use Rattle.chain_core.specs.Bodies.{store_failed, hook_failed}
use Rattle.chain_core.specs.declared.fault.Failure.{Failure}
use Rattle.chain_core.proofs.Said.{asked_none}
use Rattle.kernel_core.specs.KernelBodies.{LooksAtDisk}
use Rattle.kernel_core.specs.Heads.{head_ok}
use Rattle.kernel_core.specs.declared.head_fault.HeadOk.{HeadOk}
use Rattle.kernel_core.proofs.DiskLooks.{looks_none, looks_more}
use Rattle.walk_core.specs.Candidates.{is_candidate, rank_in}
use Rattle.walk_core.specs.Kernels.{WalkQuestion, asked_of_head}
use Rattle.walk_core.specs.Chosen.{sectors_in, head_is_good, kernel_is_good, is_good_candidate, comes_before}
use Rattle.walk_core.specs.Walks.{is_reached, body_sectors_in}
use Rattle.walk_core.specs.Steps.{entry_at, entry_in_order, sectors_of_rank, most_sectors_of_rank, FindsFirst}
use Rattle.walk_core.proofs.OrderFacts.{Ordered, HasPlace, place_before, rank_rest}
use Rattle.walk_core.proofs.SameDrives.{KernelAfter}

-- What is known after so many candidates, none of which was good.
pub record GoneThrough (d : WalkQuestion) (entries ranks : List ℕ) (place : ℕ) (disk' : DiskState) (hook' : HookState) : Type 0 where
  pub looks : LooksAtDisk (sum_by (most_sectors_of_rank d entries) (take place ranks)) d.disk disk' false
  pub asked : Asked d.hook hook' false
  pub reads : IsTrue d.disk.medium.told → IsTrue d.hook.told
      → disk'.medium.sectors_read ≤ d.disk.medium.sectors_read + sum_by (sectors_of_rank d entries) (take place ranks)
  pub bad : IsTrue d.disk.medium.told → IsTrue d.hook.told → (p : ℕ) → p < place → kernel_is_good d entries (entry_in_order ranks p) ≡ false

pub gone_none : (d : WalkQuestion) (entries ranks : List ℕ) → GoneThrough d entries ranks 0 d.disk d.hook
gone_none d entries ranks = record {
  looks = looks_none 0 d.disk;
  asked = asked_none d.hook;
  reads = λ told told'. omega arith;
  bad = λ told told' p before. absurd (omega (arith, before));
}

-- ---- the sectors that are read for one of them

-- the entry at a candidate's place
pub has_entry : (entries ranks : List ℕ) (k : ℕ) (has : HasPlace entries ranks k) → k < 128 → entry_in_order ranks has.place ≡ k
has_entry entries ranks k has below = ap entry_at has.is ∙ rank_rest entries k below

-- no good candidate is before it
reached_here : (d : WalkQuestion) (entries ranks : List ℕ) (o : Ordered entries ranks) (place : ℕ) → place < length ranks
    → ((p : ℕ) → p < place → kernel_is_good d entries (entry_in_order ranks p) ≡ false)
    → (j : ℕ) → j < 128 → (b : Bool) → (is_good_candidate d entries j && comes_before entries j (entry_in_order ranks place)) ≡ b
    → not b ≡ true
reached_here d entries ranks o place inside bad j below false is = refl
reached_here d entries ranks o place inside bad j below true is =
    let parts = and_parts (is_good_candidate d entries j) (comes_before entries j (entry_in_order ranks place)) is in
    let good = and_parts (is_candidate entries j) (kernel_is_good d entries j) parts.0 in
    let before : rank_in entries j < rank_in entries (entry_in_order ranks place) = ltb-true (rank_in entries j)
    (rank_in entries (entry_in_order ranks place)) parts.1 in
    let here : get_or ranks place 0 ≡ rank_in entries (entry_in_order ranks place) = (o.ranked place inside).same in
    let has = o.places j below good.0 in
    let earlier : has.place < place = place_before entries ranks o place j inside below good.0
    (subst (λ (r : ℕ). rank_in entries j < r) (sym here) before) in
    let entry : entry_in_order ranks has.place ≡ j = has_entry entries ranks j has below in
    absurd (true≢false (sym good.1 ∙ ap (kernel_is_good d entries) (sym entry) ∙ bad has.place earlier))

pub reached : (d : WalkQuestion) (entries ranks : List ℕ) (o : Ordered entries ranks) (place : ℕ) → place < length ranks
    → ((p : ℕ) → p < place → kernel_is_good d entries (entry_in_order ranks p) ≡ false)
    → is_reached d entries (entry_in_order ranks place) ≡ true
reached d entries ranks o place inside bad =
    all_below-always 128 (λ j. not (is_good_candidate d entries j && comes_before entries j (entry_in_order ranks place)))
    (λ j below. reached_here d entries ranks o place inside bad j below
    (is_good_candidate d entries j && comes_before entries j (entry_in_order ranks place)) refl)

within_head : (b : Bool) (more was now : ℕ) → now ≤ was + 128 → now ≤ was + (128 + (if b then more else 0))
within_head true more was now le = omega (arith, le)
within_head false more was now le = omega (arith, le)

within_body : (b : Bool) (more was now : ℕ) → b ≡ true → now ≤ was + (128 + more) → now ≤ was + (128 + (if b then more else 0))
within_body true more was now e le = le
within_body false more was now e le = absurd (false≢true e)

one_reads : (d : WalkQuestion) (entries ranks : List ℕ) (place was now : ℕ) (good : Bool)
    → head_is_good d entries (entry_in_order ranks place) ≡ good
    → is_reached d entries (entry_in_order ranks place) ≡ true
    → (head_is_good d entries (entry_in_order ranks place) ≡ false → now ≤ was + 128)
    → now ≤ was + (128 + body_sectors_in d entries (entry_in_order ranks place))
    → now ≤ was + sectors_of_rank d entries (get_or ranks place 0)
one_reads d entries ranks place was now true is reached alone most =
    let k = entry_in_order ranks place in
    within_body (is_reached d entries k && head_is_good d entries k) (body_sectors_in d entries k) was now
    (and_from (is_reached d entries k) (head_is_good d entries k) reached is) most
one_reads d entries ranks place was now false is reached alone most =
    let k = entry_in_order ranks place in
    within_head (is_reached d entries k && head_is_good d entries k) (body_sectors_in d entries k) was now (alone is)

-- ---- one more

sums : (a b c m n s : ℕ) → b ≤ a + m → c ≤ b + n → s ≡ m + n → c ≤ a + s
sums a b c m n s one two e = omega (arith, one, two, e)

up_to : (a b m n : ℕ) → a ≤ b + m → m ≤ n → a ≤ b + n
up_to a b m n one two = omega (arith, one, two)

pub record StepOf (d : WalkQuestion) (entries ranks : List ℕ) (place : ℕ) (disk'' : DiskState) (hook'' : HookState) (body : List ℕ)
    (result : Result (Option HeadOk) Failure) : Type 0 where
  pub looks : LooksAtDisk (sum_by (most_sectors_of_rank d entries) (take (place + 1) ranks)) d.disk disk'' (store_failed result)
  pub asked : Asked d.hook hook'' (hook_failed result)
  pub reads : IsTrue d.disk.medium.told → IsTrue d.hook.told
      → disk''.medium.sectors_read ≤ d.disk.medium.sectors_read + sum_by (sectors_of_rank d entries) (take (place + 1) ranks)

pub step_of : (d : WalkQuestion) (entries ranks : List ℕ) (place : ℕ) (disk' disk'' : DiskState) (hook' hook'' : HookState) (body : List ℕ)
    (result : Result (Option HeadOk) Failure)
    → Ordered entries ranks → place < length ranks → GoneThrough d entries ranks place disk' hook'
    → KernelAfter (sum_by (most_sectors_of_rank d entries) (take place ranks)) d (first_in entries (entry_in_order ranks place))
    (sectors_in entries (entry_in_order ranks place)) disk' disk'' hook'' body result
    → StepOf d entries ranks place disk'' hook'' body result
step_of d entries ranks place disk' disk'' hook' hook'' body result o inside gone after =
    let k = entry_in_order ranks place in
    let most = sum_by_more (most_sectors_of_rank d entries) ranks place 0 inside in
    let exact = sum_by_more (sectors_of_rank d entries) ranks place 0 inside in
    record {
      looks = subst (λ (n : ℕ). LooksAtDisk n d.disk disk'' (store_failed result)) (sym most) after.looks;
      asked = after.asked;
      reads = λ told told'.
          let before = gone.reads told told' in
          let here = one_reads d entries ranks place disk'.medium.sectors_read disk''.medium.sectors_read (head_is_good d entries k) refl
          (reached d entries ranks o place inside (gone.bad told told')) (after.head_alone told told') (after.no_more told) in
          sums d.disk.medium.sectors_read disk'.medium.sectors_read disk''.medium.sectors_read
          (sum_by (sectors_of_rank d entries) (take place ranks))
          (sectors_of_rank d entries (get_or ranks place 0))
          (sum_by (sectors_of_rank d entries) (take (place + 1) ranks)) before here exact;
    }

last_or_before : (p n : ℕ) → p < n + 1 → (n ≡ p) ⊎ (p < n)
last_or_before p n before = grind (arith, before)

none_here : (good : Bool) (head : HeadOk) → None ≡ cond good (Some head) None → good ≡ false
none_here true head e = absurd (false≢true (ap (λ (o : Option HeadOk). is_some o) e))
none_here false head e = refl

some_here : (good : Bool) (head head' : HeadOk) → Some head' ≡ cond good (Some head) None → good ≡ true
some_here true head head' e = refl
some_here false head head' e = absurd (true≢false (ap (λ (o : Option HeadOk). is_some o) e))

bad_too : (d : WalkQuestion) (entries ranks : List ℕ) (place p : ℕ) → p < place + 1
    → ((q : ℕ) → q < place → kernel_is_good d entries (entry_in_order ranks q) ≡ false)
    → kernel_is_good d entries (entry_in_order ranks place) ≡ false → kernel_is_good d entries (entry_in_order ranks p) ≡ false
bad_too d entries ranks place p before bad here =
    elim (last_or_before p place before) [
      | inl same ↦ subst (λ (q : ℕ). kernel_is_good d entries (entry_in_order ranks q) ≡ false) same here
      | inr earlier ↦ bad p earlier
    ]

-- one that is not good
pub gone_more : (d : WalkQuestion) (entries ranks : List ℕ) (place : ℕ) (disk' disk'' : DiskState) (hook' hook'' : HookState)
    (body : List ℕ)
    → Ordered entries ranks → place < length ranks → GoneThrough d entries ranks place disk' hook'
    → KernelAfter (sum_by (most_sectors_of_rank d entries) (take place ranks)) d (first_in entries (entry_in_order ranks place))
    (sectors_in entries (entry_in_order ranks place)) disk' disk'' hook'' body (Ok None)
    → GoneThrough d entries ranks (place + 1) disk'' hook''
gone_more d entries ranks place disk' disk'' hook' hook'' body o inside gone after =
    let k = entry_in_order ranks place in
    let step = step_of d entries ranks place disk' disk'' hook' hook'' body (Ok None) o inside gone after in
    record {
      looks = step.looks;
      asked = step.asked;
      reads = step.reads;
      bad = λ told told' p before. bad_too d entries ranks place p before (gone.bad told told')
          (none_here (kernel_is_good d entries k) (head_ok (asked_of_head d (first_in entries k))) (after.kernel told told'));
    }

-- ---- the exits

-- the first good one
pub first_taken : (d : WalkQuestion) (entries ranks : List ℕ) (place : ℕ) (disk' disk'' : DiskState) (hook' hook'' : HookState)
    (body : List ℕ) (head : HeadOk)
    → Ordered entries ranks → place < length ranks → GoneThrough d entries ranks place disk' hook'
    → KernelAfter (sum_by (most_sectors_of_rank d entries) (take place ranks)) d (first_in entries (entry_in_order ranks place))
    (sectors_in entries (entry_in_order ranks place)) disk' disk'' hook'' body (Ok (Some head))
    → FindsFirst d entries ranks disk'' hook'' body (Ok (Some (record { place = place; head = head })))
first_taken d entries ranks place disk' disk'' hook' hook'' body head o inside gone after =
    let k = entry_in_order ranks place in
    let step = step_of d entries ranks place disk' disk'' hook' hook'' body (Ok (Some head)) o inside gone after in
    record {
      looks = step.looks;
      asked = step.asked;
      reads = step.reads;
      bad = λ told told'. gone.bad told told';
      taken = record {
        inside = inside;
        found = after.found;
        good = λ told told'. some_here (kernel_is_good d entries k) (head_ok (asked_of_head d (first_in entries k))) head
            (after.kernel told told');
      };
    }

-- a failure
pub first_failed : (d : WalkQuestion) (entries ranks : List ℕ) (place : ℕ) (disk' disk'' : DiskState) (hook' hook'' : HookState)
    (body : List ℕ) (failure : Failure)
    → Ordered entries ranks → place < length ranks → GoneThrough d entries ranks place disk' hook'
    → KernelAfter (sum_by (most_sectors_of_rank d entries) (take place ranks)) d (first_in entries (entry_in_order ranks place))
    (sectors_in entries (entry_in_order ranks place)) disk' disk'' hook'' body (Err failure)
    → FindsFirst d entries ranks disk'' hook'' body (Err failure)
first_failed d entries ranks place disk' disk'' hook' hook'' body failure o inside gone after =
    let step = step_of d entries ranks place disk' disk'' hook' hook'' body (Err failure) o inside gone after in
    record {
      looks = looks_more (sum_by (most_sectors_of_rank d entries) (take (place + 1) ranks))
          (sum_by (most_sectors_of_rank d entries) ranks) d.disk disk''
          (store_failed {T = Option HeadOk} (Err failure)) (sum_by-take-le (most_sectors_of_rank d entries) ranks (place + 1)) step.looks;
      asked = step.asked;
      reads = λ told told'. let one = step.reads told told' in let all = sum_by-take-le (sectors_of_rank d entries) ranks (place + 1) in
          up_to disk''.medium.sectors_read d.disk.medium.sectors_read (sum_by (sectors_of_rank d entries) (take (place + 1) ranks))
          (sum_by (sectors_of_rank d entries) ranks) one all;
      bad = λ told told'. tt;
      taken = tt;
    }

-- the end
pub first_none : (d : WalkQuestion) (entries ranks : List ℕ) (place : ℕ) (disk' : DiskState) (hook' : HookState) (body : List ℕ)
    → place ≡ length ranks → GoneThrough d entries ranks place disk' hook' → FindsFirst d entries ranks disk' hook' body (Ok None)
first_none d entries ranks place disk' hook' body end gone =
    let whole : take place ranks ≡ ranks = ap (λ (n : ℕ). take n ranks) end ∙ take_all (length ranks) ranks (omega arith) in
    record {
      looks = subst (λ (l : List ℕ). LooksAtDisk (sum_by (most_sectors_of_rank d entries) l) d.disk disk' false) whole gone.looks;
      asked = gone.asked;
      reads = λ told told'. subst (λ (l : List ℕ). disk'.medium.sectors_read ≤ d.disk.medium.sectors_read + sum_by
          (sectors_of_rank d entries) l) whole (gone.reads told told');
      bad = λ told told' p inside. gone.bad told told' p (omega (arith, end, inside));
      taken = tt;
    }
