-- The exits of a walk.
use Rattle.std.proofs.Common.{◌≡◌, ℕ, ◌+◌, ◌-◌, ◌*◌, ◌<◌, ◌≤◌, inl, inr, Bool, true, false, Option, Some, None, List, length, take, drop}
use Rattle.std.proofs.Common.{sum_by, Ok, Err, Result, refl, ap, sym, subst, ◌∙◌, arith, take_all, get_or-drop, length-drop}
use Rattle.std.specs.Prelude.{IsTrue}
use Rattle.board_core.specs.Disk.{DiskState}
use Rattle.board_core.specs.Hook.{HookState}
use Rattle.gpt_core.specs.Entries.{first_in}
use Rattle.gpt_core.specs.Room.{RoomView}
use Rattle.chain_core.specs.Accepted.{Asked}
use Rattle.chain_core.specs.Bodies.{store_failed, hook_failed}
use Rattle.chain_core.specs.declared.fault.Failure.{Failure}
use Rattle.chain_core.proofs.Said.{asked_then}
use Rattle.kernel_core.specs.Heads.{HeadQuestion, head_ok}
use Rattle.kernel_core.specs.KernelBodies.{LooksAtDisk}
use Rattle.kernel_core.specs.declared.head_fault.HeadOk.{HeadOk}
use Rattle.kernel_core.proofs.DiskLooks.{looks_then, looks_more}
use Rattle.walk_core.specs.Candidates.{is_candidate, AreInOrder}
use Rattle.walk_core.specs.Kernels.{WalkQuestion}
use Rattle.walk_core.specs.Examined.{FoundKernel}
use Rattle.walk_core.specs.Chosen.{sectors_in, head_is_good, head_of, Chosen, IsLowest, later_count_by}
use Rattle.walk_core.specs.Fates.{fate_by, fate, room_having, HasFates, SameButAttributes}
use Rattle.gpt_core.specs.Placing.{with_each}
use Rattle.walk_core.specs.Walks.{sum_below, sectors_for, most_sectors_for, kernel_for, IsKernelOf, Walks}
use Rattle.walk_core.specs.Steps.{entry_at, entry_in_order, sectors_of_rank, most_sectors_of_rank, FindsFirst, Knows, LooksLater, none_later, mark_of}
use Rattle.walk_core.specs.declared.first.Taken.{Taken}
use Rattle.walk_core.specs.declared.later.Later.{Later}
use Rattle.walk_core.proofs.OrderFacts.{ordered}
use Rattle.walk_core.proofs.SameDrives.{drive_now, SameContent, same_content, asked_same, good_head_same}
use Rattle.walk_core.proofs.Marks.{with_each-same, kept_none, each_same}
use Rattle.walk_core.proofs.WalkSums.{sum_most, sum_exact, then_heads, most_least, exact_least}
use Rattle.walk_core.proofs.WalkChosen.{none_chosen, is_chosen, is_lowest, fates_are}

-- ---- what is known of the later ones, by what the drive told before

knows_same : (d : WalkQuestion) (entries ranks : List ℕ) (version count : ℕ) (later : Later) (disk' : DiskState) (hook' : HookState)
    → SameContent d disk' hook'
    → Knows (drive_now d disk' hook') entries ranks version count later → Knows d entries ranks version count later
knows_same d entries ranks version count later disk' hook' same knows =
    let good : (k : ℕ) → head_is_good (drive_now d disk' hook') entries k ≡ head_is_good d entries k =
    λ k. good_head_same d (first_in entries k) (sectors_in entries k) disk' hook' same in
    let versions : (k : ℕ) → (head_of (drive_now d disk' hook') entries k).version ≡ (head_of d entries k).version =
    λ k. ap (λ (q : HeadQuestion). (head_ok q).version) (asked_same d (first_in entries k) disk' hook' same) in
    record {
      sound = λ k marked. sym (good k) ∙ knows.sound k marked;
      complete = λ place inside bad. knows.complete place inside (good (entry_in_order ranks place) ∙ bad);
      given = knows.given;
      least = λ place inside fine. subst (λ (n : ℕ). later.lowest ≤ n) (versions (entry_in_order ranks place))
          (knows.least place inside (good (entry_in_order ranks place) ∙ fine));
      one = elim knows.one [
        | inl given ↦ inl given
        | inr has ↦ inr (record {
          place = has.place;
          inside = has.inside;
          good = sym (good (entry_in_order ranks has.place)) ∙ has.good;
          same = has.same ∙ versions (entry_in_order ranks has.place);
        })
      ];
    }

-- the rest of a list from a place on
pub rest_is : (xs : List ℕ) (n : ℕ) → take (length xs - n) (drop n xs) ≡ drop n xs
rest_is xs n =
    let long = length-drop n xs in
    take_all (length xs - n) (drop n xs) (omega (arith, long))

-- each of those behind a place is the rank of a candidate
pub behind_candidates : (entries ranks : List ℕ) (n : ℕ) → AreInOrder entries ranks → (place : ℕ) → place < length (drop n ranks)
    → is_candidate entries (entry_in_order (drop n ranks) place) ≡ true
behind_candidates entries ranks n are place within =
    let long = length-drop n ranks in
    let far : n + place < length ranks = omega (arith, within, long) in
    ap (λ (r : ℕ). is_candidate entries (entry_at r)) (get_or-drop n ranks place 0)
    ∙ ((ordered entries ranks are).ranked (n + place) far).candidate

-- ---- none is good

pub none_walked : (d : WalkQuestion) (old new : RoomView) (ranks : List ℕ) (disk' : DiskState) (hook' : HookState) (body : List ℕ)
    (marks : List Bool) → AreInOrder old.table.entries ranks
    → FindsFirst d old.table.entries ranks disk' hook' body (Ok None)
    → new ≡ room_having old (with_each 128 (fate_by (mark_of marks) old.table.entries None) old.table.entries)
    → HasFates new.table.entries (fate_by (mark_of marks) old.table.entries None) → SameButAttributes old new
    → Walks d old new disk' hook' body (Ok (record { chosen = None; lowest = d.rules.stored }))
none_walked d old new ranks disk' hook' body marks are finds is each kept =
    let entries = old.table.entries in
    record {
      looks = subst (λ (n : ℕ). LooksAtDisk n d.disk disk' false) (sum_most d entries ranks are) finds.looks;
      asked = finds.asked;
      reads = λ told told'. subst (λ (n : ℕ). disk'.medium.sectors_read ≤ d.disk.medium.sectors_read + n) (sum_exact d entries ranks are)
          (finds.reads told told');
      chosen = λ told told' j below. none_chosen d entries ranks (ordered entries ranks are) (finds.bad told told') j below
          (is_candidate entries j) refl;
      kernel = tt;
      lowest = λ told told'. refl;
      fates = λ told told'. is ∙ ap (λ (e : List ℕ). room_having old e)
          (with_each-same 128 (fate_by (mark_of marks) entries None) (fate d entries None) entries (λ k below. refl));
      each = λ told told'. each_same new.table.entries (fate_by (mark_of marks) entries None) (fate d entries None) (λ k below. refl) each;
      kept = kept;
      failed = tt;
    }

-- ---- failures

pub first_walk_failed : (d : WalkQuestion) (old : RoomView) (ranks : List ℕ) (disk' : DiskState) (hook' : HookState) (body : List ℕ)
    (failure : Failure) → AreInOrder old.table.entries ranks
    → FindsFirst d old.table.entries ranks disk' hook' body (Err failure) → Walks d old old disk' hook' body (Err failure)
first_walk_failed d old ranks disk' hook' body failure are finds =
    let entries = old.table.entries in
    record {
      looks = subst (λ (n : ℕ). LooksAtDisk n d.disk disk' (store_failed {T = Option Taken} (Err failure)))
          (sum_most d entries ranks are) finds.looks;
      asked = finds.asked;
      reads = λ told told'. subst (λ (n : ℕ). disk'.medium.sectors_read ≤ d.disk.medium.sectors_read + n) (sum_exact d entries ranks are)
          (finds.reads told told');
      chosen = λ told told'. tt;
      kernel = tt;
      lowest = λ told told'. tt;
      fates = λ told told'. tt;
      each = λ told told'. tt;
      kept = kept_none old;
      failed = refl;
    }

-- what both steps read
pub record BothLook (d : WalkQuestion) (entries : List ℕ) (disk'' : DiskState) (hook'' : HookState)
    (result : Result Later Failure) : Type 0 where
  pub looks : LooksAtDisk (sum_below 128 (most_sectors_for d entries)) d.disk disk'' (store_failed result)
  pub asked : Asked d.hook hook'' (hook_failed result)
  pub reads : IsTrue d.disk.medium.told → IsTrue d.hook.told
      → disk''.medium.sectors_read ≤ d.disk.medium.sectors_read + sum_below 128 (sectors_for d entries)

sums : (a b c m n s : ℕ) → b ≤ a + m → c ≤ b + n → m + n ≤ s → c ≤ a + s
sums a b c m n s one two e = omega (arith, one, two, e)

both_look : (d : WalkQuestion) (entries ranks : List ℕ) (disk' disk'' : DiskState) (hook' hook'' : HookState) (body : List ℕ)
    (taken : Taken) (version : ℕ) (result : Result Later Failure) → AreInOrder entries ranks
    → FindsFirst d entries ranks disk' hook' body (Ok (Some taken))
    → LooksLater (drive_now d disk' hook') entries (drop (taken.place + 1) ranks) version disk'' hook'' result
    → BothLook d entries disk'' hook'' result
both_look d entries ranks disk' disk'' hook' hook'' body taken version result are finds later =
    let most = sum_by (most_sectors_of_rank d entries) (take (taken.place + 1) ranks) in
    let exact = sum_by (sectors_of_rank d entries) (take (taken.place + 1) ranks) in
    let heads = 128 * length (drop (taken.place + 1) ranks) in
    let same = same_content most d disk' hook' finds.looks finds.asked in
    record {
      looks = subst (λ (n : ℕ). LooksAtDisk n d.disk disk'' (store_failed result)) (sum_most d entries ranks are)
          (looks_more (most + heads) (sum_by (most_sectors_of_rank d entries) ranks) d.disk disk'' (store_failed result)
          (then_heads (most_sectors_of_rank d entries) ranks (taken.place + 1) (most_least d entries))
          (looks_then most heads d.disk disk' disk'' (store_failed result) finds.looks later.looks));
      asked = asked_then d.hook hook' hook'' (hook_failed result) finds.asked later.asked;
      reads = λ told told'. subst (λ (n : ℕ). disk''.medium.sectors_read ≤ d.disk.medium.sectors_read + n) (sum_exact d entries ranks are)
          (sums d.disk.medium.sectors_read disk'.medium.sectors_read disk''.medium.sectors_read exact heads
          (sum_by (sectors_of_rank d entries) ranks)
          (finds.reads told told') (later.looks.no_more (same.told ∙ told))
          (then_heads (sectors_of_rank d entries) ranks (taken.place + 1) (exact_least d entries)));
    }

pub later_walk_failed : (d : WalkQuestion) (old : RoomView) (ranks : List ℕ) (disk' disk'' : DiskState) (hook' hook'' : HookState)
    (body : List ℕ) (taken : Taken) (version : ℕ) (failure : Failure) → AreInOrder old.table.entries ranks
    → FindsFirst d old.table.entries ranks disk' hook' body (Ok (Some taken))
    → LooksLater (drive_now d disk' hook') old.table.entries (drop (taken.place + 1) ranks) version disk'' hook'' (Err failure)
    → Walks d old old disk'' hook'' body (Err failure)
later_walk_failed d old ranks disk' disk'' hook' hook'' body taken version failure are finds later =
    let both = both_look d old.table.entries ranks disk' disk'' hook' hook'' body taken version (Err failure) are finds later in
    record {
      looks = both.looks;
      asked = both.asked;
      reads = both.reads;
      chosen = λ told told'. tt;
      kernel = tt;
      lowest = λ told told'. tt;
      fates = λ told told'. tt;
      each = λ told told'. tt;
      kept = kept_none old;
      failed = refl;
    }

-- ---- one is chosen

back : (k : ℕ) → k + 1 - 1 ≡ k
back k = omega arith

kernel_found : (d : WalkQuestion) (entries : List ℕ) (k : ℕ) (body : List ℕ) (head : HeadOk) → k < 128 → is_candidate entries k ≡ true
    → FoundKernel d (first_in entries k) (sectors_in entries k) body head → IsKernelOf d entries k (kernel_for k head) body
kernel_found d entries k body head below candidate found =
    record { at = record { inside = below; head = head; is = refl; found = found }; candidate = candidate }

pub one_walked : (d : WalkQuestion) (old new : RoomView) (ranks : List ℕ) (disk' disk'' : DiskState) (hook' hook'' : HookState)
    (body : List ℕ) (taken : Taken) (later : Later) → AreInOrder old.table.entries ranks
    → FindsFirst d old.table.entries ranks disk' hook' body (Ok (Some taken))
    → LooksLater (drive_now d disk' hook') old.table.entries (drop (taken.place + 1) ranks) taken.head.version disk'' hook'' (Ok later)
    → new ≡ room_having old (with_each 128 (fate_by (mark_of later.bad) old.table.entries
    (Some (entry_in_order ranks taken.place))) old.table.entries)
    → HasFates new.table.entries (fate_by (mark_of later.bad) old.table.entries (Some (entry_in_order ranks taken.place)))
    → SameButAttributes old new
    → Walks d old new disk'' hook'' body (Ok (record {
      chosen = Some
          (kernel_for (entry_in_order ranks taken.place) taken.head);
      lowest = later.lowest;
    }))
one_walked d old new ranks disk' disk'' hook' hook'' body taken later are finds looks is each kept =
    let entries = old.table.entries in
    let o = ordered entries ranks are in
    let k = entry_in_order ranks taken.place in
    let inside = finds.taken.inside in
    let here = o.ranked taken.place inside in
    let both = both_look d entries ranks disk' disk'' hook' hook'' body taken taken.head.version (Ok later) are finds looks in
    let same = same_content (sum_by (most_sectors_of_rank d entries)
    (take (taken.place + 1) ranks)) d disk' hook' finds.looks finds.asked in
    let version : IsTrue d.disk.medium.told → taken.head.version ≡ (head_of d entries k).version = λ told. ap (λ (h : HeadOk). h.version)
    (finds.taken.found.ok told) in
    let behind = drop (taken.place + 1) ranks in
    let counted : IsTrue d.disk.medium.told → IsTrue d.hook.told → later_count_by d.rules taken.head.version ≡ true
    → Knows d entries behind taken.head.version (length behind) later =
    λ told told' it. knows_same d entries behind taken.head.version (length behind) later disk' hook' same
    (looks.counted (same.told ∙ told) (same.hook_told ∙ told') it) in
    let stored : later_count_by d.rules taken.head.version ≡ false → later ≡ none_later d.rules.stored = λ it. looks.stored it in
    let alike : IsTrue d.disk.medium.told → IsTrue d.hook.told → (j : ℕ) → j < 128
    → fate_by (mark_of later.bad) entries (Some k) j ≡ fate d entries (Some (k + 1 - 1)) j =
    λ told told' j below. fates_are d entries ranks o taken.place later inside taken.head.version (version told)
    (counted told told') stored j below
    ∙ ap (λ (i : ℕ). fate d entries (Some i) j) (sym (back k)) in
    record {
      looks = both.looks;
      asked = both.asked;
      reads = both.reads;
      chosen = λ told told'. subst (λ (j : ℕ). Chosen d entries (Some j)) (sym (back k))
          (is_chosen d entries ranks o taken.place inside (finds.bad told told') (finds.taken.good told told'));
      kernel = subst (λ (j : ℕ). IsKernelOf d entries j (kernel_for k taken.head) body) (sym (back k))
          (kernel_found d entries k body taken.head here.below here.candidate finds.taken.found);
      lowest = λ told told'. subst (λ (j : ℕ). IsLowest d entries (Some j) later.lowest) (sym (back k))
          (is_lowest d entries ranks o taken.place later inside (finds.taken.good told told') taken.head.version (version told)
          (counted told told') stored);
      fates = λ told told'. is ∙ ap (λ (e : List ℕ). room_having old e)
          (with_each-same 128 (fate_by (mark_of later.bad) entries (Some k)) (fate d entries (Some (k + 1 - 1))) entries
          (alike told told'));
      each = λ told told'. each_same new.table.entries (fate_by (mark_of later.bad) entries (Some k)) (fate d entries (Some (k + 1 - 1)))
          (alike told told') each;
      kept = kept;
      failed = tt;
    }
