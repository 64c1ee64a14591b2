-- Two drives of which disk and hook hold the same, and which are asked with one key and the same rules, tell the same of a table.
use Rattle.std.proofs.Common.{◌≡◌, ℕ, zero, suc, ◌+◌, min, Bool, not, ◌&&◌, ◌||◌, List, Option, Some, None, refl, ap, ◌∙◌}
use Rattle.std.specs.Prelude.{nat_eq, if◌then◌else◌}
use Rattle.board_core.specs.Disk.{DiskState}
use Rattle.board_core.specs.Hook.{HookState}
use Rattle.gpt_core.specs.Entries.{first_in, all_below, with_attributes}
use Rattle.gpt_core.specs.Format.{PartitionTable}
use Rattle.kernel_core.specs.Heads.{HeadQuestion, head_ok}
use Rattle.kernel_core.specs.declared.head_fault.HeadOk.{HeadOk}
use Rattle.walk_core.specs.Candidates.{is_candidate}
use Rattle.walk_core.specs.Kernels.{WalkQuestion}
use Rattle.walk_core.specs.Chosen.{sectors_in, head_is_good, is_good_candidate, head_of, comes_before, later_count_by, later_count}
use Rattle.walk_core.specs.Choice.{earlier_of, chosen_below, chosen_in, counts, least_below, lowest_in}
use Rattle.walk_core.specs.Fates.{fate_by, has_bad_head, fate, table_after}
use Rattle.gpt_core.specs.Placing.{with_each}
use Rattle.walk_core.specs.Walks.{sum_below, is_reached, body_sectors_in, body_sectors_read, sectors_for, IsKernelOf}
use Rattle.walk_core.specs.Seen.{kernel_at, walked_in, table_walked}
use Rattle.walk_core.specs.declared.walked.Kernel.{Kernel}
use Rattle.walk_core.specs.declared.walked.Walked.{Walked}
use Rattle.walk_core.proofs.SameDrives.{drive_now, SameContent, asked_same, good_head_same, good_same, sectors_same, found_same}

-- ---- one entry

pub head_good_same : (d : WalkQuestion) (entries : List ℕ) (k : ℕ) (disk' : DiskState) (hook' : HookState) → SameContent d disk' hook'
    → head_is_good (drive_now d disk' hook') entries k ≡ head_is_good d entries k
head_good_same d entries k disk' hook' same = good_head_same d (first_in entries k) (sectors_in entries k) disk' hook' same

pub candidate_same : (d : WalkQuestion) (entries : List ℕ) (k : ℕ) (disk' : DiskState) (hook' : HookState) → SameContent d disk' hook'
    → is_good_candidate (drive_now d disk' hook') entries k ≡ is_good_candidate d entries k
candidate_same d entries k disk' hook' same =
    ap (λ (b : Bool). is_candidate entries k && b) (good_same d (first_in entries k) (sectors_in entries k) disk' hook' same)

pub head_of_same : (d : WalkQuestion) (entries : List ℕ) (k : ℕ) (disk' : DiskState) (hook' : HookState) → SameContent d disk' hook'
    → head_of (drive_now d disk' hook') entries k ≡ head_of d entries k
head_of_same d entries k disk' hook' same = ap (λ (q : HeadQuestion). head_ok q) (asked_same d (first_in entries k) disk' hook' same)

-- ---- the chosen one

chosen_below_same : (n : ℕ) (d : WalkQuestion) (entries : List ℕ) (disk' : DiskState) (hook' : HookState) → SameContent d disk' hook'
    → chosen_below n (drive_now d disk' hook') entries ≡ chosen_below n d entries
unfolding chosen_below
chosen_below_same zero d entries disk' hook' same = refl
chosen_below_same (suc n) d entries disk' hook' same =
    let e = drive_now d disk' hook' in
    ap (λ (b : Bool). if b then earlier_of entries (chosen_below n e entries) n else chosen_below n e entries)
    (candidate_same d entries n disk' hook' same)
    ∙ ap (λ (o : Option ℕ). if is_good_candidate d entries n then earlier_of entries o n else o)
    (chosen_below_same n d entries disk' hook' same)

pub chosen_in_same : (d : WalkQuestion) (entries : List ℕ) (disk' : DiskState) (hook' : HookState) → SameContent d disk' hook'
    → chosen_in (drive_now d disk' hook') entries ≡ chosen_in d entries
chosen_in_same d entries disk' hook' same = chosen_below_same 128 d entries disk' hook' same

-- ---- the least version

later_count_same : (d : WalkQuestion) (entries : List ℕ) (chosen : ℕ) (disk' : DiskState) (hook' : HookState) → SameContent d disk' hook'
    → later_count (drive_now d disk' hook') entries chosen ≡ later_count d entries chosen
later_count_same d entries chosen disk' hook' same = ap (λ (h : HeadOk). later_count_by d.rules h.version)
    (head_of_same d entries chosen disk' hook' same)

counts_same : (d : WalkQuestion) (entries : List ℕ) (chosen k : ℕ) (disk' : DiskState) (hook' : HookState) → SameContent d disk' hook'
    → counts (drive_now d disk' hook') entries chosen k ≡ counts d entries chosen k
counts_same d entries chosen k disk' hook' same =
    ap (λ (b : Bool). is_candidate entries k && b && (nat_eq k chosen || comes_before entries chosen k))
    (head_good_same d entries k disk' hook' same)

least_below_same : (n : ℕ) (d : WalkQuestion) (entries : List ℕ) (chosen : ℕ) (disk' : DiskState) (hook' : HookState)
    → SameContent d disk' hook'
    → least_below n (drive_now d disk' hook') entries chosen ≡ least_below n d entries chosen
unfolding least_below
least_below_same zero d entries chosen disk' hook' same = ap (λ (h : HeadOk). h.version) (head_of_same d entries chosen disk' hook' same)
least_below_same (suc n) d entries chosen disk' hook' same =
    let e = drive_now d disk' hook' in
    ap (λ (b : Bool). if b then min (least_below n e entries chosen) (head_of e entries n).version else least_below n e entries chosen)
    (counts_same d entries chosen n disk' hook' same)
    ∙ ap (λ (m : ℕ). if counts d entries chosen n then min m (head_of e entries n).version else m)
    (least_below_same n d entries chosen disk' hook' same)
    ∙ ap (λ (h : HeadOk). if counts d entries chosen n then min
    (least_below n d entries chosen) h.version else least_below n d entries chosen) (head_of_same d entries n disk' hook' same)

lowest_in_same : (d : WalkQuestion) (entries : List ℕ) (chosen : Option ℕ) (disk' : DiskState) (hook' : HookState)
    → SameContent d disk' hook'
    → lowest_in (drive_now d disk' hook') entries chosen ≡ lowest_in d entries chosen
lowest_in_same d entries None disk' hook' same = refl
lowest_in_same d entries (Some chosen) disk' hook' same =
    ap (λ (b : Bool). if b then least_below 128 (drive_now d disk' hook') entries chosen else d.rules.stored)
    (later_count_same d entries chosen disk' hook' same)
    ∙ ap (λ (m : ℕ). if later_count d entries chosen then m else d.rules.stored) (least_below_same 128 d entries chosen disk' hook' same)

-- ---- what the walk comes to

kernel_at_same : (d : WalkQuestion) (entries : List ℕ) (chosen : Option ℕ) (disk' : DiskState) (hook' : HookState)
    → SameContent d disk' hook'
    → kernel_at (drive_now d disk' hook') entries chosen ≡ kernel_at d entries chosen
kernel_at_same d entries None disk' hook' same = refl
kernel_at_same d entries (Some k) disk' hook' same =
    ap (λ (h : HeadOk). let kernel : Kernel = record { partition = k + 1; version = h.version; load_address = h.load_address; body_len = h.body_len } in Some kernel)
    (head_of_same d entries k disk' hook' same)

pub walked_in_same : (d : WalkQuestion) (entries : List ℕ) (disk' : DiskState) (hook' : HookState) → SameContent d disk' hook'
    → walked_in (drive_now d disk' hook') entries ≡ walked_in d entries
walked_in_same d entries disk' hook' same =
    let e = drive_now d disk' hook' in
    ap (λ (c : Option ℕ). let w : Walked = record { chosen = kernel_at e entries c; lowest = lowest_in e entries c } in w)
    (chosen_in_same d entries disk' hook' same)
    ∙ ap (λ (k : Option Kernel). let w : Walked = record { chosen = k; lowest = lowest_in e entries (chosen_in d entries) } in w)
    (kernel_at_same d entries (chosen_in d entries) disk' hook' same)
    ∙ ap (λ (m : ℕ). let w : Walked = record { chosen = kernel_at d entries (chosen_in d entries); lowest = m } in w)
    (lowest_in_same d entries (chosen_in d entries) disk' hook' same)

-- ---- the fates

bad_head_same : (d : WalkQuestion) (entries : List ℕ) (chosen : Option ℕ) (k : ℕ) (disk' : DiskState) (hook' : HookState)
    → SameContent d disk' hook'
    → has_bad_head (drive_now d disk' hook') entries chosen k ≡ has_bad_head d entries chosen k
bad_head_same d entries None k disk' hook' same = refl
bad_head_same d entries (Some chosen) k disk' hook' same =
    ap (λ (b : Bool). b && not (head_is_good (drive_now d disk' hook') entries k)) (later_count_same d entries chosen disk' hook' same)
    ∙ ap (λ (b : Bool). later_count d entries chosen && not b) (head_good_same d entries k disk' hook' same)

fate_same : (d : WalkQuestion) (entries : List ℕ) (chosen : Option ℕ) (k : ℕ) (disk' : DiskState) (hook' : HookState)
    → SameContent d disk' hook'
    → fate (drive_now d disk' hook') entries chosen k ≡ fate d entries chosen k
fate_same d entries None k disk' hook' same = refl
fate_same d entries (Some chosen) k disk' hook' same =
    ap (λ (b : Bool). fate_by (λ j. b) entries (Some chosen) k) (bad_head_same d entries (Some chosen) k disk' hook' same)

with_each_same : (n : ℕ) (f g : ℕ → ℕ) (entries : List ℕ) → ((k : ℕ) → f k ≡ g k) → with_each n f entries ≡ with_each n g entries
unfolding with_each
with_each_same zero f g entries each = refl
with_each_same (suc n) f g entries each =
    ap (λ (a : ℕ). with_attributes (with_each n f entries) n a) (each n)
    ∙ ap (λ (es : List ℕ). with_attributes es n (g n)) (with_each_same n f g entries each)

pub table_walked_same : (d : WalkQuestion) (table : PartitionTable) (disk' : DiskState) (hook' : HookState) → SameContent d disk' hook'
    → table_walked (drive_now d disk' hook') table ≡ table_walked d table
table_walked_same d table disk' hook' same =
    let e = drive_now d disk' hook' in
    ap (λ (c : Option ℕ). table_after e c table) (chosen_in_same d table.entries disk' hook' same)
    ∙ ap (λ (es : List ℕ). let t : PartitionTable = record table { entries = es } in t)
    (with_each_same 128 (fate e table.entries (chosen_in d table.entries)) (fate d table.entries (chosen_in d table.entries)) table.entries
    (λ k. fate_same d table.entries (chosen_in d table.entries) k disk' hook' same))

-- ---- the sectors that are read

all_below_same : (n : ℕ) (f g : ℕ → Bool) → ((k : ℕ) → f k ≡ g k) → all_below n f ≡ all_below n g
unfolding all_below
all_below_same zero f g each = refl
all_below_same (suc n) f g each = ap (λ (b : Bool). b && all_below n f) (each n) ∙ ap (λ (b : Bool). g n && b) (all_below_same n f g each)

reached_same : (d : WalkQuestion) (entries : List ℕ) (k : ℕ) (disk' : DiskState) (hook' : HookState) → SameContent d disk' hook'
    → is_reached (drive_now d disk' hook') entries k ≡ is_reached d entries k
reached_same d entries k disk' hook' same =
    all_below_same 128 (λ j. not (is_good_candidate (drive_now d disk' hook') entries j && comes_before entries j k))
    (λ j. not (is_good_candidate d entries j && comes_before entries j k))
    (λ j. ap (λ (b : Bool). not (b && comes_before entries j k)) (candidate_same d entries j disk' hook' same))

body_read_same : (d : WalkQuestion) (entries : List ℕ) (k : ℕ) (disk' : DiskState) (hook' : HookState) → SameContent d disk' hook'
    → body_sectors_read (drive_now d disk' hook') entries k ≡ body_sectors_read d entries k
body_read_same d entries k disk' hook' same =
    let e = drive_now d disk' hook' in
    ap (λ (b : Bool). if b && head_is_good e entries k then body_sectors_in e entries k else 0) (reached_same d entries k disk' hook' same)
    ∙ ap (λ (b : Bool). if is_reached d entries k && b then body_sectors_in e entries k else 0)
    (head_good_same d entries k disk' hook' same)
    ∙ ap (λ (n : ℕ). if is_reached d entries k && head_is_good d entries k then n else 0)
    (sectors_same d (first_in entries k) (sectors_in entries k) disk' hook' same)

sum_same : (n : ℕ) (f g : ℕ → ℕ) → ((k : ℕ) → f k ≡ g k) → sum_below n f ≡ sum_below n g
unfolding sum_below
sum_same zero f g each = refl
sum_same (suc n) f g each = ap (λ (m : ℕ). m + f n) (sum_same n f g each) ∙ ap (λ (m : ℕ). sum_below n g + m) (each n)

pub sectors_read_same : (d : WalkQuestion) (entries : List ℕ) (disk' : DiskState) (hook' : HookState) → SameContent d disk' hook'
    → sum_below 128 (sectors_for (drive_now d disk' hook') entries) ≡ sum_below 128 (sectors_for d entries)
sectors_read_same d entries disk' hook' same =
    sum_same 128 (sectors_for (drive_now d disk' hook') entries) (sectors_for d entries)
    (λ k. ap (λ (n : ℕ). if is_candidate entries k then 128 + n else 0) (body_read_same d entries k disk' hook' same))

-- ---- the kernel that was taken

pub kernel_of_same : (d : WalkQuestion) (entries : List ℕ) (k : ℕ) (kernel : Kernel) (handed_out : List ℕ) (disk' : DiskState) (hook' : HookState)
    → SameContent d disk' hook' → IsKernelOf (drive_now d disk' hook') entries k kernel handed_out → IsKernelOf d entries k kernel handed_out
kernel_of_same d entries k kernel handed_out disk' hook' same is = record {
  at = record {
    inside = is.at.inside;
    head = is.at.head;
    is = is.at.is;
    found = found_same d (first_in entries k) (sectors_in entries k) disk' hook' handed_out is.at.head same is.at.found;
  };
  candidate = is.candidate;
}
