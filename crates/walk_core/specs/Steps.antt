-- The steps of a walk: the candidates in turn up to the first good one, then the heads of the later ones, then the marks.
-- Each candidate is named by its rank.
use Rattle.std.specs.Prelude.{◌≡◌, ℕ, ◌+◌, ◌*◌, ◌%◌, ◌<◌, ◌≤◌, ◌⊎◌, Bool, true, false, ◌&&◌, ◌||◌, nat_eq, nat_lt, min, IsTrue, List}
use Rattle.std.specs.Prelude.{length, get_or, set, take, replicate, sum_by}
use Rattle.std.specs.Prelude.{Option, Some, None, IfSome, Result, Ok, Err, IfOk, if◌then◌else◌}
use Rattle.board_core.specs.Disk.{DiskState}
use Rattle.board_core.specs.Hook.{HookState}
use Rattle.gpt_core.specs.Entries.{first_in}
use Rattle.gpt_core.specs.declared.entry.Entry.{Entry}
use Rattle.gpt_core.specs.Room.{RoomView}
use Rattle.chain_core.specs.Accepted.{Asked}
use Rattle.chain_core.specs.Bodies.{store_failed, hook_failed}
use Rattle.chain_core.specs.declared.fault.Failure.{Failure}
use Rattle.kernel_core.specs.KernelBodies.{LooksAtDisk}
use Rattle.kernel_core.specs.declared.head_fault.HeadOk.{HeadOk}
use Rattle.walk_core.specs.Attributes.{tried, found_bad}
use Rattle.walk_core.specs.Candidates.{is_kernel_candidate, is_candidate, rank}
use Rattle.walk_core.specs.Kernels.{WalkQuestion}
use Rattle.walk_core.specs.Examined.{FoundKernel}
use Rattle.walk_core.specs.Chosen.{sectors_in, head_is_good, kernel_is_good, head_of, later_count_by}
use Rattle.walk_core.specs.Fates.{fate_by, marked_entries, room_having, HasFates, SameButAttributes}
use Rattle.walk_core.specs.Walks.{body_sectors_in, body_sectors_read}
use Rattle.walk_core.specs.declared.first.Taken.{Taken}
use Rattle.walk_core.specs.declared.later.Later.{Later}

-- the entry of a rank
abbrev pub entry_at : ℕ → ℕ
entry_at rank = rank % 128

-- the entry at a place of a list of ranks
abbrev pub entry_in_order : List ℕ → ℕ → ℕ
entry_in_order ranks place = entry_at (get_or ranks place 0)

-- each of these ranks is that of a candidate
abbrev pub AreCandidates : (entries ranks : List ℕ) → Type 0
AreCandidates entries ranks = (place : ℕ) → place < length ranks → is_candidate entries (entry_in_order ranks place) ≡ true

-- ---- the sectors of the candidate of a rank

-- its head's, and those of its body that are read
abbrev pub sectors_of_rank : WalkQuestion → List ℕ → ℕ → ℕ
sectors_of_rank d entries rank = 128 + body_sectors_read d entries (entry_at rank)

-- its head's and its body's
abbrev pub most_sectors_of_rank : WalkQuestion → List ℕ → ℕ → ℕ
most_sectors_of_rank d entries rank = 128 + body_sectors_in d entries (entry_at rank)

-- ---- up to the first good one

-- the ranks that were gone through
abbrev pub gone_through : List ℕ → Result (Option Taken) Failure → List ℕ
gone_through ranks (Ok (Some taken)) = take (taken.place + 1) ranks
gone_through ranks (Ok None) = ranks
gone_through ranks (Err failure) = ranks

-- how many of them were not good
abbrev pub bad_before : List ℕ → Option Taken → ℕ
bad_before ranks (Some taken) = taken.place
bad_before ranks None = length ranks

-- The first good one was taken.
pub record TakesKernel (d : WalkQuestion) (entries ranks : List ℕ) (handed_out : List ℕ) (taken : Taken) : Type 0 where
  pub inside : taken.place < length ranks
  pub found : FoundKernel d (first_in entries (entry_in_order ranks taken.place)) (sectors_in entries (entry_in_order ranks taken.place))
      handed_out taken.head
  pub good : IsTrue d.disk.medium.told → IsTrue d.hook.told → kernel_is_good d entries (entry_in_order ranks taken.place) ≡ true

pub record FindsFirst (d : WalkQuestion) (entries ranks : List ℕ) (disk' : DiskState) (hook' : HookState) (handed_out : List ℕ)
    (result : Result (Option Taken) Failure) : Type 0 where
  pub looks : LooksAtDisk (sum_by (most_sectors_of_rank d entries) (gone_through ranks result)) d.disk disk' (store_failed result)
  pub asked : Asked d.hook hook' (hook_failed result)
  pub reads : IsTrue d.disk.medium.told → IsTrue d.hook.told
      → disk'.medium.sectors_read ≤ d.disk.medium.sectors_read + sum_by (sectors_of_rank d entries) (gone_through ranks result)
  -- those before it are not good
  pub bad : IsTrue d.disk.medium.told → IsTrue d.hook.told → IfOk result (λ found.
      (place : ℕ) → place < bad_before ranks found → kernel_is_good d entries (entry_in_order ranks place) ≡ false)
  pub taken : IfOk result (λ found. IfSome found (TakesKernel d entries ranks handed_out))

-- ---- the later ones

-- a later head was good or not
abbrev pub noted : Later → (rank : ℕ) → Option HeadOk → Later
noted later rank (Some head) = record later { lowest = min later.lowest head.version }
noted later rank None = record later { bad = set later.bad (entry_at rank) true }

-- A good head among those of the first so many of these ranks has this version.
pub record HasVersion (d : WalkQuestion) (entries ranks : List ℕ) (count version : ℕ) : Type 0 where
  pub place : ℕ
  pub inside : place < count
  pub good : head_is_good d entries (entry_in_order ranks place) ≡ true
  pub same : version ≡ (head_of d entries (entry_in_order ranks place)).version

-- What is known of the candidates of the first so many of these ranks, which are behind the chosen one of this version.
pub record Knows (d : WalkQuestion) (entries ranks : List ℕ) (version count : ℕ) (later : Later) : Type 0 where
  -- those that are marked have a bad head, and those that have one are marked
  pub sound : (k : ℕ) → get_or later.bad k false ≡ true → head_is_good d entries k ≡ false
  pub complete : (place : ℕ) → place < count → head_is_good d entries (entry_in_order ranks place) ≡ false
      → get_or later.bad (entry_in_order ranks place) false ≡ true
  -- the version is over neither the given one nor those of the good heads, and is one of these
  pub given : later.lowest ≤ version
  pub least : (place : ℕ) → place < count → head_is_good d entries (entry_in_order ranks place) ≡ true
      → later.lowest ≤ (head_of d entries (entry_in_order ranks place)).version
  pub one : (later.lowest ≡ version) ⊎ HasVersion d entries ranks count later.lowest

-- no later one counts
abbrev pub none_later : (lowest : ℕ) → Later
none_later lowest = record { lowest = lowest; bad = replicate 128 false }

-- The heads of the candidates of these ranks, which are behind one with this version, are examined where they count.
pub record LooksLater (d : WalkQuestion) (entries ranks : List ℕ) (version : ℕ) (disk' : DiskState) (hook' : HookState)
    (result : Result Later Failure) : Type 0 where
  pub looks : LooksAtDisk (128 * length ranks) d.disk disk' (store_failed result)
  pub asked : Asked d.hook hook' (hook_failed result)
  pub counted : IsTrue d.disk.medium.told → IsTrue d.hook.told → later_count_by d.rules version ≡ true
      → IfOk result (Knows d entries ranks version (length ranks))
  pub stored : later_count_by d.rules version ≡ false → IfOk result (λ later. later ≡ none_later d.rules.stored)

-- The same where they count.
pub record CountsLater (d : WalkQuestion) (entries ranks : List ℕ) (version : ℕ) (disk' : DiskState) (hook' : HookState)
    (result : Result Later Failure) : Type 0 where
  pub looks : LooksAtDisk (128 * length ranks) d.disk disk' (store_failed result)
  pub asked : Asked d.hook hook' (hook_failed result)
  pub knows : IsTrue d.disk.medium.told → IsTrue d.hook.told → IfOk result (Knows d entries ranks version (length ranks))

-- ---- the marks

-- the entry that was chosen, by its rank
abbrev pub chosen_at : Option ℕ → Option ℕ
chosen_at (Some rank) = Some (entry_at rank)
chosen_at None = None

-- the fate of a candidate by its rank
abbrev pub is_bad_at : (bad_head : Bool) (rank : ℕ) → (chosen : Option ℕ) → Bool
is_bad_at bad_head rank None = true
is_bad_at bad_head rank (Some chosen) = nat_lt rank chosen || (nat_lt chosen rank && bad_head)

-- it is the chosen one
abbrev pub is_tried_at : ℕ → (chosen : Option ℕ) → Bool
is_tried_at k None = false
is_tried_at k (Some chosen) = nat_eq (entry_at chosen) k

-- the attributes of entry k after the walk
abbrev pub fate_at : (bad_head : Bool) → Entry → (k : ℕ) → (chosen : Option ℕ) → ℕ
fate_at bad_head entry k chosen =
    if is_tried_at k chosen then tried entry.attributes
    else (if is_kernel_candidate entry.kind entry.attributes && is_bad_at bad_head (rank entry.attributes k) chosen
    then found_bad entry.attributes else entry.attributes)

-- what a list of marks says of entry k
abbrev pub mark_of : List Bool → ℕ → Bool
mark_of marks k = get_or marks k false

-- The call that marks the entries of a room.
pub record MarksEntries (later_is_bad : ℕ → Bool) (chosen : Option ℕ) (old new : RoomView) : Type 0 where
  pub marked : new ≡ room_having old (marked_entries later_is_bad old.table.entries chosen)
  pub each : HasFates new.table.entries (fate_by later_is_bad old.table.entries chosen)
  pub kept : SameButAttributes old new
