-- The walk over the kernels of a drive.
-- Source: `vb2api_load_kernel` of vboot_reference (firmware/2lib/2load_kernel.c).
use Rattle.std.specs.Prelude.{◌≡◌, ℕ, zero, suc, ◌+◌, ◌-◌, ◌<◌, ◌≤◌, Bool, not, ◌&&◌, IsTrue}
use Rattle.std.specs.Prelude.{List, Option, Some, None, IfSome, Result, IfOk, OnErr, if◌then◌else◌}
use Rattle.board_core.specs.Disk.{DiskState}
use Rattle.board_core.specs.Hook.{HookState}
use Rattle.gpt_core.specs.Entries.{first_in, all_below}
use Rattle.gpt_core.specs.Room.{RoomView}
use Rattle.chain_core.specs.Accepted.{Asked}
use Rattle.chain_core.specs.Bodies.{store_failed, hook_failed}
use Rattle.chain_core.specs.declared.fault.Failure.{Failure}
use Rattle.kernel_core.specs.KernelBodies.{LooksAtDisk}
use Rattle.walk_core.specs.Candidates.{is_candidate}
use Rattle.walk_core.specs.Kernels.{WalkQuestion}
use Rattle.walk_core.specs.Examined.{FoundKernel, body_sectors}
use Rattle.walk_core.specs.Chosen.{sectors_in, head_is_good, is_good_candidate, comes_before, Chosen, IsLowest}
use Rattle.walk_core.specs.Fates.{fate, table_after, HasFates, SameButAttributes}
use Rattle.kernel_core.specs.declared.head_fault.HeadOk.{HeadOk}
use Rattle.walk_core.specs.declared.walked.Kernel.{Kernel}
use Rattle.walk_core.specs.declared.walked.Walked.{Walked}

-- ---- how many sectors are read

-- the sum over the numbers below this one
unfoldable pub sum_below : ℕ → (ℕ → ℕ) → ℕ
sum_below zero f = 0
sum_below (suc count) f = sum_below count f + f count

-- no good candidate is earlier than this entry
abbrev pub is_reached : WalkQuestion → List ℕ → ℕ → Bool
is_reached d entries k = all_below 128 (λ j. not (is_good_candidate d entries j && comes_before entries j k))

-- those that the body in an entry's partition touches past the first 128
abbrev pub body_sectors_in : WalkQuestion → List ℕ → ℕ → ℕ
body_sectors_in d entries k = body_sectors d (first_in entries k) (sectors_in entries k)

-- those of them that are read: all where its head is good and no good candidate is earlier, and else none
abbrev pub body_sectors_read : WalkQuestion → List ℕ → ℕ → ℕ
body_sectors_read d entries k = if is_reached d entries k && head_is_good d entries k then body_sectors_in d entries k else 0

-- The 128 of each candidate's head, and once those of its body that are read.
abbrev pub sectors_for : WalkQuestion → List ℕ → ℕ → ℕ
sectors_for d entries k = if is_candidate entries k then 128 + body_sectors_read d entries k else 0

-- The same with the bodies of all candidates: more is not read, whatever a hook tells.
abbrev pub most_sectors_for : WalkQuestion → List ℕ → ℕ → ℕ
most_sectors_for d entries k = if is_candidate entries k then 128 + body_sectors_in d entries k else 0

-- ---- the answer

-- the chosen entry that an answer names
abbrev pub entry_of : Option Kernel → Option ℕ
entry_of (Some kernel) = Some (kernel.partition - 1)
entry_of None = None

-- the kernel of a head, of which entry k is
abbrev pub kernel_for : (k : ℕ) → HeadOk → Kernel
kernel_for k head = record { partition = k + 1; version = head.version; load_address = head.load_address; body_len = head.body_len }

-- The kernel is the one in the partition of an entry, by its head, its body and all its signatures. Whether the entry may be booted is not
-- asked.
pub record IsKernelAt (d : WalkQuestion) (entries : List ℕ) (k : ℕ) (kernel : Kernel) (handed_out : List ℕ) : Type 0 where
  pub inside : k < 128
  pub head : HeadOk
  pub is : kernel ≡ kernel_for k head
  pub found : FoundKernel d (first_in entries k) (sectors_in entries k) handed_out head

-- The kernel that was taken is that of a candidate.
pub record IsKernelOf (d : WalkQuestion) (entries : List ℕ) (k : ℕ) (kernel : Kernel) (handed_out : List ℕ) : Type 0 where
  pub at : IsKernelAt d entries k kernel handed_out
  pub candidate : IsTrue (is_candidate entries k)

-- ---- the call

-- The walk over the kernels of a drive, of which the room holds a table.
pub record Walks (d : WalkQuestion) (old new : RoomView) (disk' : DiskState) (hook' : HookState) (handed_out : List ℕ)
    (result : Result Walked Failure) : Type 0 where
  -- a disk or a hook that failed counted it once, and they hold what they held
  pub looks : LooksAtDisk (sum_below 128 (most_sectors_for d old.table.entries)) d.disk disk' (store_failed result)
  pub asked : Asked d.hook hook' (hook_failed result)
  -- so many sectors were read at most, whatever the answer
  pub reads : IsTrue d.disk.medium.told → IsTrue d.hook.told
      → disk'.medium.sectors_read ≤ d.disk.medium.sectors_read + sum_below 128 (sectors_for d old.table.entries)
  -- the chosen entry, and what was read and handed out of it
  pub chosen : IsTrue d.disk.medium.told → IsTrue d.hook.told → IfOk result (λ walked. Chosen d old.table.entries (entry_of walked.chosen))
  pub kernel : IfOk result (λ walked. IfSome walked.chosen (λ kernel.
      IsKernelOf d old.table.entries (kernel.partition - 1) kernel handed_out))
  -- the least version
  pub lowest : IsTrue d.disk.medium.told → IsTrue d.hook.told → IfOk result (λ walked.
      IsLowest d old.table.entries (entry_of walked.chosen) walked.lowest)
  -- the room holds the table after all fates: each entry has met its own, and whatever the answer all else stays
  pub fates : IsTrue d.disk.medium.told → IsTrue d.hook.told → IfOk result (λ walked.
      new ≡ record old { table = table_after d (entry_of walked.chosen) old.table })
  pub each : IsTrue d.disk.medium.told → IsTrue d.hook.told → IfOk result (λ walked.
      HasFates new.table.entries (fate d old.table.entries (entry_of walked.chosen)))
  pub kept : SameButAttributes old new
  pub failed : OnErr result (new ≡ old)
