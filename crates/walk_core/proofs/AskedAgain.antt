-- What is seen on a drive hangs on the rows of the hook, and not on how often it was asked or failed.
use Rattle.std.proofs.Common.{◌≡◌, ℕ, ◌-◌, not, ◌&&◌, List, Option, Some, None, refl, ap, ◌∙◌}
use Rattle.std.specs.Prelude.{IfSome}
use Rattle.std.specs.Str.{bytes_eq}
use Rattle.board_core.specs.Hook.{HookState}
use Rattle.gpt_core.specs.Format.{PartitionTable}
use Rattle.gpt_core.specs.Room.{RoomView}
use Rattle.gpt_core.specs.Tables.{table_on}
use Rattle.walk_core.specs.Kernels.{WalkQuestion}
use Rattle.walk_core.specs.Walks.{IsKernelOf}
use Rattle.walk_core.specs.Seen.{walked_in, table_walked, copies_agree, is_changed, seen_by, seen_in, sectors_of_walk, IsSeen, HoldsWalked}
use Rattle.walk_core.specs.declared.walked.Kernel.{Kernel}
use Rattle.walk_core.specs.declared.walked.Walked.{Walked}
use Rattle.walk_core.specs.declared.drive.Seen.{Seen}
use Rattle.walk_core.specs.declared.drive.Seen.TheVariants as seen
use Rattle.walk_core.proofs.SameDrives.{drive_now, SameContent}
use Rattle.walk_core.proofs.SameChoices.{walked_in_same, table_walked_same, sectors_read_same, kernel_of_same}

-- the drive with the hook as it is now
abbrev pub asked_by : WalkQuestion → HookState → WalkQuestion
asked_by d hook' = drive_now d d.disk hook'

-- a hook with the same rows
pub record SameRows (d : WalkQuestion) (hook' : HookState) : Type 0 where
  pub rows : hook'.rows ≡ d.hook.rows
  pub told : hook'.told ≡ d.hook.told

content_of : (d : WalkQuestion) (hook' : HookState) → SameRows d hook' → SameContent d d.disk hook'
content_of d hook' same = record { bytes = refl; told = refl; rows = same.rows; hook_told = same.told }

pub table_again : (d : WalkQuestion) (table : PartitionTable) (hook' : HookState) → SameRows d hook'
    → table_walked (asked_by d hook') table ≡ table_walked d table
table_again d table hook' same = table_walked_same d table d.disk hook' (content_of d hook' same)

seen_by_same : (d : WalkQuestion) (o : Option PartitionTable) (hook' : HookState) → SameRows d hook'
    → seen_by (asked_by d hook') o ≡ seen_by d o
seen_by_same d None hook' same = refl
seen_by_same d (Some table) hook' same =
    let e = asked_by d hook' in
    ap (λ (w : Walked). seen.Table w (is_changed e table)) (walked_in_same d table.entries d.disk hook' (content_of d hook' same))
    ∙ ap (λ (t : PartitionTable). seen.Table (walked_in d table.entries)
    (not (copies_agree d.disk.medium && bytes_eq t.entries table.entries))) (table_again d table hook' same)

pub seen_again : (d : WalkQuestion) (hook' : HookState) → SameRows d hook' → seen_in (asked_by d hook') ≡ seen_in d
unfolding seen_in
seen_again d hook' same = seen_by_same d (table_on d.disk.medium) hook' same

pub sectors_again : (d : WalkQuestion) (o : Option PartitionTable) (hook' : HookState) → SameRows d hook'
    → sectors_of_walk (asked_by d hook') o ≡ sectors_of_walk d o
sectors_again d None hook' same = refl
sectors_again d (Some table) hook' same = sectors_read_same d table.entries d.disk hook' (content_of d hook' same)

kernel_again : (d : WalkQuestion) (o : Option Kernel) (handed_out : List ℕ) (hook' : HookState) → SameRows d hook'
    → IfSome o (λ (kernel : Kernel). (table : PartitionTable) × (table_on d.disk.medium ≡ Some table) × IsKernelOf
    (asked_by d hook') table.entries (kernel.partition - 1) kernel handed_out)
    → IfSome o (λ (kernel : Kernel). (table : PartitionTable) × (table_on d.disk.medium ≡ Some table) × IsKernelOf d table.entries
    (kernel.partition - 1) kernel handed_out)
kernel_again d None handed_out hook' same is = tt
kernel_again d (Some kernel) handed_out hook' same is =
    (is.0, is.1, kernel_of_same d is.0.entries (kernel.partition - 1) kernel handed_out d.disk hook' (content_of d hook' same) is.2)

pub is_seen_again : (d : WalkQuestion) (handed_out : List ℕ) (what : Seen) (hook' : HookState) → SameRows d hook'
    → IsSeen (asked_by d hook') handed_out what → IsSeen d handed_out what
is_seen_again d handed_out seen.NoTable hook' same is = tt
is_seen_again d handed_out (seen.Table walked changed) hook' same is = kernel_again d walked.chosen handed_out hook' same is

pub holds_again : (d : WalkQuestion) (room : RoomView) (hook' : HookState) → SameRows d hook' → HoldsWalked (asked_by d hook') room
    → HoldsWalked d room
holds_again d room hook' same holds = (holds.0, holds.1, holds.2 ∙ table_again d holds.0 hook' same)
