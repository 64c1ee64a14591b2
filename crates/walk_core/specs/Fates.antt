-- What becomes of the attributes of each entry of a table after a walk. Entry k here is the one of index k + 1.
-- Source: `vb2api_load_kernel` of vboot_reference (firmware/2lib/2load_kernel.c), and `GptUpdateKernelEntry`
-- (firmware/lib/cgptlib/cgptlib.c).
use Rattle.std.specs.Prelude.{◌≡◌, ℕ, zero, suc, ◌+◌, ◌*◌, ◌<◌, Bool, false, not, ◌&&◌, ◌||◌, nat_eq}
use Rattle.std.specs.Prelude.{List, length, Option, Some, None, if◌then◌else◌}
use Rattle.board_core.specs.Flash.{range}
use Rattle.gpt_core.specs.Entries.{attributes_in, with_attributes}
use Rattle.gpt_core.specs.Format.{PartitionTable}
use Rattle.gpt_core.specs.Placing.{with_each}
use Rattle.gpt_core.specs.Room.{RoomView}
use Rattle.walk_core.specs.Attributes.{tried, found_bad}
use Rattle.walk_core.specs.Candidates.{is_candidate}
use Rattle.walk_core.specs.Kernels.{WalkQuestion}
use Rattle.walk_core.specs.Chosen.{head_is_good, comes_before, later_count}

-- ---- the fate of one entry

-- the chosen one is tried
abbrev pub is_tried : (chosen : Option ℕ) → ℕ → Bool
is_tried None k = false
is_tried (Some chosen) k = nat_eq chosen k

-- Each candidate is bad where none is chosen. Else those are that are earlier than the chosen one, and later ones of which
-- it is told.
abbrev pub is_bad : (later_is_bad : ℕ → Bool) → List ℕ → (chosen : Option ℕ) → ℕ → Bool
is_bad later_is_bad entries None k = is_candidate entries k
is_bad later_is_bad entries (Some chosen) k =
    is_candidate entries k && (comes_before entries k chosen || (comes_before entries chosen k && later_is_bad k))

-- its attributes after a walk
abbrev pub fate_by : (later_is_bad : ℕ → Bool) → List ℕ → (chosen : Option ℕ) → ℕ → ℕ
fate_by later_is_bad entries chosen k =
    if is_tried chosen k then tried (attributes_in entries k)
    else (if is_bad later_is_bad entries chosen k then found_bad (attributes_in entries k) else attributes_in entries k)

-- A later one is bad where later ones count, and its head is not good.
abbrev pub has_bad_head : WalkQuestion → List ℕ → (chosen : Option ℕ) → ℕ → Bool
has_bad_head d entries None k = false
has_bad_head d entries (Some chosen) k = later_count d entries chosen && not (head_is_good d entries k)

abbrev pub fate : WalkQuestion → List ℕ → (chosen : Option ℕ) → ℕ → ℕ
fate d entries chosen k = fate_by (has_bad_head d entries chosen) entries chosen k

-- ---- the table after all of them

-- each entry has these attributes
abbrev pub HasFates : List ℕ → (ℕ → ℕ) → Type 0
HasFates entries fates = (k : ℕ) → k < 128 → attributes_in entries k ≡ fates k

-- the entries after a walk, of which the later bad ones are told
abbrev pub marked_entries : (later_is_bad : ℕ → Bool) → List ℕ → (chosen : Option ℕ) → List ℕ
marked_entries later_is_bad entries chosen = with_each 128 (fate_by later_is_bad entries chosen) entries

-- the room with these entries in its table
abbrev pub room_having : RoomView → List ℕ → RoomView
room_having room entries = record room { table = record room.table { entries = entries } }

-- All but the attributes of the entries in the table of a room is as it was.
pub record SameButAttributes (old new : RoomView) : Type 0 where
  pub room : new ≡ room_having old new.table.entries
  pub size : length new.table.entries ≡ length old.table.entries
  -- of each entry the two GUIDs and the two sectors, which are the 48 bytes before its attributes
  pub front : (k : ℕ) → k < 128 → range new.table.entries (128 * k) 48 ≡ range old.table.entries (128 * k) 48
  -- and its name, which is the 72 bytes behind them
  pub name : (k : ℕ) → k < 128 → range new.table.entries (128 * k + 56) 72 ≡ range old.table.entries (128 * k + 56) 72

-- the table in which each entry has met its fate
abbrev pub table_after : WalkQuestion → (chosen : Option ℕ) → PartitionTable → PartitionTable
table_after d chosen table = record table { entries = with_each 128 (fate d table.entries chosen) table.entries }
