-- What a flash in memory is, and what its failed changes leave.
use Rattle.std.specs.Prelude.{◌≡◌, ℕ, List, [], ◌∷◌, ◌++◌, true, length}
use Rattle.board_core.specs.declared.torn.Torn.{Torn}
use Rattle.board_core.specs.Counters.{plain_counters}
use Rattle.board_core.specs.Flash.{FlashState, range, spliced}
use Rattle.board_core.specs.Torn.{torn_records}
use Rattle.board_mem.specs.declared.fails.Remains.{Remains}
use Rattle.board_mem.specs.declared.mem_flash.MemFlash.{MemFlash}
use Rattle.board_mem.specs.Fails.{Plan, plan_of, left_by}

abbrev pub mem_flash_state : MemFlash → FlashState
mem_flash_state flash = record {
  medium = record { size = length flash.bytes.items; told = true; bytes = flash.bytes.items; torn = flash.torn.items ∷ [] };
  counters = plain_counters flash.faults flash.failed_changes;
}

-- which of its calls are to fail
abbrev pub mem_flash_plan : MemFlash → Plan
mem_flash_plan flash = plan_of flash.schedule

-- its torn records, the oldest first
abbrev pub mem_flash_torn : MemFlash → List Torn
mem_flash_torn flash = flash.torn.items

-- the bytes that stand after a failed change of a range
abbrev pub range_left : Remains → ℕ → List ℕ → List ℕ → List ℕ
range_left remains at meant bytes = left_by remains (range bytes at (length meant)) meant

-- A change of a range that failed: what remains stands in all of the range, and all of the range is noted as torn.
pub record LeavesRange (remains : Remains) (at : ℕ) (meant : List ℕ) (old new : MemFlash) : Type 0 where
  pub bytes : (mem_flash_state new).medium.bytes ≡ spliced (mem_flash_state old).medium.bytes at
      (range_left remains at meant (mem_flash_state old).medium.bytes)
  pub torn : mem_flash_torn new ≡ mem_flash_torn old
      ++ torn_records at (range (mem_flash_state old).medium.bytes at (length meant)) meant
      (range_left remains at meant (mem_flash_state old).medium.bytes)
