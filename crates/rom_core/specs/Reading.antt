-- What the calls that read the map of a flash do: they change nothing, and answer what the flash holds.
use Rattle.std.specs.Prelude.{◌≡◌, ◌⊎◌, ℕ, ◌+◌, ◌*◌, ◌%◌, ◌≤◌, ◌<◌, true, false, IsTrue, if◌then◌else◌, List, length, Option, Some, None, Result, is_err, IfOk, IfErr, IfSome, IfNone, OnOk}
use Rattle.wire_core.specs.FirstFault.{first_fault}
use Rattle.board_core.specs.declared.device.Failed.{Failed}
use Rattle.board_core.specs.Counters.{Observed}
use Rattle.board_core.specs.Flash.{FlashMedium, FlashState, range}
use Rattle.rom_core.specs.declared.map.Map.{Map}
use Rattle.rom_core.specs.declared.fault.MapFault.{MapFault}
use Rattle.rom_core.specs.Map.{count_of, head_at, is_map_head, is_map_at, rows_in, areas_in, StandingMap, area_lines, MapQuestion, standing_map, map_lines}
use Rattle.rom_core.specs.MapFits.{FitsFlash, IsApart}

-- the count of areas in the head of a map, where these bytes are one
abbrev pub map_count : (size at : ℕ) → List ℕ → Option ℕ
map_count size at head = if is_map_head size at head then Some (count_of head) else None

-- what is asked of a flash
abbrev pub map_question : ℕ → FlashMedium → MapQuestion
map_question at medium = record { size = medium.size; bytes = medium.bytes; at = at }

-- the map at a place, which has so many rows
abbrev pub map_of_rows : (at count : ℕ) → FlashMedium → StandingMap
map_of_rows at count medium = record { size = medium.size; at = at; rows = rows_in count (range medium.bytes (at + 56) (42 * count)) }

-- The rows of a map are read, which are so many, and its areas are checked.
pub record ReadsAreas (at count : ℕ) (old new : FlashState) (result : Result (Result Map MapFault) Failed) : Type 0 where
  pub counters : Observed old.counters new.counters (is_err result)
  pub medium : new.medium ≡ old.medium
  pub fault : IsTrue old.medium.told → IfOk result
      (λ answer. IfErr answer (λ fault. first_fault area_lines (map_of_rows at count old.medium) ≡ Some fault))
  pub none : IsTrue old.medium.told → IfOk result (λ answer. OnOk answer (first_fault area_lines (map_of_rows at count old.medium) ≡ None))
  pub areas : IsTrue old.medium.told → IfOk result
      (λ answer. IfOk answer (λ map. areas_in (map_of_rows at count old.medium).rows ≡ Some map))
  pub fits : IfOk result (λ answer. IfOk answer (FitsFlash old.medium.size))
  pub apart : IfOk result (λ answer. IfOk answer (IsApart at count))

-- The map at a place is read.
pub record ReadsMap (at : ℕ) (old new : FlashState) (result : Result (Result Map MapFault) Failed) : Type 0 where
  pub counters : Observed old.counters new.counters (is_err result)
  pub medium : new.medium ≡ old.medium
  -- the fault is that of the map table, and there is none where areas are answered
  pub fault : IsTrue old.medium.told → IfOk result
      (λ answer. IfErr answer (λ fault. first_fault map_lines (map_question at old.medium) ≡ Some fault))
  pub none : IsTrue old.medium.told → IfOk result (λ answer. OnOk answer (first_fault map_lines (map_question at old.medium) ≡ None))
  -- the areas are those that the rows name
  pub areas : IsTrue old.medium.told → IfOk result
      (λ answer. IfOk answer (λ map. areas_in (standing_map (map_question at old.medium)).rows ≡ Some map))
  -- whatever the flash tells, they fit it
  pub fits : IfOk result (λ answer. IfOk answer (FitsFlash old.medium.size))
  -- the pages of nvdata are none of the bytes that the map and the other areas have
  pub apart : IsTrue old.medium.told → IfOk result (λ answer. IfOk answer (IsApart at (count_of (head_at old.medium.bytes at))))

-- ---- looking for a map

-- no map stands at a multiple of 64 from a place on and under a limit
abbrev pub NoMapFrom : (size : ℕ) → List ℕ → ℕ → ℕ → Type 0
NoMapFrom size bytes from limit = (place : ℕ) → from ≤ place → place < limit → place % 64 ≡ 0 → is_map_at size bytes place ≡ false

-- the lowest multiple of 64 from a place on at which a map stands
pub record IsLowestMap (size : ℕ) (bytes : List ℕ) (from at : ℕ) : Type 0 where
  pub behind : from ≤ at
  pub multiple : at % 64 ≡ 0
  pub stands : is_map_at size bytes at ≡ true
  pub lowest : NoMapFrom size bytes from at

-- no map stands at a multiple of 64, and 0 is answered
pub record HasNoMap (size : ℕ) (bytes : List ℕ) (at : ℕ) : Type 0 where
  pub zero : at ≡ 0
  pub none : NoMapFrom size bytes 0 size

-- The place of the map is looked for.
pub record Locates (old new : FlashState) (result : Result ℕ Failed) : Type 0 where
  pub counters : Observed old.counters new.counters (is_err result)
  pub medium : new.medium ≡ old.medium
  pub place : IsTrue old.medium.told → IfOk result (λ at.
      IsLowestMap old.medium.size old.medium.bytes 0 at ⊎ HasNoMap old.medium.size old.medium.bytes at)

-- a page is looked through, from its first byte on
pub record LooksThrough (at : ℕ) (old new : FlashState) (result : Result (Option ℕ) Failed) : Type 0 where
  pub counters : Observed old.counters new.counters (is_err result)
  pub medium : new.medium ≡ old.medium
  pub found : IsTrue old.medium.told → IfOk result (λ found. IfSome found (IsLowestMap old.medium.size old.medium.bytes at))
  pub none : IsTrue old.medium.told → IfOk result (λ found. IfNone found (NoMapFrom old.medium.size old.medium.bytes at (at + 4096)))

-- ---- in the bytes of a page

-- no head of a map stands at a multiple of 64 under a limit
abbrev pub NoHeadBelow : (size at : ℕ) → List ℕ → ℕ → Type 0
NoHeadBelow size at page limit =
    (place : ℕ) → place < limit → place + 56 ≤ length page → place % 64 ≡ 0 → is_map_head size (at + place) (range page place 56) ≡ false

-- the first head of a map in a page, which begins at a place of the flash
pub record IsFirstHead (size at : ℕ) (page : List ℕ) (found : ℕ) : Type 0 where
  pub place : ℕ
  pub found_at : found ≡ at + place
  pub multiple : place % 64 ≡ 0
  pub inside : place + 56 ≤ length page
  pub stands : is_map_head size found (range page place 56) ≡ true
  pub none_below : NoHeadBelow size at page place
