-- What the calls that read the facts of a flash do: they change nothing, and answer what the flash holds.
use Rattle.std.specs.Prelude.{◌≡◌, ℕ, IsTrue, Some, None, Result, is_err, IfOk, IfErr, OnOk}
use Rattle.wire_core.specs.FirstFault.{first_fault}
use Rattle.board_core.specs.declared.device.Failed.{Failed}
use Rattle.board_core.specs.Counters.{Observed}
use Rattle.board_core.specs.Flash.{FlashState}
use Rattle.key_core.specs.declared.fault.KeyblockFault.{KeyblockFault}
use Rattle.rom_core.specs.declared.area.Area.{Area}
use Rattle.rom_core.specs.declared.map.Map.{Map}
use Rattle.rom_core.specs.declared.fault.MapFault.{MapFault}
use Rattle.rom_core.specs.declared.fault.GbbFault.{GbbFault}
use Rattle.rom_core.specs.Gbb.{area_bytes}
use Rattle.rom_core.specs.Map.{areas_in, standing_map, map_lines}
use Rattle.rom_core.specs.Reading.{map_question}
use Rattle.show_core.specs.declared.facts.FlashFacts.{FlashFacts}
use Rattle.show_core.specs.declared.facts.GbbFacts.{GbbFacts}
use Rattle.show_core.specs.declared.facts.SlotFacts.{SlotFacts}
use Rattle.show_core.specs.Facts.{gbb_facts, slot_facts, flash_facts}

-- The facts of the GBB in an area are read.
pub record ReadsGbbFacts (area : Area) (old new : FlashState) (result : Result (Result GbbFacts GbbFault) Failed) : Type 0 where
  pub counters : Observed old.counters new.counters (is_err result)
  pub medium : new.medium ≡ old.medium
  pub facts : IsTrue old.medium.told → IfOk result (λ facts. facts ≡ gbb_facts (area_bytes area old.medium))

-- The facts of the slot in an area are read.
pub record ReadsSlot (area : Area) (old new : FlashState) (result : Result (Result SlotFacts KeyblockFault) Failed) : Type 0 where
  pub counters : Observed old.counters new.counters (is_err result)
  pub medium : new.medium ≡ old.medium
  pub facts : IsTrue old.medium.told → IfOk result (λ facts. facts ≡ slot_facts (area_bytes area old.medium))

-- The facts of a flash with these areas are read.
pub record ReadsAreas (at : ℕ) (map : Map) (old new : FlashState) (result : Result FlashFacts Failed) : Type 0 where
  pub counters : Observed old.counters new.counters (is_err result)
  pub medium : new.medium ≡ old.medium
  pub facts : IsTrue old.medium.told → IfOk result (λ facts. facts ≡ flash_facts at map old.medium)

-- The facts of a flash are read, whose map is looked for at a place.
pub record ReadsFacts (at : ℕ) (old new : FlashState) (result : Result (Result FlashFacts MapFault) Failed) : Type 0 where
  pub counters : Observed old.counters new.counters (is_err result)
  pub medium : new.medium ≡ old.medium
  -- the fault is that of the map table, and there is none where facts are answered
  pub fault : IsTrue old.medium.told → IfOk result
      (λ answer. IfErr answer (λ fault. first_fault map_lines (map_question at old.medium) ≡ Some fault))
  pub none : IsTrue old.medium.told → IfOk result (λ answer. OnOk answer (first_fault map_lines (map_question at old.medium) ≡ None))
  -- the areas are those that the rows of the map name, and the facts those of the areas
  pub areas : IsTrue old.medium.told → IfOk result
      (λ answer. IfOk answer (λ facts. areas_in (standing_map (map_question at old.medium)).rows ≡ Some facts.map))
  pub facts : IsTrue old.medium.told → IfOk result (λ answer. IfOk answer (λ facts. facts ≡ flash_facts at facts.map old.medium))
