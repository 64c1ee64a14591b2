-- What showing a flash does.
use Rattle.std.specs.Prelude.{◌≡◌, ℕ, ◌≤◌, Bool, true, false, IsTrue, List, ◌++◌, length, take, Some, None, Result, Ok, Err}
use Rattle.wire_core.specs.FirstFault.{first_fault}
use Rattle.board_core.specs.Counters.{Observed, CountsFaults}
use Rattle.board_core.specs.Flash.{FlashMedium, FlashState}
use Rattle.board_core.specs.Streams.{StreamState}
use Rattle.rom_core.specs.declared.map.Map.{Map}
use Rattle.rom_core.specs.Map.{areas_in, standing_map, map_lines}
use Rattle.rom_core.specs.Reading.{map_question}
use Rattle.show_core.specs.declared.show.ShowFault.{ShowFault}
use Rattle.show_core.specs.declared.show.ShowFault.TheVariants.{Device, BadFlash, Write}
use Rattle.show_core.specs.Facts.{flash_facts}
use Rattle.show_core.specs.Text.{facts_text}

-- The text of a flash: the map at the place has no fault, and this is the text of what is shown.
pub record IsTextOf (at : ℕ) (medium : FlashMedium) (text : List ℕ) : Type 0 where
  pub map : Map
  pub areas : areas_in (standing_map (map_question at medium)).rows ≡ Some map
  pub none : first_fault map_lines (map_question at medium) ≡ None
  pub text_of : text ≡ facts_text (flash_facts at map medium)

-- the answer is that the flash failed
abbrev pub is_device : Result Unit ShowFault → Bool
is_device (Err Device) = true
is_device other = false

-- the answer is that the sink failed
abbrev pub is_write : Result Unit ShowFault → Bool
is_write (Err Write) = true
is_write other = false

-- nothing of the flash was shown: it failed, or its map has a fault
abbrev pub IsUnshown : Result Unit ShowFault → Type 0
IsUnshown (Err Device) = Unit {0}
IsUnshown (Err (BadFlash fault)) = Unit {0}
IsUnshown other = ⊥

-- what was put, where flash and sink tell what they hold
abbrev pub PutsText : (at : ℕ) → FlashMedium → List ℕ → List ℕ → Result Unit ShowFault → Type 0
PutsText at medium old new (Ok done) = (text : List ℕ) × IsTextOf at medium text × (new ≡ old ++ text)
PutsText at medium old new (Err Write) =
    (text : List ℕ) × IsTextOf at medium text × ((count : ℕ) × (count ≤ length text) × (new ≡ old ++ take count text))
PutsText at medium old new (Err Device) = new ≡ old
PutsText at medium old new (Err (BadFlash fault)) = (first_fault map_lines (map_question at medium) ≡ Some fault) × (new ≡ old)

-- A flash is shown, whose map is looked for at a place.
pub record ShowsFlash (at : ℕ) (old new : FlashState) (put put' : StreamState) (result : Result Unit ShowFault) : Type 0 where
  -- the flash counted one failed call where it is said to have failed, and none else; it holds what it held
  pub counters : Observed old.counters new.counters (is_device result)
  pub medium : new.medium ≡ old.medium
  -- so did the sink
  pub faults : CountsFaults put.faults put'.faults (is_write result)
  pub told : put'.told ≡ put.told
  -- the whole text was put; or a front of it, where the sink failed; or nothing
  pub texts : IsTrue old.medium.told → IsTrue put.told → PutsText at old.medium put.bytes put'.bytes result
  -- whatever the flash tells, nothing was put where it failed or its map has a fault
  pub nothing : IsTrue put.told → IsUnshown result → put'.bytes ≡ put.bytes
